-- The least moment of all lines is that of the timer that falls due first.
use Rattle.lapd_clock.proofs.Vocabulary.{◌≡◌, ℕ, ◌*◌, ◌<◌, ◌≤◌, nat_lt, List, [], ◌∷◌, length, get_or, get_or_default, get_or-map, slice_index, None, Some, refl, sym, ap, ◌∙◌, subst, arith, IsFirstBest, Expiry, first_moment, in_order, never}
use Rattle.lapd_clock.specs.Bounds.{AreBounded}
use Rattle.lapd_clock.specs.OwnPlaces.{at, expiry_of, expiries_of, nothing, timers_in, AreNotBefore}
use Rattle.lapd_clock.specs.declared.moments.lead.Lead.{Lead}
use Rattle.lapd_clock.specs.declared.moments.place.Place.{Place}
use Rattle.lapd_clock.proofs.Bounds.{least-before, line-within, some-lead, some-place}
use Rattle.lapd_clock.proofs.Calls.{first-at}
use Rattle.lapd_clock.proofs.Standing.{none_left, same_count}

-- where there is no line, there is no place
pub none-at-all : (each : ℕ) (bounds : List ℕ) (leads : List Lead) (ps : List Place) (es : List Expiry) → expiries_of ps ≡ es → AreBounded each bounds leads ps → length bounds ≡ 0 → None ≡ first_moment (timers_in es)
unfolding in_order
none-at-all each bounds leads [] es is h size = ap (λ xs. first_moment (timers_in xs)) is
none-at-all each bounds leads (p ∷ ps) es is h size = absurd (omega (arith, h.count ∙ ap (λ n. n * each) size))

module _ (each line d m : ℕ) (bounds : List ℕ) (leads : List Lead) (ps : List Place) (es : List Expiry) (is : expiries_of ps ≡ es) (h : AreBounded each bounds leads ps)
    (least : IsFirstBest nat_lt bounds (length bounds) line) (m_at : m ≡ get_or bounds line d) where
  m_is : m ≡ slice_index bounds line
  m_is = m_at ∙ get_or_default bounds line d 0 least.0

  late : AreNotBefore m es
  late = subst (AreNotBefore m) is (least-before m each line bounds leads ps h least m_is)

  pub none-runs : m ≡ never → None ≡ first_moment (timers_in es)
  none-runs rests = sym (ap first_moment (none_left m es (omega (arith, rests)) late)) ∙ refl

  pub soonest-is : (m ≡ never → ⊥) → m ≤ never → Some m ≡ first_moment (timers_in es)
  soonest-is runs small =
      let led = h.led line some-lead least.0 in
      let place = (get_or leads line some-lead).place in
      let within : place < length ps = omega (arith, led.high, line-within each line bounds leads ps h least.0) in
      let at_it : (at place es).moment ≡ m = ap (λ (e : Expiry). e.moment) (ap (at place) (sym is) ∙ get_or-map expiry_of ps place some-place nothing within) ∙ led.is some-place ∙ sym m_is in
      sym (first-at es place m (omega (arith, within, same_count ps, ap length is)) at_it (less small runs) late)
    where
      less : {a b : ℕ} → a ≤ b → (a ≡ b → ⊥) → a < b
      less le ne = grind arith
