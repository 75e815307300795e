-- Where a timer of a line runs, and which of its places rest.
use Rattle.lapd_clock.proofs.Vocabulary.{◌≡◌, ℕ, ◌+◌, ◌-◌, ◌*◌, ◌/◌, ◌<◌, ◌≤◌, ◌&&◌, ◌==◌, true, false, List, length, get_or, get_or-map, sym, ap, ◌∙◌, subst, arith, nat_tests, inl, inr, cases_eq, cases_lt, All, HoldsAt, Timer, Expiry, is_same, never}
use Rattle.std.specs.List.{between}
use Rattle.std.proofs.lemmas.List.Edits.{get_or-between, length-between}
use Rattle.std.proofs.Math.Nat.{div-mul-le_self, lt-div-mul-add}
use Rattle.lapd_clock.specs.Bounds.{AreBounded, IsLead}
use Rattle.lapd_clock.specs.OwnPlaces.{at, expiry_of, expiries_of, is_full, is_nowhere, nothing, place_runs, RestsAt, RunsAt}
use Rattle.lapd_clock.specs.declared.moments.lead.Lead.{Lead}
use Rattle.lapd_clock.specs.declared.moments.place.Place.{Place}
use Rattle.lapd_clock.proofs.Bounds.{its-line, line-within, line-there as there-line}
use Rattle.lapd_clock.proofs.OwnPlace.{nowhere, runs_at}
use Rattle.lapd_clock.proofs.Standing.{rests, same_count}

rests-not : (p : Place) (line : ℕ) (timer : Timer) → p.moment ≡ never → place_runs line timer p ≡ false
rests-not p line timer is = ap (λ b. b && ((p.line == line) && is_same p.timer timer)) (rests (expiry_of p) (omega (arith, is)))

of-other : (p : Place) (line : ℕ) (timer : Timer) → (p.line ≡ line → ⊥) → place_runs line timer p ≡ false
of-other p line timer apart = grind (arith, nat_tests, place_runs)

module _ (each line : ℕ) (bounds : List ℕ) (leads : List Lead) (ps : List Place) (es : List Expiry) (is : expiries_of ps ≡ es) (h : AreBounded each bounds leads ps) (there : line < length leads) where
  abbrev begin : ℕ
  begin = line * each

  line-there : line < length bounds
  line-there = omega (arith, there, h.same)

  pub to-end : begin + each ≤ length ps
  to-end = line-within each line bounds leads ps h line-there

  -- the places of the line that have been used
  module _ (lead : Lead) (lead_is : lead ≡ get_or leads line lead) where
    led : IsLead begin each (get_or bounds line 0) lead ps
    led = subst (λ l. IsLead begin each (get_or bounds line 0) l ps) (sym lead_is) (h.led line lead line-there)

    pub used-within : begin + lead.used ≤ length ps
    used-within = omega (arith, led.fit, to-end)

    module _ (its : List Place) (cut : its ≡ between begin (begin + lead.used) ps) (timer : Timer) where
      many : length its ≡ lead.used
      many = ap length cut ∙ length-between ps begin (begin + lead.used) used-within ∙ omega arith

      cut-at : (r : ℕ) (d : Place) → r < length its → get_or its r d ≡ get_or ps (begin + r) d
      cut-at r d within = ap (λ xs. get_or xs r d) cut ∙ get_or-between ps begin (begin + lead.used) r d (omega (arith, within, many))

      pub found : (r : ℕ) → r < length its → HoldsAt (λ p. place_runs line timer p ≡ true) its r → RunsAt (begin + r) line timer es
      found r within runs = subst (RunsAt (begin + r) line timer) is
          (runs_at ps (begin + r) line timer (omega (arith, within, many, used-within)) (λ d. subst (λ p. place_runs line timer p ≡ true) (cut-at r d within) (runs d)))

      pub not_found : All (λ p. place_runs line timer p ≡ false) its → is_nowhere line timer es
      not_found none = subst (λ xs. is_nowhere line timer xs) is (nowhere ps line timer (λ k d within. each-not k d within))
        where
          at-offset : (k : ℕ) (d : Place) → begin ≤ k → get_or ps (begin + (k - begin)) d ≡ get_or ps k d
          at-offset k d from = ap (λ n. get_or ps n d) (omega (arith, from))

          each-not : (k : ℕ) (d : Place) → k < length ps → place_runs line timer (get_or ps k d) ≡ false
          each-not k d within = elim (cases_eq (k / each) line) [
            | inr apart ↦ of-other (get_or ps k d) line timer (λ own. apart (sym (h.of_line k d within) ∙ own))
            | inl own ↦
                let from : begin ≤ k = subst (λ n. n * each ≤ k) own (div-mul-le_self k each) in
                let to : k < begin + each = subst (λ n. k < n * each + each) own (lt-div-mul-add (omega (arith, h.some))) in
                elim (cases_lt k (begin + lead.used)) [
                  | inl used ↦ subst (λ p. place_runs line timer p ≡ false)
                      (cut-at (k - begin) d (omega (arith, used, from, many)) ∙ at-offset k d from)
                      (none (k - begin) d (omega (arith, used, from, many)))
                  | inr rest ↦ rests-not (get_or ps k d) line timer (led.rest k d rest to)
                ]
          ]

  -- all places of the line
  module _ (its : List Place) (cut : its ≡ between begin (begin + each) ps) where
    many-all : length its ≡ each
    many-all = ap length cut ∙ length-between ps begin (begin + each) to-end ∙ omega arith

    at-place : (r : ℕ) (d : Place) → r < length its → get_or its r d ≡ get_or ps (begin + r) d
    at-place r d within = ap (λ xs. get_or xs r d) cut ∙ get_or-between ps begin (begin + each) r d (omega (arith, within, many-all))

    stands : (i : ℕ) (d : Place) → i < length ps → at i es ≡ expiry_of (get_or ps i d)
    stands i d within = ap (at i) (sym is) ∙ get_or-map expiry_of ps i d nothing within

    pub free-at : (r : ℕ) (d : Place) → r < length its → HoldsAt (λ (p : Place). p.moment ≡ never) its r → RestsAt (begin + r) line es
    free-at r d within rest =
        let there-too : begin + r < length ps = omega (arith, within, many-all, to-end) in
        record {
          within = omega (arith, there-too, same_count ps, ap length is);
          its_line = ap (λ (e : Expiry). e.line) (stands (begin + r) d there-too) ∙ h.of_line (begin + r) d there-too
              ∙ its-line each line (begin + r) (record { low = omega arith; high = omega (arith, within, many-all) });
          rests = ap (λ (e : Expiry). e.moment) (stands (begin + r) d there-too) ∙ ap (λ (p : Place). p.moment) (sym (at-place r d within)) ∙ rest d;
        }

    pub full : (d : Place) → All (λ (p : Place). p.moment < never) its → is_full line es
    full d run i within own =
        let inside : i < length ps = omega (arith, within, same_count ps, ap length is) in
        let on-line : i / each ≡ line = sym (ap (λ (e : Expiry). e.line) (stands i d inside) ∙ h.of_line i d inside) ∙ own in
        let from : begin ≤ i = subst (λ n. n * each ≤ i) on-line (div-mul-le_self i each) in
        let to : i < begin + each = subst (λ n. i < n * each + each) on-line (lt-div-mul-add (omega (arith, h.some))) in
        let there-too : i - begin < length its = omega (arith, from, to, many-all) in
        let same : get_or its (i - begin) d ≡ get_or ps i d = at-place (i - begin) d there-too ∙ ap (λ n. get_or ps n d) (omega (arith, from)) in
        subst (λ (e : Expiry). e.moment < never) (sym (stands i d inside)) (subst (λ (p : Place). p.moment < never) same (run (i - begin) d there-too))

-- a line that is not there has no place
pub none-there : (each line : ℕ) (bounds : List ℕ) (leads : List Lead) (ps : List Place) (es : List Expiry) → expiries_of ps ≡ es → AreBounded each bounds leads ps → length leads ≤ line → (d : Place) → (i : ℕ) → i < length es → (at i es).line ≡ line → ⊥
none-there each line bounds leads ps es is h after d i within own =
    let inside : i < length ps = omega (arith, within, same_count ps, ap length is) in
    let its = ap (λ (e : Expiry). e.line) (ap (at i) (sym is) ∙ get_or-map expiry_of ps i d nothing inside) ∙ h.of_line i d inside in
    omega (arith, after, own, its, h.same, there-line each i bounds leads ps h inside)

pub nowhere-there : (each line : ℕ) (bounds : List ℕ) (leads : List Lead) (ps : List Place) (es : List Expiry) (timer : Timer) → expiries_of ps ≡ es → AreBounded each bounds leads ps → length leads ≤ line → is_nowhere line timer es
nowhere-there each line bounds leads ps es timer is h after =
    subst (λ xs. is_nowhere line timer xs) is
    (nowhere ps line timer (λ k d within. of-other (get_or ps k d) line timer (λ own. absurd (omega (arith, after, own, h.of_line k d within, h.same, there-line each k bounds leads ps h within)))))
