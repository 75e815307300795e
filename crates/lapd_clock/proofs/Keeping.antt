-- What is kept of a card, when a timer is started or stopped.
use Rattle.lapd_clock.proofs.Vocabulary.{◌≡◌, Bool, true, false, ℕ, zero, suc, ◌+◌, ◌*◌, ◌/◌, ◌<◌, ◌≤◌, List, [], ◌∷◌, length, length-set, get_or, set, slice_index, refl, sym, ap, ◌∙◌, subst, arith, inl, inr, cases_lt, cases_eq, get_or_default, never, Timer}
use Rattle.std.proofs.lemmas.Bool.{false≢true}
use Rattle.std.proofs.lemmas.List.{get_or-set_other}
use Rattle.std.proofs.lemmas.Grind.{get_or-set_at}
use Rattle.lapd_clock.specs.Bounds.{IsLead, IsSooner, AreKept, AreNoEarlier}
use Rattle.lapd_clock.specs.OwnPlaces.{IsBeside}
use Rattle.lapd_clock.specs.declared.moments.lead.Lead.{Lead}
use Rattle.lapd_clock.specs.declared.moments.place.Place.{Place}
use Rattle.lapd_clock.proofs.Standing.{no_sooner, set_later}
use Rattle.lapd_clock.proofs.Bounds.{IsOfLine, of-its-line, line-there, line-within, own-line, its-line, changed, some-lead, some-place}
use Rattle.lapd_clock.proofs.Leading.{leads-on, leads-still, takes-over, takes-turn}

-- no line has a bound before which it has a timer
pub none-earlier : (not_before found each : ℕ) (bounds : List ℕ) (leads : List Lead) (ps : List Place) → AreKept not_before found each bounds leads ps → AreNoEarlier not_before found bounds
none-earlier not_before found each bounds leads ps h = record {
  none_before = λ k there. let its = h.bounded.led k some-lead there in let l = get_or leads k some-lead in
      subst (λ m. not_before ≤ m) (its.is some-place) (no_sooner not_before ps l.place some-place (omega (arith, its.high, line-within each k bounds leads ps h.bounded there)) h.none_before);
  later = h.later;
}

-- a place of a line changes, and so do its lead and what is kept of all
module _ (not_before found each place line : ℕ) (bounds : List ℕ) (leads : List Lead) (ps : List Place) (h : AreKept not_before found each bounds leads ps) (within : place < length ps) (line_is : line ≡ place / each) where
  its-there : line < length bounds
  its-there = subst (λ n. n < length bounds) (sym line_is) (line-there each place bounds leads ps h.bounded within)

  -- the new bound of its line is one that a place had, or that of the place
  no-less : (result m : ℕ) (lead : Lead) (p : Place) → IsLead (line * each) each result lead (set ps place p) → m < p.moment → m < slice_index bounds line → m < result
  no-less result m lead p its less more = subst (λ n. m < n) (its.is some-place) (elim (cases_eq lead.place place) [
    | inl is ↦ subst (λ (q : Place). m < q.moment) (sym (get_or-set_at ps place lead.place p some-place is within)) less
    | inr apart ↦ subst (λ (q : Place). m < q.moment) (sym (get_or-set_other ps place lead.place p some-place apart))
        (omega (arith, more, (h.bounded.led line some-lead its-there).least lead.place some-place its.low its.high))
  ])

  pub kept-at : (after now result : ℕ) (lead : Lead) (p : Place) → p.line ≡ line → IsSooner not_before found line p.moment after now → IsLead (line * each) each result lead (set ps place p)
      → AreKept after now each (set bounds line result) (set leads line lead) (set ps place p)
  kept-at after now result lead p own sooner its = record {
    bounded = changed each line place result bounds leads lead ps p h.bounded within line_is own its;
    none_before = set_later after not_before ps place p sooner.less sooner.own h.none_before;
    later = λ k before there. elim (cases_eq k line) [
      | inl is ↦ subst (λ m. after < m) (sym (get_or-set_at bounds line k result 0 is its-there))
          (no-less result after lead p its (sooner.its_line (subst (λ n. n < now) is before)) (subst (λ n. after < slice_index bounds n) is (still k before (omega (arith, there, length-set bounds line result)))))
      | inr apart ↦ subst (λ m. after < m) (sym (get_or-set_other bounds line k result 0 apart)) (still k before (omega (arith, there, length-set bounds line result)))
    ];
  }
    where
      still : (k : ℕ) → k < now → k < length bounds → after < slice_index bounds k
      still k before there = elim (cases_lt k found) [
        | inl seen ↦ omega (arith, sooner.less, h.later k seen there)
        | inr unseen ↦ omega (arith, sooner.other_line (omega (arith, before, unseen)), (none-earlier not_before found each bounds leads ps h).none_before k there)
      ]

module _ (not_before found each place : ℕ) (bounds : List ℕ) (leads : List Lead) (ps : List Place) (u : Place) (h : AreKept not_before found each bounds leads ps) (within : place < length ps) (at_it : u ≡ get_or ps place u) where
  line_is : u.line ≡ place / each
  line_is = own-line each bounds leads ps place u h.bounded within at_it

  pub of-line : IsOfLine each u.line place
  of-line = of-its-line each u.line place h.bounded.some line_is

  pub there : u.line < length bounds
  there = subst (λ n. n < length bounds) (sym line_is) (line-there each place bounds leads ps h.bounded within)

  pub in-places : u.line * each + each ≤ length ps
  in-places = line-within each u.line bounds leads ps h.bounded there

  -- the lead of its line, as it is read
  pub its-lead : (l : Lead) (b : ℕ) → l ≡ get_or leads u.line l → b ≡ get_or bounds u.line b → IsLead (u.line * each) each b l ps
  its-lead l b l_is b_is =
      subst (λ m. IsLead (u.line * each) each m l ps) (sym (b_is ∙ get_or_default bounds u.line b 0 there))
      (subst (λ k. IsLead (u.line * each) each (slice_index bounds u.line) k ps) (sym l_is) (h.bounded.led u.line l there))

  pub used-within : (l : Lead) (b : ℕ) (now : List Place) (p : Place) → l ≡ get_or leads u.line l → b ≡ get_or bounds u.line b → now ≡ set ps place p → u.line * each + l.used ≤ length now
  used-within l b now p l_is b_is is = omega (arith, (its-lead l b l_is b_is).fit, in-places, ap length is, length-set ps place p)

  pub lead-within : (l : Lead) (b : ℕ) (now : List Place) (p : Place) → l ≡ get_or leads u.line l → b ≡ get_or bounds u.line b → now ≡ set ps place p → l.place < length now
  lead-within l b now p l_is b_is is = omega (arith, (its-lead l b l_is b_is).high, in-places, ap length is, length-set ps place p)

  pub kept-after : (after now result : ℕ) (lead : Lead) (p : Place) → p.line ≡ u.line → IsSooner not_before found u.line p.moment after now → IsLead (u.line * each) each result lead (set ps place p)
      → AreKept after now each (set bounds u.line result) (set leads u.line lead) (set ps place p)
  kept-after after now result lead p own sooner its = kept-at not_before found each place u.line bounds leads ps h within line_is after now result lead p own sooner its

set-own : (leads : List Lead) (i : ℕ) (l : Lead) → l ≡ get_or leads i l → set leads i l ≡ leads
set-own [] i l is = refl
set-own (x ∷ xs) zero l is = ap (λ y. y ∷ xs) is
set-own (x ∷ xs) (suc i) l is = ap (λ ys. x ∷ ys) (set-own xs i l is)

set-again : {X : Type 0} (xs : List X) (i : ℕ) (a b : X) → set (set xs i a) i b ≡ set xs i b
set-again [] i a b = refl
set-again (x ∷ xs) zero a b = refl
set-again (x ∷ xs) (suc i) a b = ap (λ ys. x ∷ ys) (set-again xs i a b)

-- the place that leads is started anew, no later than the others
module _ (not_before found each line : ℕ) (bounds : List ℕ) (leads : List Lead) (ps : List Place) (l : Lead) (u : Place) (h : AreKept not_before found each bounds leads ps) (line_there : line < length leads) (l_is : l ≡ get_or leads line l)
    (at_it : u ≡ get_or ps l.place u) where
  there-too : line < length bounds
  there-too = omega (arith, line_there, h.bounded.same)

  led : IsLead (line * each) each (slice_index bounds line) l ps
  led = subst (λ k. IsLead (line * each) each (slice_index bounds line) k ps) (sym l_is) (h.bounded.led line l there-too)

  pub place-there : l.place < length ps
  place-there = omega (arith, led.high, line-within each line bounds leads ps h.bounded there-too)

  line-at : line ≡ l.place / each
  line-at = sym (its-line each line l.place (record { low = led.low; high = led.high }))

  pub of-this-line : u.line ≡ line
  of-this-line = own-line each bounds leads ps l.place u h.bounded place-there at_it ∙ sym line-at

  is-used : (u.moment ≡ never → ⊥) → l.place + 1 ≤ line * each + l.used
  is-used runs = elim (cases_lt l.place (line * each + l.used)) [
    | inl before ↦ omega (arith, before)
    | inr after ↦ absurd (runs (ap (λ (q : Place). q.moment) at_it ∙ led.rest l.place u after led.high))
  ]

  pub restarted : (moment : ℕ) → u.moment ≤ moment → moment ≤ l.others → (u.moment ≡ never → ⊥)
      → AreKept not_before found each (set bounds line moment) leads (set ps l.place (record u { moment = moment }))
  restarted moment later late runs =
      let p : Place = record u { moment = moment } in
      let soon_at : not_before ≤ (get_or ps l.place u).moment = no_sooner not_before ps l.place u place-there h.none_before in
      let still = leads-still (line * each) each (slice_index bounds line) l.place l.used l ps p led led.low led.high (line-within each line bounds leads ps h.bounded there-too) (omega arith) (is-used runs) led.fit refl late in
      subst (λ ls. AreKept not_before found each (set bounds line moment) ls (set ps l.place p)) (set-own leads line l l_is)
      (kept-at not_before found each l.place line bounds leads ps h place-there line-at not_before found moment l p of-this-line (record {
        less = omega arith;
        own = omega (arith, later, soon_at, ap (λ (q : Place). q.moment) at_it);
        its_line = λ before. omega (arith, h.later line before there-too, led.is u, ap (λ (q : Place). q.moment) at_it, later);
        other_line = λ before. absurd (omega (arith, before));
      }) still)

  -- or it is stopped, and another of its line is started that is no later than the others
  module _ (j used : ℕ) (v w : Place) (timer : Timer) (moment : ℕ) (j_there : j < length ps) (v_at : v ≡ get_or ps j v) (v_line : v.line ≡ line) (apart : j ≡ l.place → ⊥)
      (w_at : w ≡ get_or (set ps j (record v { moment = moment; timer = timer })) l.place w) (soon : moment ≤ l.others) (small : l.others ≤ never)
      (raised : l.used ≤ used) (mine : j + 1 ≤ line * each + used) (fit : used ≤ each) where
    abbrev started : Place
    started = record v { moment = moment; timer = timer }

    abbrev between-both : List Place
    between-both = set ps j started

    line-at-j : line ≡ j / each
    line-at-j = sym v_line ∙ own-line each bounds leads ps j v h.bounded j_there v_at

    j-of-line : IsOfLine each line j
    j-of-line = of-its-line each line j h.bounded.some line-at-j

    w-line : w.line ≡ line
    w-line = ap (λ (q : Place). q.line) (w_at ∙ get_or-set_other ps j l.place started w (λ e. apart (sym e))) ∙ h.bounded.of_line l.place w place-there ∙ sym line-at

    pub exchanged : (after now : ℕ) → IsSooner not_before found line moment after now
        → AreKept after now each (set bounds line moment) (set leads line (record { place = j; others = l.others; used = used })) (set between-both l.place (record w { moment = never }))
    exchanged after now sooner = elim (cases_lt moment (slice_index bounds line)) [
      | inl less ↦ onwards moment (record { place = j; others = slice_index bounds line; used = used })
          (takes-over (line * each) each (slice_index bounds line) j used l ps started led j-of-line.low j-of-line.high (line-within each line bounds leads ps h.bounded there-too) raised mine fit less)
      | inr more ↦ onwards (slice_index bounds line) (record { place = l.place; others = moment; used = used })
          (leads-on (line * each) each (slice_index bounds line) j used l ps started led j-of-line.low j-of-line.high (line-within each line bounds leads ps h.bounded there-too) raised mine fit moment apart more soon (omega arith))
    ]
      where
        final : IsLead (line * each) each moment (record { place = j; others = l.others; used = used }) (set between-both l.place (record w { moment = never }))
        final = takes-turn (line * each) each (slice_index bounds line) j used l ps started led j-of-line.low j-of-line.high (line-within each line bounds leads ps h.bounded there-too) raised mine fit (record w { moment = never }) apart refl soon small

        onwards : (result : ℕ) (lead : Lead) → IsLead (line * each) each result lead between-both
            → AreKept after now each (set bounds line moment) (set leads line (record { place = j; others = l.others; used = used })) (set between-both l.place (record w { moment = never }))
        onwards result lead its =
            let kept = kept-at not_before found each j line bounds leads ps h j_there line-at-j after now result lead started v_line sooner its in
            subst (λ bs. AreKept after now each bs (set leads line (record { place = j; others = l.others; used = used })) (set between-both l.place (record w { moment = never }))) (set-again bounds line result moment)
            (subst (λ ls. AreKept after now each (set (set bounds line result) line moment) ls (set between-both l.place (record w { moment = never }))) (set-again leads line lead (record { place = j; others = l.others; used = used }))
            (kept-at after now each l.place line (set bounds line result) (set leads line lead) between-both kept (omega (arith, place-there, length-set ps j started)) line-at after now moment (record { place = j; others = l.others; used = used })
            (record w { moment = never }) w-line (record {
              less = omega arith;
              own = omega (arith, sooner.own, soon, small);
              its_line = λ before. omega (arith, sooner.its_line before, soon, small);
              other_line = λ before. absurd (omega (arith, before));
            }) final))

  -- the place before one that runs has been used
  pub used-before : (is_next : Bool) (j : ℕ) → IsBeside is_next l.place j → is_next ≡ false → (u.moment ≡ never → ⊥) → j + 1 ≤ line * each + l.used
  used-before true j is none runs = absurd (false≢true (sym none))
  used-before false j is none runs = omega (arith, is, is-used runs)

  pub takes-its-turn : (j : ℕ) (v w : Place) (timer : Timer) (moment : ℕ) → j < length ps → v ≡ get_or ps j v → v.line ≡ line → (j ≡ l.place → ⊥) → w ≡ get_or (set ps j (record v { moment = moment; timer = timer })) l.place w
      → moment ≤ l.others → l.others ≤ never → (lead : Lead) → lead.place ≡ j → lead.others ≡ l.others → l.used ≤ lead.used → j + 1 ≤ line * each + lead.used
      → ((count : ℕ) → l.used ≤ count → j < line * each + count → lead.used ≤ count) → (after now : ℕ) → IsSooner not_before found line moment after now
      → AreKept after now each (set bounds line moment) (set leads line lead) (set (set ps j (record v { moment = moment; timer = timer })) l.place (record w { moment = never }))
  takes-its-turn j v w timer moment there v_at v_line apart w_at soon small lead place_is others_are raised mine few after now sooner =
      let its = of-its-line each line j h.bounded.some (sym v_line ∙ own-line each bounds leads ps j v h.bounded there v_at) in
      subst (λ x. AreKept after now each (set bounds line moment) (set leads line x) (set (set ps j (record v { moment = moment; timer = timer })) l.place (record w { moment = never }))) (same-lead lead j l.others place_is others_are)
      (exchanged j lead.used v w timer moment there v_at v_line apart w_at soon small raised mine (few each led.fit its.high) after now sooner)
    where
      same-lead : (x : Lead) (p o : ℕ) → x.place ≡ p → x.others ≡ o → record { place = p; others = o; used = x.used } ≡ x
      same-lead x p o a b = ap (λ n. record { place = n; others = o; used = x.used }) (sym a) ∙ ap (λ n. record { place = x.place; others = n; used = x.used }) (sym b)
