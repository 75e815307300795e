-- Which place of a line leads, when a timer is started or stopped.
use Rattle.lapd_clock.proofs.Vocabulary.{◌≡◌, ℕ, ◌+◌, ◌-◌, ◌<◌, ◌≤◌, List, length, length-set, get_or, set, refl, sym, ap, ◌∙◌, subst, arith, inl, inr, cases_lt, cases_eq, get_or_default, never}
use Rattle.std.proofs.lemmas.List.{get_or-set_other}
use Rattle.std.proofs.lemmas.Grind.{get_or-set_at}
use Rattle.std.proofs.lemmas.List.Edits.{get_or-between, length-between}
use Rattle.std.specs.List.{between}
use Rattle.lapd_clock.specs.Bounds.{IsEarliest, IsLead}
use Rattle.lapd_clock.specs.declared.moments.lead.Lead.{Lead}
use Rattle.lapd_clock.specs.declared.moments.place.Place.{Place}

-- ---- which place is the earliest, one after the other

pub record IsTakenIn (ps : List Place) (n f l o : ℕ) : Type 0 where
  pub so_far : IsEarliest (n + 1) f o ps
  pub least : (d : Place) → (get_or ps f d).moment ≡ l
  pub ordered : l ≤ o

module _ (ps : List Place) (n first others : ℕ) (u : Place) (within : n < length ps) (h : IsEarliest n first others ps) (m : ℕ) (least_is : (d : Place) → (get_or ps first d).moment ≡ m) where
  pub its : (d : Place) → (get_or ps n d).moment ≡ (get_or ps n u).moment
  its d = ap (λ (q : Place). q.moment) (get_or_default ps n d u within)

  last : {i : ℕ} → i < n + 1 → n ≤ i → (d : Place) → (get_or ps i d).moment ≡ (get_or ps n u).moment
  last there from d = ap (λ k. (get_or ps k d).moment) (same there from) ∙ its d
    where
      same : {i : ℕ} → i < n + 1 → n ≤ i → i ≡ n
      same there from = omega (arith, there, from)

  -- one more is earlier than all
  pub earlier : (r : ℕ) → (get_or ps n u).moment < m → r ≤ m → IsEarliest (n + 1) n r ps
  earlier r less small = record {
    within = omega arith;
    least = λ i d e there. elim (cases_lt i n) [
      | inl before ↦ omega (arith, less, its e, least_is d, h.least i d d before)
      | inr from ↦ omega (arith, its e, last there from d)
    ];
    others_late = λ i d there apart. elim (cases_lt i n) [
      | inl before ↦ omega (arith, small, least_is d, h.least i d d before)
      | inr from ↦ absurd (apart (same there from))
    ];
  }
    where
      same : {i : ℕ} → i < n + 1 → n ≤ i → i ≡ n
      same there from = omega (arith, there, from)

  -- or it is one of the others
  pub later : (r : ℕ) → m ≤ (get_or ps n u).moment → r ≤ others → r ≤ (get_or ps n u).moment → IsEarliest (n + 1) first r ps
  later r more less own = record {
    within = omega (arith, h.within);
    least = λ i d e there. elim (cases_lt i n) [
      | inl before ↦ h.least i d e before
      | inr from ↦ omega (arith, more, least_is e, last there from d)
    ];
    others_late = λ i d there apart. elim (cases_lt i n) [
      | inl before ↦ omega (arith, less, h.others_late i d before apart)
      | inr from ↦ omega (arith, own, last there from d)
    ];
  }

  -- what is known with one more that is earlier than the others
  pub nearer : (f l o : ℕ) → (get_or ps n u).moment < m → f ≡ n → l ≡ (get_or ps n u).moment → o ≡ m → IsTakenIn ps n f l o
  nearer f l o less first_is least_now others_are = record {
    so_far = subst (λ k. IsEarliest (n + 1) k o ps) (sym first_is) (earlier o less (omega (arith, others_are)));
    least = λ d. ap (λ k. (get_or ps k d).moment) first_is ∙ its d ∙ sym least_now;
    ordered = omega (arith, least_now, others_are, less);
  }

  pub farther : (f l o : ℕ) → m ≤ (get_or ps n u).moment → (get_or ps n u).moment < others → f ≡ first → l ≡ m → o ≡ (get_or ps n u).moment → IsTakenIn ps n f l o
  farther f l o more less first_is least_now others_are = record {
    so_far = subst (λ k. IsEarliest (n + 1) k o ps) (sym first_is) (later o more (omega (arith, others_are, less)) (omega (arith, others_are)));
    least = λ d. ap (λ k. (get_or ps k d).moment) first_is ∙ least_is d ∙ sym least_now;
    ordered = omega (arith, least_now, others_are, more);
  }

  pub neither : (f l o : ℕ) → others ≤ (get_or ps n u).moment → m ≤ others → f ≡ first → l ≡ m → o ≡ others → IsTakenIn ps n f l o
  neither f l o past order first_is least_now others_are = record {
    so_far = subst (λ k. IsEarliest (n + 1) k o ps) (sym first_is) (later o (omega (arith, past, order)) (omega (arith, others_are)) (omega (arith, others_are, past)));
    least = λ d. ap (λ k. (get_or ps k d).moment) first_is ∙ least_is d ∙ sym least_now;
    ordered = omega (arith, least_now, others_are, order);
  }

-- ---- which leads after a change

module _ (begin count bound place used : ℕ) (lead : Lead) (before : List Place) (p : Place) (h : IsLead begin count bound lead before) (low : begin ≤ place) (high : place < begin + count) (there : begin + count ≤ length before)
    (raised : lead.used ≤ used) (mine : place + 1 ≤ begin + used) (fit : used ≤ count) where
  abbrev ps : List Place
  ps = set before place p

  at-place : (d : Place) → get_or ps place d ≡ p
  at-place d = get_or-set_at before place place p d refl (omega (arith, high, there))

  other : (i : ℕ) (d : Place) → (i ≡ place → ⊥) → get_or ps i d ≡ get_or before i d
  other i d apart = get_or-set_other before place i p d apart

  rest-after : (i : ℕ) (d : Place) → begin + used ≤ i → i < begin + count → (get_or ps i d).moment ≡ never
  rest-after i d from to = ap (λ (q : Place). q.moment) (other i d (λ same. absurd (omega (arith, same, from, mine)))) ∙ h.rest i d (omega (arith, from, raised)) to

  lower : (m : ℕ) → m ≤ bound → m ≤ p.moment → (i : ℕ) (d : Place) → begin ≤ i → i < begin + count → m ≤ (get_or ps i d).moment
  lower m less own i d from to = elim (cases_eq i place) [
    | inl is ↦ subst (λ (q : Place). m ≤ q.moment) (sym (ap (λ n. get_or ps n d) is ∙ at-place d)) own
    | inr apart ↦ subst (λ (q : Place). m ≤ q.moment) (sym (other i d apart)) (omega (arith, less, h.least i d from to))
  ]

  -- another place than that which led has a lesser moment
  pub takes-over : p.moment < bound → IsLead begin count p.moment (record { place = place; others = bound; used = used }) ps
  takes-over less = record {
    low = low;
    high = high;
    is = λ d. ap (λ (q : Place). q.moment) (at-place d);
    least = lower p.moment (omega (arith, less)) (omega arith);
    others_late = λ i d from to apart. subst (λ (q : Place). bound ≤ q.moment) (sym (other i d apart)) (h.least i d from to);
    fit = fit;
    rest = rest-after;
  }

  -- or has none
  pub leads-on : (r : ℕ) → (place ≡ lead.place → ⊥) → bound ≤ p.moment → r ≤ lead.others → r ≤ p.moment → IsLead begin count bound (record { place = lead.place; others = r; used = used }) ps
  leads-on r apart more less own = record {
    low = h.low;
    high = h.high;
    is = λ d. ap (λ (q : Place). q.moment) (other lead.place d (λ same. apart (sym same))) ∙ h.is d;
    least = lower bound (omega arith) more;
    others_late = λ i d from to ne. elim (cases_eq i place) [
      | inl is ↦ subst (λ (q : Place). r ≤ q.moment) (sym (ap (λ n. get_or ps n d) is ∙ at-place d)) own
      | inr away ↦ subst (λ (q : Place). r ≤ q.moment) (sym (other i d away)) (omega (arith, less, h.others_late i d from to ne))
    ];
    fit = fit;
    rest = rest-after;
  }

  -- that which led has a moment that no other is before
  pub leads-still : place ≡ lead.place → p.moment ≤ lead.others → IsLead begin count p.moment (record { place = place; others = lead.others; used = used }) ps
  leads-still is less = record {
    low = low;
    high = high;
    is = λ d. ap (λ (q : Place). q.moment) (at-place d);
    least = λ i d from to. elim (cases_eq i place) [
      | inl same ↦ subst (λ (q : Place). p.moment ≤ q.moment) (sym (ap (λ n. get_or ps n d) same ∙ at-place d)) (omega arith)
      | inr apart ↦ subst (λ (q : Place). p.moment ≤ q.moment) (sym (other i d apart)) (omega (arith, less, h.others_late i d from to (λ e. apart (e ∙ sym is))))
    ];
    others_late = λ i d from to apart. subst (λ (q : Place). lead.others ≤ q.moment) (sym (other i d apart)) (h.others_late i d from to (λ e. apart (e ∙ sym is)));
    fit = fit;
    rest = rest-after;
  }

  -- or all that have been used are looked through
  is-found : (first others : ℕ) (cut : List Place) (u : Place) → others ≤ never → p.moment ≤ never → cut ≡ between begin (begin + used) ps → IsEarliest (length cut) first others cut
      → IsLead begin count (get_or ps (begin + first) u).moment (record { place = begin + first; others = others; used = used }) ps
  is-found first others cut u small timely is found = record {
    low = omega arith;
    high = omega (arith, found.within, many, fit);
    is = λ d. ap (λ (q : Place). q.moment) (get_or_default ps (begin + first) d u (omega (arith, found.within, many, long)));
    least = λ i d from to. elim (cases_lt i (begin + used)) [
      | inl seen ↦ subst (λ n. (get_or ps (begin + first) u).moment ≤ (get_or ps n d).moment) (split from)
          (omega (arith, found.least (i - begin) d u (omega (arith, seen, many, from)), at first u (omega (arith, found.within, many)), at (i - begin) d (omega (arith, seen, from))))
      | inr unseen ↦ omega (arith, rest-after i d unseen to, most-is)
    ];
    others_late = λ i d from to apart. elim (cases_lt i (begin + used)) [
      | inl seen ↦ subst (λ n. others ≤ (get_or ps n d).moment) (split from)
          (omega (arith, found.others_late (i - begin) d (omega (arith, seen, many, from)) (λ e. apart (omega (arith, e, from))), at (i - begin) d (omega (arith, seen, from))))
      | inr unseen ↦ omega (arith, rest-after i d unseen to, small)
    ];
    fit = fit;
    rest = rest-after;
  }
    where
      long : begin + used ≤ length ps
      long = omega (arith, fit, there, length-set before place p)

      many : length cut ≡ used
      many = ap length is ∙ length-between ps begin (begin + used) long ∙ omega arith

      at : (k : ℕ) (d : Place) → k < used → (get_or cut k d).moment ≡ (get_or ps (begin + k) d).moment
      at k d seen = ap (λ xs. (get_or xs k d).moment) is ∙ ap (λ (q : Place). q.moment) (get_or-between ps begin (begin + used) k d (omega (arith, seen)))

      split : {i : ℕ} → begin ≤ i → begin + (i - begin) ≡ i
      split from = omega (arith, from)

      -- the place that changed is among those that have been used
      most-is : (get_or ps (begin + first) u).moment ≤ never
      most-is = omega (
        arith,
        timely,
        found.least (place - begin) u u (omega (arith, mine, low, many)),
        at first u (omega (arith, found.within, many)),
        at (place - begin) u (omega (arith, mine, low)),
        ap (λ n. (get_or ps n u).moment) (split low),
        ap (λ (q : Place). q.moment) (at-place u),
      )

  -- or another leads in its stead, which is not after the others
  pub takes-turn : (rested : Place) → (place ≡ lead.place → ⊥) → rested.moment ≡ never → p.moment ≤ lead.others → lead.others ≤ never
      → IsLead begin count p.moment (record { place = place; others = lead.others; used = used }) (set ps lead.place rested)
  takes-turn rested apart rests soon small = record {
    low = low;
    high = high;
    is = λ d. ap (λ (q : Place). q.moment) (get_or-set_other ps lead.place place rested d apart ∙ at-place d);
    least = λ i d from to. elim (cases_eq i lead.place) [
      | inl is ↦ omega (arith, soon, small, rests, its-rest i d is)
      | inr away ↦ subst (λ (q : Place). p.moment ≤ q.moment) (sym (get_or-set_other ps lead.place i rested d away)) (elim (cases_eq i place) [
        | inl same ↦ subst (λ (q : Place). p.moment ≤ q.moment) (sym (ap (λ n. get_or ps n d) same ∙ at-place d)) (omega arith)
        | inr other_one ↦ subst (λ (q : Place). p.moment ≤ q.moment) (sym (other i d other_one)) (omega (arith, soon, h.others_late i d from to away))
      ])
    ];
    others_late = λ i d from to ne. elim (cases_eq i lead.place) [
      | inl is ↦ omega (arith, small, rests, its-rest i d is)
      | inr away ↦ subst (λ (q : Place). lead.others ≤ q.moment) (sym (get_or-set_other ps lead.place i rested d away ∙ other i d ne)) (h.others_late i d from to away)
    ];
    fit = fit;
    rest = λ i d from to. elim (cases_eq i lead.place) [
      | inl is ↦ its-rest i d is ∙ rests
      | inr away ↦ ap (λ (q : Place). q.moment) (get_or-set_other ps lead.place i rested d away) ∙ rest-after i d from to
    ];
  }
    where
      its-rest : (i : ℕ) (d : Place) → i ≡ lead.place → (get_or (set ps lead.place rested) i d).moment ≡ rested.moment
      its-rest i d is = ap (λ (q : Place). q.moment) (get_or-set_at ps lead.place i rested d is (omega (arith, h.high, there, length-set before place p)))

  pub found-in : (now : List Place) (first others : ℕ) (cut : List Place) (u : Place) → now ≡ ps → others ≤ never → p.moment ≤ never → cut ≡ between begin (begin + used) now → IsEarliest (length cut) first others cut
      → IsLead begin count (get_or now (begin + first) u).moment (record { place = begin + first; others = others; used = used }) now
  found-in now first others cut u is small timely cut_is found =
      subst (λ xs. IsLead begin count (get_or xs (begin + first) u).moment (record { place = begin + first; others = others; used = used }) xs) (sym is)
      (is-found first others cut u small timely (cut_is ∙ ap (between begin (begin + used)) is) found)
