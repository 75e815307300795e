-- What is kept of each line, when a place changes, and what a look finds.
use Rattle.lapd_clock.proofs.Vocabulary.{◌≡◌, ℕ, zero, suc, [], ◌∷◌, true, ◌+◌, ◌-◌, ◌*◌, ◌/◌, ◌<◌, ◌≤◌, false, nat_lt, List, length, length-set, get_or, set, replicate, slice_index, None, Some, refl, sym, ap, ◌∙◌, subst, arith, nat_tests, recursion_from_All, IsFirstBest, cases_lt, cases_eq, inl, inr}
use Rattle.lapd_clock.proofs.Vocabulary.{get_or-map, Expiry, is_before, never}
use Rattle.std.specs.Prelude.{Option, IfSome, IfNone}
use Rattle.std.proofs.lemmas.List.{get_or-set_other, length-replicate}
use Rattle.std.proofs.lemmas.Grind.{get_or-set_at}
use Rattle.std.proofs.lemmas.List.Edits.{get_or-between, length-between}
use Rattle.std.specs.List.{between}
use Rattle.std.proofs.lemmas.Nat.{div-mul-add}
use Rattle.std.proofs.Math.Nat.{div-lt_iff_lt-mul, div-mul-le_self, lt-div-mul-add, mul-le-mul_right, suc-mul}
use Rattle.lapd_clock.specs.Timer.{T201}
use Rattle.lapd_clock.proofs.First.{before_itself, no_earlier}
use Rattle.lapd_clock.specs.Bounds.{IsLead, AreBounded, IsFoundFirst, IsFoundAt, IsFirstOfLine}
use Rattle.lapd_clock.specs.OwnPlaces.{expiry_of, expiries_of, place_before, nothing, AreNotBefore, AreOfLines, AreIdleSoFar, AreFirstPlaces, IsFirstUntil}
use Rattle.lapd_clock.specs.declared.moments.lead.Lead.{Lead}
use Rattle.lapd_clock.specs.declared.moments.place.Place.{Place}
use Rattle.lapd_clock.proofs.Standing.{All-map, sooner, rest_behind, found_first, same_count}

-- a line before the last has its places before the end
pub before_end : (line lines d w : ℕ) → line < lines → w < d → line * d + w < lines * d
before_end line lines d w there within = let whole : suc line * d ≤ lines * d = mul-le-mul_right d there in let one_more : suc line * d ≡ line * d + d = suc-mul line d in omega (arith, whole, one_more, within)

pub in_lines : (i lines d : ℕ) → 0 < d → i < lines * d → i / d < lines
in_lines i lines d some within = grind (arith, div-lt_iff_lt-mul)

-- ---- the line of a place

pub line-there : (each i : ℕ) (bounds : List ℕ) (leads : List Lead) (ps : List Place) → AreBounded each bounds leads ps → i < length ps → i / each < length bounds
line-there each i bounds leads ps h within = in_lines i (length bounds) each (omega (arith, h.some)) (omega (arith, within, h.count))

pub line-within : (each line : ℕ) (bounds : List ℕ) (leads : List Lead) (ps : List Place) → AreBounded each bounds leads ps → line < length bounds → line * each + each ≤ length ps
line-within each line bounds leads ps h there = let last = before_end line (length bounds) each (each - 1) there (omega (arith, h.some)) in omega (arith, last, h.count, h.some)

line-is : (each line i : ℕ) → line * each ≤ i → i < line * each + each → i / each ≡ line
line-is each line i low high = ap (λ n. n / each) (split (line * each) i low) ∙ div-mul-add line each (i - line * each) (omega (arith, low, high))
  where
    split : (a i : ℕ) → a ≤ i → i ≡ a + (i - a)
    split a i low = omega (arith, low)

pub record IsOfLine (each line place : ℕ) : Type 0 where
  pub low : line * each ≤ place
  pub high : place < line * each + each

pub of-its-line : (each line place : ℕ) → 1 ≤ each → line ≡ place / each → IsOfLine each line place
of-its-line each line place some is = record {
  low = subst (λ n. n * each ≤ place) (sym is) (div-mul-le_self place each);
  high = subst (λ n. place < n * each + each) (sym is) (lt-div-mul-add (omega (arith, some)));
}

not-both : (each line k i : ℕ) → (line ≡ k → ⊥) → IsOfLine each line i → IsOfLine each k i → ⊥
not-both each line k i apart one two = apart (sym (line-is each line i one.low one.high) ∙ line-is each k i two.low two.high)

pub its-line : (each line place : ℕ) → IsOfLine each line place → place / each ≡ line
its-line each line place h = line-is each line place h.low h.high

-- ---- a place changes

-- one line has another lead, and the others keep theirs
pub changed : (each line place result : ℕ) (bounds : List ℕ) (leads : List Lead) (lead : Lead) (ps : List Place) (p : Place) → AreBounded each bounds leads ps → place < length ps → line ≡ place / each → p.line ≡ line
    → IsLead (line * each) each result lead (set ps place p) → AreBounded each (set bounds line result) (set leads line lead) (set ps place p)
changed each line place result bounds leads lead ps p h within line_is own its = record {
  few_lines = omega (arith, length-set bounds line result, h.few_lines);
  some = h.some;
  few = h.few;
  count = length-set ps place p ∙ h.count ∙ ap (λ n. n * each) (sym (length-set bounds line result));
  of_line = λ i d there. elim (cases_eq i place) [
    | inl is ↦ ap (λ (q : Place). q.line) (get_or-set_at ps place i p d is within) ∙ own ∙ line_is ∙ ap (λ n. n / each) (sym is)
    | inr apart ↦ ap (λ (q : Place). q.line) (get_or-set_other ps place i p d apart) ∙ h.of_line i d (omega (arith, there, length-set ps place p))
  ];
  same = length-set leads line lead ∙ h.same ∙ sym (length-set bounds line result);
  led = λ k d there. elim (cases_eq k line) [
    | inl is ↦ subst (λ n. IsLead (n * each) each (slice_index (set bounds line result) n) (get_or (set leads line lead) n d) (set ps place p)) (sym is)
        (subst (λ m. IsLead (line * each) each m (get_or (set leads line lead) line d) (set ps place p)) (sym (get_or-set_at bounds line line result 0 refl line-there'))
        (subst (λ l. IsLead (line * each) each result l (set ps place p)) (sym (get_or-set_at leads line line lead d refl (omega (arith, h.same, line-there')))) its))
    | inr apart ↦ subst (λ m. IsLead (k * each) each m (get_or (set leads line lead) k d) (set ps place p)) (sym (get_or-set_other bounds line k result 0 apart))
        (subst (λ l. IsLead (k * each) each (slice_index bounds k) l (set ps place p)) (sym (get_or-set_other leads line k lead d apart))
        (kept k apart (get_or leads k d) (h.led k d (omega (arith, there, length-set bounds line result)))))
  ];
}
  where
    line-there' : line < length bounds
    line-there' = subst (λ n. n < length bounds) (sym line_is) (line-there each place bounds leads ps h within)

    away : (k i : ℕ) → (k ≡ line → ⊥) → k * each ≤ i → i < k * each + each → i ≡ place → ⊥
    away k i apart low high same = not-both each k line place apart (subst (IsOfLine each k) same (record { low = low; high = high })) (of-its-line each line place h.some line_is)

    -- a place of another line is as it was
    as-it-was : (k i : ℕ) (d : Place) → (k ≡ line → ⊥) → k * each ≤ i → i < k * each + each → get_or (set ps place p) i d ≡ get_or ps i d
    as-it-was k i d apart low high = get_or-set_other ps place i p d (away k i apart low high)

    kept : (k : ℕ) → (k ≡ line → ⊥) → (l : Lead) → IsLead (k * each) each (slice_index bounds k) l ps → IsLead (k * each) each (slice_index bounds k) l (set ps place p)
    kept k apart l was = record {
      low = was.low;
      high = was.high;
      is = λ d. ap (λ (q : Place). q.moment) (as-it-was k l.place d apart was.low was.high) ∙ was.is d;
      least = λ i d low high. subst (λ (q : Place). slice_index bounds k ≤ q.moment) (sym (as-it-was k i d apart low high)) (was.least i d low high);
      others_late = λ i d low high ne. subst (λ (q : Place). l.others ≤ q.moment) (sym (as-it-was k i d apart low high)) (was.others_late i d low high ne);
      fit = was.fit;
      rest = λ i d from to. ap (λ (q : Place). q.moment) (as-it-was k i d apart (omega (arith, from)) to) ∙ was.rest i d from to;
    }

-- what is read at a place is of its line
pub own-line : (each : ℕ) (bounds : List ℕ) (leads : List Lead) (ps : List Place) (place : ℕ) (u : Place) → AreBounded each bounds leads ps → place < length ps → u ≡ get_or ps place u → u.line ≡ place / each
own-line each bounds leads ps place u h within at_it = ap (λ (p : Place). p.line) at_it ∙ h.of_line place u within

-- places at which no timer runs
resting : (ps : List Place) (i : ℕ) (d : Place) → i < length ps → AreIdleSoFar ps → (get_or ps i d).moment ≡ never
resting [] i d within rest = absurd (omega (arith, within))
resting (p ∷ ps) zero d within rest = rest.0
resting (p ∷ ps) (suc i) d within rest = resting ps i d (omega (arith, within)) rest.1

pub idle : (each lines : ℕ) (leads : List Lead) (ps : List Place) → lines ≤ 64 → 1 ≤ each → each ≤ 34 → length ps ≡ lines * each → AreOfLines each ps → AreIdleSoFar ps → length leads ≡ lines → AreFirstPlaces each leads
    → AreBounded each (replicate lines never) leads ps
idle each lines leads ps few some few_each count of_lines rest many firsts = record {
  few_lines = omega (arith, few, length-replicate lines never);
  some = some;
  few = few_each;
  count = count ∙ ap (λ n. n * each) (sym (length-replicate lines never));
  of_line = λ i d within. ap (λ (e : Expiry). e.line) (sym (get_or-map expiry_of ps i d nothing within)) ∙ of_lines i (omega (arith, within, same_count ps));
  same = many ∙ sym (length-replicate lines never);
  led = λ line d there.
      let is : slice_index (replicate lines never) line ≡ never = get_or-replicate lines line there in
      let within : line < lines = omega (arith, there, length-replicate lines never) in
      subst (λ m. IsLead (line * each) each m (get_or leads line d) ps) (sym is) (idle-lead line d within (firsts line d (omega (arith, within, many))));
}
  where
    get_or-replicate : (n i : ℕ) → i < length (replicate n never) → slice_index (replicate n never) i ≡ never
    get_or-replicate zero i there = absurd (omega (arith, there))
    get_or-replicate (suc n) zero there = refl
    get_or-replicate (suc n) (suc i) there = get_or-replicate n i (omega (arith, there))

    its-rest : (line i : ℕ) (d : Place) → line < lines → i < line * each + each → (get_or ps i d).moment ≡ never
    its-rest line i d there high = resting ps i d (omega (arith, high, count, before_end line lines each (each - 1) there (omega (arith, some)), some)) rest

    idle-lead : (line : ℕ) (d : Lead) → line < lines → get_or leads line d ≡ record { place = line * each; others = never; used = 0 } → IsLead (line * each) each never (get_or leads line d) ps
    idle-lead line d there is = subst (λ l. IsLead (line * each) each never l ps) (sym is) (record {
      low = omega arith;
      high = omega (arith, some);
      is = λ e. its-rest line (line * each) e there (omega (arith, some));
      least = λ i e low high. omega (arith, its-rest line i e there high);
      others_late = λ i e low high ne. omega (arith, its-rest line i e there high);
      fit = omega arith;
      rest = λ i e from to. its-rest line i e there to;
    })

-- ---- a look

-- at the places of one line
pub of-line : (each line place r : ℕ) (ps its : List Place) → place ≡ line * each + r → line * each + each ≤ length ps → its ≡ between (line * each) (line * each + each) ps → IsFirstBest place_before its (length its) r
    → IsFirstOfLine place each line ps
of-line each line place r ps its is within cut first =
    let many : length its ≡ each = ap length cut ∙ length-between ps (line * each) (line * each + each) within ∙ omega arith in
    record {
      low = omega (arith, is);
      high = omega (arith, is, first.0, many);
      none_before = λ k d low high.
          let there : k - line * each < length its = omega (arith, low, high, many) in
          let at-k : get_or its (k - line * each) d ≡ get_or ps k d = ap (λ xs. get_or xs (k - line * each) d) cut ∙ get_or-between ps (line * each) (line * each + each) (k - line * each) d (omega (arith, low, high)) ∙ ap (λ n. get_or ps n d) (omega (arith, low)) in
          let at-r : get_or its r d ≡ get_or ps place d = ap (λ xs. get_or xs r d) cut ∙ get_or-between ps (line * each) (line * each + each) r d (omega (arith, first.0, many)) ∙ ap (λ n. get_or ps n d) (sym is) in
          subst (λ p. place_before p (get_or ps place d) ≡ false) at-k (subst (λ p. place_before (get_or its (k - line * each) d) p ≡ false) at-r (first.1 (k - line * each) d there));
    }

-- the least bound
not_less : (a b : ℕ) → nat_lt a b ≡ false → b ≤ a
not_less a b h = grind (arith, nat_tests)

pub is_less : (a b : ℕ) → nat_lt a b ≡ true → a < b
is_less a b h = grind (arith, nat_tests)

-- no place of a line is before its bound
abbrev pub some-lead : Lead
some-lead = record { place = 0; others = 0; used = 0 }

bound-of : (each : ℕ) (bounds : List ℕ) (leads : List Lead) (ps : List Place) → AreBounded each bounds leads ps → (i : ℕ) (d : Place) → i < length ps → slice_index bounds (i / each) ≤ (get_or ps i d).moment
bound-of each bounds leads ps h i d within = let its = of-its-line each (i / each) i h.some refl in (h.led (i / each) some-lead (line-there each i bounds leads ps h within)).least i d its.low its.high

pub least-before : (m : ℕ) (each line : ℕ) (bounds : List ℕ) (leads : List Lead) (ps : List Place) → AreBounded each bounds leads ps → IsFirstBest nat_lt bounds (length bounds) line → m ≡ slice_index bounds line
    → AreNotBefore m (expiries_of ps)
least-before m each line bounds leads ps h least is =
    All-map (λ e. m ≤ e.moment) ps (recursion_from_All (λ p. m ≤ p.moment) ps (λ k d within.
    omega (arith, is, bound-of each bounds leads ps h k d within, not_less _ _ (least.1 (k / each) 0 (line-there each k bounds leads ps h within)))))

-- the lines before it have later ones
pub later-than : (bounds now : List ℕ) (line m : ℕ) → now ≡ bounds → IsFirstBest nat_lt now (length now) line → m ≡ slice_index now line → (k : ℕ) → k < line → k < length bounds → m < slice_index bounds k
later-than bounds now line m same least is k before there =
    subst (λ xs. m < slice_index xs k) same (subst (λ n. n < slice_index now k) (sym is) (is_less _ _ (least.2 k 0 before)))

pub place-within : (each line place : ℕ) (bounds : List ℕ) (leads : List Lead) (ps : List Place) → AreBounded each bounds leads ps → line < length bounds → IsFirstOfLine place each line ps → place < length ps
place-within each line place bounds leads ps h there first = omega (arith, first.high, line-within each line bounds leads ps h there)

-- the first place of a line falls due at its bound
pub first-at : (each line place : ℕ) (bounds : List ℕ) (leads : List Lead) (ps : List Place) → AreBounded each bounds leads ps → line < length bounds → IsFirstOfLine place each line ps
    → (d : Place) → (get_or ps place d).moment ≡ slice_index bounds line
first-at each line place bounds leads ps h there first d =
    let its = h.led line some-lead there in
    let lead = get_or leads line some-lead in
    same (its.least place d first.low first.high)
    (omega (arith, its.is d, no_earlier (expiry_of (get_or ps lead.place d)) (expiry_of (get_or ps place d)) (first.none_before lead.place d its.low its.high)))
  where
    same : {a b : ℕ} → b ≤ a → a ≤ b → a ≡ b
    same low high = omega (arith, low, high)

-- that which leads is the first of its line, if no other falls due at its moment
pub lead-first : (each line : ℕ) (bounds : List ℕ) (leads : List Lead) (ps : List Place) (d : Lead) → AreBounded each bounds leads ps → line < length bounds → slice_index bounds line < (get_or leads line d).others
    → IsFirstOfLine (get_or leads line d).place each line ps
lead-first each line bounds leads ps e h there alone = record {
  low = led.low;
  high = led.high;
  none_before = λ k d low high. elim (cases_eq k l.place) [
    | inl is ↦ subst (λ n. place_before (get_or ps n d) (get_or ps l.place d) ≡ false) (sym is) (before_itself (expiry_of (get_or ps l.place d)))
    | inr apart ↦ rest_behind (expiry_of (get_or ps l.place d)) (expiry_of (get_or ps k d)) (omega (arith, alone, led.is d, led.others_late k d low high apart))
  ];
}
  where
    l : Lead
    l = get_or leads line e

    led : IsLead (line * each) each (slice_index bounds line) l ps
    led = h.led line e there

-- so that of the line with the least bound is the first of all
later_line : (e z : Expiry) → e.moment ≤ z.moment → e.line < z.line → is_before z e ≡ false
later_line e z moment line = grind (arith, nat_lt, nat_tests)

pub first-of-all : (each line place : ℕ) (bounds : List ℕ) (leads : List Lead) (ps : List Place) → AreBounded each bounds leads ps → IsFirstBest nat_lt bounds (length bounds) line → IsFirstOfLine place each line ps
    → IsFoundFirst place ps
first-of-all each line place bounds leads ps h least first = record { within = within; none_before = none }
  where
    within : place < length ps
    within = place-within each line place bounds leads ps h least.0 first

    moment_is : (d : Place) → (get_or ps place d).moment ≡ slice_index bounds line
    moment_is = first-at each line place bounds leads ps h least.0 first

    its_line : (d : Place) → (get_or ps place d).line ≡ line
    its_line d = h.of_line place d within ∙ line-is each line place first.low first.high

    -- a place of another line falls due no earlier, and of a lower one later
    of-other : (k : ℕ) (d : Place) → k < length ps → (k / each ≡ line → ⊥) → place_before (get_or ps k d) (get_or ps place d) ≡ false
    of-other k d there apart =
        let bound = bound-of each bounds leads ps h k d there in
        let line_there = line-there each k bounds leads ps h there in
        elim (cases_lt (k / each) line) [
          | inl lower ↦ rest_behind (expiry_of (get_or ps place d)) (expiry_of (get_or ps k d)) (omega (arith, moment_is d, bound, is_less _ _ (least.2 (k / each) 0 lower)))
          | inr higher ↦ later_line (expiry_of (get_or ps place d)) (expiry_of (get_or ps k d)) (omega (arith, moment_is d, bound, not_less _ _ (least.1 (k / each) 0 line_there)))
              (subst (λ n. n < (get_or ps k d).line) (sym (its_line d)) (subst (λ n. line < n) (sym (h.of_line k d there)) (above higher apart)))
        ]
      where
        above : {a b : ℕ} → b ≤ a → (a ≡ b → ⊥) → b < a
        above low ne = grind arith

    none : (k : ℕ) (d : Place) → k < length ps → place_before (get_or ps k d) (get_or ps place d) ≡ false
    none k d there = elim (cases_eq (k / each) line) [
      | inl is ↦ first.none_before k d
          (subst (λ n. n * each ≤ k) is (div-mul-le_self k each))
          (subst (λ n. k < n * each + each) is (lt-div-mul-add (omega (arith, h.some))))
      | inr apart ↦ of-other k d there apart
    ]

pub found-at : (each line place end : ℕ) (bounds : List ℕ) (leads : List Lead) (ps : List Place) → AreBounded each bounds leads ps → IsFirstBest nat_lt bounds (length bounds) line → IsFirstOfLine place each line ps
    → slice_index bounds line ≤ end → IsFoundAt place (slice_index bounds line) end ps
found-at each line place end bounds leads ps h least first soon = record {
  first = first-of-all each line place bounds leads ps h least first;
  is = first-at each line place bounds leads ps h least.0 first;
  soon = soon;
}

-- ---- what that says of the timers

pub none-until : (o : Option ℕ) (moment end : ℕ) (ps : List Place) (es : List Expiry) → expiries_of ps ≡ es → AreNotBefore moment (expiries_of ps) → IfNone o (end < moment) → IfNone o (AreNotBefore (end + 1) es)
none-until (Some place) moment end ps es is none h = tt
none-until None moment end ps es is none h = subst (AreNotBefore (end + 1)) is (sooner (end + 1) moment (expiries_of ps) (omega (arith, h)) none)

abbrev pub some-place : Place
some-place = record { moment = 0; line = 0; timer = T201 }

pub first-until : (o : Option ℕ) (moment end : ℕ) (ps : List Place) (es : List Expiry) → expiries_of ps ≡ es → end < never → IfSome o (λ place. IsFoundAt place moment end ps)
    → IfSome o (λ place. IsFirstUntil end place es)
first-until None moment end ps es is soon h = tt
first-until (Some place) moment end ps es is soon h =
    let d = some-place in
    let first = found_first ps place h.first d (omega (arith, h.is d, h.soon, soon)) in
    subst (IsFirstUntil end place) is (record {
      first = first;
      soon = omega (arith, h.is d, h.soon, ap (λ (e : Expiry). e.moment) (get_or-map expiry_of ps place d nothing h.first.within));
    })
