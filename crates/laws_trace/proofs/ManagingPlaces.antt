-- The places of a line, and the TEIs that are to be checked, to an observer and to TEI management.
use Rattle.laws_trace.proofs.Vocabulary.{◌≡◌, ℕ, zero, suc, ◌<◌, ◌==◌, ◌&&◌, ◌||◌, Bool, true, false, cond, not, List, [], ◌∷◌, ◌++◌, length, map, replicate, set, get_or, Option, Some, None, option_map, option_map_or, find, refl, sym, ap, ◌∙◌, subst, arith, eq-eqb, eqb-true, true≢false, none-some, list_any, length-map, IsAt, IsSoundTable, Places, is_free, is_on, place_of, free_place, freed}
use Rattle.laws_trace.proofs.Vocabulary.{is-off, place_of-is, is_on-at, free_place-is, any-filter_same, or-true}
use Rattle.std.specs.List.{position}
use Rattle.std.proofs.lemmas.List.{map-set, set-get_or}
use Rattle.laws_trace.proofs.ManagingTables.{on-coming, on-leaving}
use Rattle.model_teis.specs.Table.{tei_at}
use Rattle.model_teis.specs.network.Machine.{is_due}
use Rattle.model_teis.specs.network.Words.{due_at}
use Rattle.laws_trace.specs.Managing.{others}
use Rattle.laws_trace.specs.ManagingTerminal.{teis_of, with_tei, without_tei}

-- The place of the first is that of the head, or one of the rest.
pub first-of : {X : Type 0} (p : X → Bool) (x : X) (xs : List X) → position p (x ∷ xs) ≡ cond (p x) (Some 0) (option_map suc (position p xs))
first-of p x xs = grind arith

-- The observer's places are the first ones; behind them all are free, and behind the line's.
abbrev pub AreFree : Places → Type 0
AreFree [] = Unit {0}
AreFree (None ∷ places) = AreFree places
AreFree (Some tei ∷ places) = ⊥

abbrev pub Same : Places → Places → Type 0
Same [] places = AreFree places
Same (o ∷ seen) [] = (o ≡ None) × Same seen []
Same (o ∷ seen) (own ∷ places) = (o ≡ own) × Same seen places

pub free-teis : (places : Places) → AreFree places → [] ≡ teis_of places
free-teis [] free = refl
free-teis (None ∷ places) free = free-teis places free
free-teis (Some tei ∷ places) free = absurd free

pub same-teis : (seen places : Places) → Same seen places → teis_of seen ≡ teis_of places
same-teis [] places same = free-teis places same
same-teis (None ∷ seen) [] same = same-teis seen [] same.1
same-teis (Some tei ∷ seen) [] same = absurd (none-some tei (sym same.0))
same-teis (None ∷ seen) (own ∷ places) same = same-teis seen places same.1 ∙ ap (λ o. teis_of (o ∷ places)) same.0
same-teis (Some tei ∷ seen) (own ∷ places) same = ap (λ teis. tei ∷ teis) (same-teis seen places same.1) ∙ ap (λ o. teis_of (o ∷ places)) same.0

pub none-taken : (n : ℕ) → AreFree (replicate n None)
none-taken zero = tt
none-taken (suc n) = none-taken n

-- A TEI that comes takes the place that is free, to both.
free-there : (places : Places) (place tei : ℕ) → AreFree places → free_place places ≡ Some place → Same (Some tei ∷ []) (set places place (Some tei))
free-there [] place tei free is = absurd (none-some place is)
free-there (None ∷ places) place tei free is = grind (arith, first-of, none-some)
free-there (Some own ∷ places) place tei free is = absurd free

comes-next : (o : Option ℕ) (place : ℕ) → option_map suc o ≡ Some place → (i : ℕ) × (o ≡ Some i) × (place ≡ suc i)
comes-next o place is = grind (arith, none-some)

same-longer : (seen places : Places) → Same seen places → Same (seen ++ None ∷ []) places
same-longer [] [] same = (refl, tt)
same-longer [] (None ∷ places) same = (refl, same)
same-longer [] (Some tei ∷ places) same = absurd same
same-longer (o ∷ seen) [] same = (same.0, same-longer seen [] same.1)
same-longer (o ∷ seen) (own ∷ places) same = (same.0, same-longer seen places same.1)

lowest : (place : ℕ) → Some 0 ≡ Some place → 0 ≡ place
lowest place is = cc is

pub same-coming : (seen places : Places) (place tei : ℕ) → Same seen places → free_place places ≡ Some place → Same (with_tei tei (seen ++ None ∷ [])) (set places place (Some tei))
same-coming [] places place tei same is = free-there places place tei same is
same-coming (o ∷ seen) [] place tei same is = absurd (none-some place is)
same-coming (None ∷ seen) (None ∷ places) place tei same is =
    subst (λ p. Same (Some tei ∷ (seen ++ None ∷ [])) (set (None ∷ places) p (Some tei))) (lowest place (sym (first-of is_free None places) ∙ is)) (refl, same-longer seen places same.1)
same-coming (None ∷ seen) (Some own ∷ places) place tei same is = absurd (none-some own same.0)
same-coming (Some on ∷ seen) (None ∷ places) place tei same is = absurd (none-some on (sym same.0))
same-coming (Some on ∷ seen) (Some own ∷ places) place tei same is =
    let (i, at, next) = comes-next (free_place places) place (sym (first-of is_free (Some own) places) ∙ is) in
    subst (λ p. Same (with_tei tei (Some on ∷ (seen ++ None ∷ []))) (set (Some own ∷ places) p (Some tei))) (sym next) (same.0, same-coming seen places i tei same.1 at)

-- A map of the places: where f and g differ at one TEI alone, that of one place.
module _ {X : Type 0} (f g : Option ℕ → X) (none : f None ≡ g None) where
  pub map-same : (places : Places) → ((j x : ℕ) → IsAt places j x → f (Some x) ≡ g (Some x)) → map f places ≡ map g places
  map-same [] h = refl
  map-same (None ∷ places) h = ap (λ x. x ∷ map f places) none ∙ ap (λ xs. g None ∷ xs) (map-same places (λ j x at. h (suc j) x at))
  map-same (Some tei ∷ places) h = ap (λ x. x ∷ map f places) (h 0 tei refl) ∙ ap (λ xs. g (Some tei) ∷ xs) (map-same places (λ j x at. h (suc j) x at))

  apart : (i j : ℕ) → (suc j ≡ suc i → ⊥) → j ≡ i → ⊥
  apart i j other same = other (ap suc same)

  head-same : (o : Option ℕ) → ((x : ℕ) → o ≡ Some x → f (Some x) ≡ g (Some x)) → f o ≡ g o
  head-same o h = grind arith

  pub map-put : (places : Places) (place : ℕ) (o : Option ℕ) → ((j x : ℕ) → IsAt places j x → (j ≡ place → ⊥) → f (Some x) ≡ g (Some x))
      → map f (set places place o) ≡ set (map g places) place (f o)
  map-put [] place o h = refl
  map-put (own ∷ places) zero o h = ap (λ xs. f o ∷ xs) (map-same places (λ j x at. h (suc j) x at (λ e. absurd (omega (arith, e)))))
  map-put (own ∷ places) (suc i) o h =
      ap (λ x. x ∷ map f (set places i o)) (head-same own (λ x is. h 0 x is (λ e. absurd (omega (arith, e)))))
      ∙ ap (λ xs. g own ∷ xs) (map-put places i o (λ j x at other. h (suc j) x at (λ e. other (omega (arith, e)))))

-- A TEI that leaves leaves its place free, to both.
abbrev less : ℕ → Option ℕ → Option ℕ
less tei o = cond (option_map_or (λ on. on == tei) o false) None o

map-itself : (places : Places) → map (λ o. o) places ≡ places
map-itself [] = refl
map-itself (o ∷ places) = ap (λ os. o ∷ os) (map-itself places)

free-less : (tei : ℕ) (places : Places) → AreFree places → AreFree (without_tei tei places)
free-less tei [] free = tt
free-less tei (None ∷ places) free = free-less tei places free
free-less tei (Some own ∷ places) free = absurd free

same-less : (tei : ℕ) (seen places : Places) → Same seen places → Same (without_tei tei seen) (without_tei tei places)
same-less tei [] places same = free-less tei places same
same-less tei (o ∷ seen) [] same = (ap (less tei) same.0, same-less tei seen [] same.1)
same-less tei (o ∷ seen) (own ∷ places) same = (ap (less tei) same.0, same-less tei seen places same.1)

module _ (places : Places) (sound : IsSoundTable places) (tei : ℕ) where
  -- another place has another TEI,
  pub other-there : (place : ℕ) → IsAt places place tei → (j x : ℕ) → IsAt places j x → (j ≡ place → ⊥) → (x == tei) ≡ false
  other-there place h j x there other = grind (arith, eqb-true)

  -- and where it is at none, each has another
  pub other-each : place_of tei places ≡ None → (j x : ℕ) → IsAt places j x → (x == tei) ≡ false
  other-each off j x there = by-test (x == tei) refl
    where
      by-test : (b : Bool) → (x == tei) ≡ b → b ≡ false
      by-test true is = absurd (true≢false (sym (is_on-at places j tei (subst (IsAt places j) (eqb-true x tei is) there)) ∙ is-off places tei off))
      by-test false is = refl

  kept : (x : ℕ) → (x == tei) ≡ false → less tei (Some x) ≡ Some x
  kept x other = ap (λ b. cond b None (Some x)) other

  gone : less tei (Some tei) ≡ None
  gone = ap (λ b. cond b None (Some tei)) (eq-eqb tei tei refl)

  put-back : (place : ℕ) → IsAt places place tei → set places place (Some tei) ≡ places
  put-back place at = ap (set places place) (sym at) ∙ set-get_or places place None

  is-less : (o : Option ℕ) → place_of tei places ≡ o → without_tei tei places ≡ freed places o
  is-less None off = map-same (less tei) (λ o. o) refl places (λ j x there. kept x (other-each off j x there)) ∙ map-itself places
  is-less (Some place) is =
      let at = (place_of-is places tei place is).1 in
      ap (without_tei tei) (sym (put-back place at))
      ∙ map-put (less tei) (λ o. o) refl places place (Some tei) (λ j x there other. kept x (other-there place at j x there other))
      ∙ ap (λ os. set os place (less tei (Some tei))) (map-itself places) ∙ ap (set places place) gone

  pub same-leaving : (seen : Places) → Same seen places → Same (without_tei tei seen) (freed places (place_of tei places))
  same-leaving seen same = subst (Same (without_tei tei seen)) (is-less (place_of tei places) refl) (same-less tei seen places same)

-- For each place, whether its TEI is to be checked later.
abbrev pub among : List ℕ → ℕ → Bool
among later tei = list_any (λ x. x == tei) later

abbrev pub marked : List ℕ → Option ℕ → Bool
marked later o = option_map_or (among later) o false

abbrev pub marks : List ℕ → Places → List Bool
marks later places = map (marked later) places

pub none-marked : (n : ℕ) → marks [] (replicate n None) ≡ replicate n false
none-marked zero = refl
none-marked (suc n) = ap (λ bs. false ∷ bs) (none-marked n)

pub all-unmarked : (places : Places) → marks [] places ≡ replicate (length places) false
all-unmarked [] = refl
all-unmarked (None ∷ places) = ap (λ bs. false ∷ bs) (all-unmarked places)
all-unmarked (Some tei ∷ places) = ap (λ bs. false ∷ bs) (all-unmarked places)

-- The one at the lowest place is the first of them.
pub next-there : (p : ℕ → Bool) (places : Places) → find p (teis_of places) ≡ tei_at places (position is_due (map (λ o. option_map_or p o false) places))
next-there p [] = refl
next-there p (None ∷ places) = let rest = map (λ o. option_map_or p o false) places in
    next-there p places ∙ sym (ap (tei_at (None ∷ places)) (first-of is_due false rest) ∙ step (position is_due rest))
  where
    step : (o : Option ℕ) → tei_at (None ∷ places) (option_map suc o) ≡ tei_at places o
    step None = refl
    step (Some i) = refl
next-there p (Some tei ∷ places) = let rest = map (λ o. option_map_or p o false) places in
    go (next-there p places) (p tei) ∙ sym (ap (tei_at (Some tei ∷ places)) (first-of is_due (p tei) rest))
  where
    step : (o : Option ℕ) → tei_at places o ≡ tei_at (Some tei ∷ places) (option_map suc o)
    step None = refl
    step (Some i) = refl

    go : find p (teis_of places) ≡ tei_at places (position is_due (map (λ o. option_map_or p o false) places)) → (b : Bool)
        → cond b (Some tei) (find p (teis_of places)) ≡ tei_at (Some tei ∷ places) (cond b (Some 0) (option_map suc (position is_due (map (λ o. option_map_or p o false) places))))
    go rest true = refl
    go rest false = rest ∙ step (position is_due (map (λ o. option_map_or p o false) places))

-- What an observer has of them.
pub record ArePlaced (seen : Places) (later : List ℕ) (places : Places) (to_check : List Bool) : Type 0 where
  pub same : Same seen places
  pub due : to_check ≡ marks later places
  pub there : (x : ℕ) → among later x ≡ true → is_on x places ≡ true

-- Where none passes there is no first one.
pub none-first : {X : Type 0} (p : X → Bool) (xs : List X) → list_any p xs ≡ false → position p xs ≡ None
none-first p [] none = refl
none-first p (x ∷ xs) none = first-of p x xs ∙ go (λ e. none-first p xs e) (p x) none
  where
    go : (list_any p xs ≡ false → position p xs ≡ None) → (b : Bool) → (b || list_any p xs) ≡ false → cond b (Some 0) (option_map suc (position p xs)) ≡ None
    go rest true e = absurd (true≢false e)
    go rest false e = ap (option_map suc) (rest e)

among-others : (later : List ℕ) (tei x : ℕ) → among (others tei later) x ≡ (not (x == tei) && among later x)
among-others later tei x = any-filter_same (λ y. y == x) (λ y. not (y == tei)) (not (x == tei)) (λ y same. ap (λ n. not (n == tei)) (eqb-true y x same)) later

other-among : (later : List ℕ) (tei x : ℕ) → (x == tei) ≡ false → among (others tei later) x ≡ among later x
other-among later tei x other = among-others later tei x ∙ ap (λ b. not b && among later x) other

not-among : (later : List ℕ) (tei : ℕ) → among (others tei later) tei ≡ false
not-among later tei = among-others later tei tei ∙ ap (λ b. not b && among later tei) (eq-eqb tei tei refl)

still-among : (later : List ℕ) (tei x : ℕ) → among (others tei later) x ≡ true → (among later x ≡ true) × ((x == tei) ≡ false)
still-among later tei x is = grind (arith, among-others, true≢false)

module _ (seen : Places) (later : List ℕ) (places : Places) (to_check : List Bool) (h : ArePlaced seen later places to_check) where
  -- A TEI comes,
  pub came-placed : (place tei : ℕ) → free_place places ≡ Some place → is_on tei places ≡ false → ArePlaced (with_tei tei (seen ++ None ∷ [])) later (set places place (Some tei)) to_check
  came-placed place tei free off = record {
    same = same-coming seen places place tei h.same free;
    due = h.due ∙ sym (map-set (marked later) places place (Some tei) ∙ ap (set (marks later places) place) not-later ∙ unchanged);
    there = λ x is. on-there x (h.there x is);
  }
    where
      at : (place < length places) × (get_or places place None ≡ None)
      at = free_place-is places place free

      not-later : among later tei ≡ false
      not-later = go (among later tei) refl
        where
          go : (b : Bool) → among later tei ≡ b → b ≡ false
          go true is = absurd (true≢false (sym (h.there tei is) ∙ off))
          go false is = refl

      unchanged : set (marks later places) place false ≡ marks later places
      unchanged =
          sym (ap (set (marks later places) place) (ap (marked later) at.1)) ∙ sym (map-set (marked later) places place (get_or places place None))
          ∙ ap (marks later) (set-get_or places place None)

      on-there : (x : ℕ) → is_on x places ≡ true → is_on x (set places place (Some tei)) ≡ true
      on-there x on = on-coming places place tei x free ∙ (ap (λ b. (tei == x) || b) on ∙ or-true (tei == x))

  module _ (sound : IsSoundTable places) (tei : ℕ) where
    -- or leaves;
    pub left-placed : ArePlaced (without_tei tei seen) (others tei later) (freed places (place_of tei places)) (due_at (place_of tei places) false to_check)
    left-placed = record {
      same = same-leaving places sound tei seen h.same;
      due = by-place (place_of tei places) refl;
      there = λ x is. let a = still-among later tei x is in on-leaving places tei x sound ∙ ap (λ b. not b && is_on x places) a.1 ∙ h.there x a.0;
    }
      where
        by-place : (o : Option ℕ) → place_of tei places ≡ o → due_at o false to_check ≡ marks (others tei later) (freed places o)
        by-place None off = h.due ∙ sym (map-same (marked (others tei later)) (marked later) refl places (λ j x there. other-among later tei x (other-each places sound tei off j x there)))
        by-place (Some place) is =
            ap (λ bs. set bs place false) h.due
            ∙ sym (map-put (marked (others tei later)) (marked later) refl places place None (λ j x there other. other-among later tei x (other-there places sound tei place (place_of-is places tei place is).1 j x there other)))

    -- it is to be checked later,
    pub later-placed : is_on tei places ≡ true → ArePlaced seen (tei ∷ later) places (due_at (place_of tei places) true to_check)
    later-placed on = record {
      same = h.same;
      due = by-place (place_of tei places) refl;
      there = λ x is. by-test x (tei == x) refl is;
    }
      where
        by-test : (x : ℕ) (b : Bool) → (tei == x) ≡ b → (b || among later x) ≡ true → is_on x places ≡ true
        by-test x true same is = subst (λ n. is_on n places ≡ true) (eqb-true tei x same) on
        by-test x false other is = h.there x is

        unlike : (x : ℕ) → (x == tei) ≡ false → among (tei ∷ later) x ≡ among later x
        unlike x other = ap (λ b. b || among later x) (turned (x == tei) other)
          where
            turned : (b : Bool) → b ≡ false → (tei == x) ≡ false
            turned b is = go (tei == x) refl
              where
                go : (c : Bool) → (tei == x) ≡ c → c ≡ false
                go true same = absurd (true≢false (sym (eq-eqb x tei (sym (eqb-true tei x same))) ∙ other))
                go false apart = refl

        by-place : (o : Option ℕ) → place_of tei places ≡ o → due_at o true to_check ≡ marks (tei ∷ later) places
        by-place None off = absurd (true≢false (sym on ∙ is-off places tei off))
        by-place (Some place) is =
            let at = (place_of-is places tei place is).1 in
            ap (λ bs. set bs place true) h.due
            ∙ (ap (set (marks later places) place) (sym (ap (λ b. b || among later tei) (eq-eqb tei tei refl)))
            ∙ sym (map-put (marked (tei ∷ later)) (marked later) refl places place (Some tei) (λ j x there other. unlike x (other-there places sound tei place at j x there other))))
            ∙ ap (marks (tei ∷ later)) (put-back places sound tei place at)

  -- and its check begins: it was at the lowest place.
  pub checked-next : (sound : IsSoundTable places) (tei : ℕ) → tei_at places (position is_due to_check) ≡ Some tei
      → ArePlaced seen (others tei later) places (due_at (position is_due to_check) false to_check)
  checked-next sound tei is = record {
    same = h.same;
    due = by-place (position is_due to_check) is;
    there = λ x later_still. h.there x (still-among later tei x later_still).0;
  }
    where
      by-place : (o : Option ℕ) → tei_at places o ≡ Some tei → due_at o false to_check ≡ marks (others tei later) places
      by-place None at = absurd (none-some tei at)
      by-place (Some place) at =
          ap (λ bs. set bs place false) h.due
          ∙ (ap (set (marks later places) place) (sym (not-among later tei))
          ∙ sym (map-put (marked (others tei later)) (marked later) refl places place (Some tei) (λ j x there other. other-among later tei x (other-there places sound tei place at j x there other))))
          ∙ ap (marks (others tei later)) (put-back places sound tei place at)

-- When a line begins none is, and as it is down none is any more.
pub none-placed : (n : ℕ) → ArePlaced [] [] (replicate n None) (replicate n false)
none-placed n = record { same = none-taken n; due = sym (none-marked n); there = λ x is. absurd (true≢false (sym is)) }

pub given-up : (seen : Places) (later : List ℕ) (places : Places) (to_check : List Bool) → ArePlaced seen later places to_check → ArePlaced seen [] places (replicate (length to_check) false)
given-up seen later places to_check h = grind (arith, length-map, all-unmarked, true≢false)
