-- The table of TEIs, and the list of those on a line that an observer has: what is on it after a TEI came or left, and how
-- many are.
use Rattle.laws_trace.proofs.Vocabulary.{◌≡◌, ℕ, zero, suc, ◌+◌, ◌<◌, ◌≤◌, ◌==◌, ◌&&◌, ◌||◌, Bool, true, false, cond, not, List, [], ◌∷◌, length, replicate, set, get_or, Option, Some, None, refl, sym, ap, ◌∙◌, subst, arith, eq-eqb, true≢false, filter, list_any, prefix_len, any-filter_same, none-some, IsAt, IsSoundTable, Places, is_free, has, is_in_use, is_on, means, place_of, free_place, freed}
use Rattle.laws_trace.proofs.Vocabulary.{place_of-is, is_on-at, free_place-is, is-off, eqb-true, ltb-false, false_from_ne_true}

-- A TEI that comes.
swap : (a b c : Bool) → (a || (b || c)) ≡ (b || (a || c))
swap a b c = grind arith

set-any : (x tei : ℕ) (places : Places) (place : ℕ) → place < length places → get_or places place None ≡ None → is_on x (set places place (Some tei)) ≡ ((tei == x) || is_on x places)
set-any x tei [] place within free = absurd (omega (arith, within))
set-any x tei (o ∷ places) zero within free = ap (λ o. (tei == x) || (has x o || is_on x places)) (sym free)
set-any x tei (o ∷ places) (suc i) within free =
    ap (λ b. has x o || b) (set-any x tei places i (omega (arith, within)) free) ∙ swap (has x o) (tei == x) (is_on x places)

pub on-coming : (places : Places) (place tei x : ℕ) → free_place places ≡ Some place → is_on x (set places place (Some tei)) ≡ ((tei == x) || is_on x places)
on-coming places place tei x free = let at = free_place-is places place free in set-any x tei places place at.0 at.1

-- A TEI that leaves.
holder : (x : ℕ) (o : Option ℕ) → has x o ≡ true → o ≡ Some x
holder x o is = grind (arith, eqb-true)

abbrev IsAlone : Places → ℕ → ℕ → Type 0
IsAlone places place tei = (j : ℕ) → IsAt places j tei → j ≡ place

pub none-else : (x : ℕ) (places : Places) → ((j : ℕ) → IsAt places j x → ⊥) → is_on x places ≡ false
none-else x [] h = refl
none-else x (o ∷ places) h = go (has x o) refl (none-else x places (λ j at. h (suc j) at))
  where
    go : (b : Bool) → has x o ≡ b → is_on x places ≡ false → (has x o || is_on x places) ≡ false
    go true is rest = absurd (h 0 (holder x o is))
    go false is rest = ap (λ b. b || is_on x places) is ∙ rest

pub clear-same : (x : ℕ) (places : Places) (place : ℕ) → place < length places → IsAlone places place x → is_on x (set places place None) ≡ false
clear-same x [] place within alone = absurd (omega (arith, within))
clear-same x (o ∷ places) zero within alone = none-else x places (λ j at. let e : suc j ≡ 0 = alone (suc j) at in absurd (omega (arith, e)))
clear-same x (o ∷ places) (suc i) within alone =
    go (has x o) refl (clear-same x places i (omega (arith, within)) (λ j at. let e : suc j ≡ suc i = alone (suc j) at in omega (arith, e)))
  where
    go : (b : Bool) → has x o ≡ b → is_on x (set places i None) ≡ false → (has x o || is_on x (set places i None)) ≡ false
    go true is rest = let e : 0 ≡ suc i = alone 0 (holder x o is) in absurd (omega (arith, e))
    go false is rest = ap (λ b. b || is_on x (set places i None)) is ∙ rest

clear-other : (x tei : ℕ) (places : Places) (place : ℕ) → place < length places → get_or places place None ≡ Some tei → (x == tei) ≡ false → is_on x (set places place None) ≡ is_on x places
clear-other x tei [] place within at other = absurd (omega (arith, within))
clear-other x tei (o ∷ places) zero within at other = grind (arith, false_from_ne_true, eq-eqb, eqb-true)
clear-other x tei (o ∷ places) (suc i) within at other = ap (λ b. has x o || b) (clear-other x tei places i (omega (arith, within)) at other)

pub on-leaving : (places : Places) (tei x : ℕ) → IsSoundTable places → is_on x (freed places (place_of tei places)) ≡ (not (x == tei) && is_on x places)
on-leaving places tei x sound = by-place (place_of tei places) refl (x == tei) refl
  where
    by-place : (o : Option ℕ) → place_of tei places ≡ o → (b : Bool) → (x == tei) ≡ b → is_on x (freed places (place_of tei places)) ≡ (not (x == tei) && is_on x places)
    by-place None is true same =
        ap (λ o. is_on x (freed places o)) is ∙ ap (λ n. is_on n places) (eqb-true x tei same) ∙ is-off places tei is ∙ sym (ap (λ b. not b && is_on x places) same)
    by-place None is false same = ap (λ o. is_on x (freed places o)) is ∙ sym (ap (λ b. not b && is_on x places) same)
    by-place (Some place) is true same =
        let at = place_of-is places tei place is in
        ap (λ o. is_on x (freed places o)) is
        ∙ clear-same x places place at.0 (λ j there. sound.once j place tei (subst (IsAt places j) (eqb-true x tei same) there) at.1)
        ∙ sym (ap (λ b. not b && is_on x places) same)
    by-place (Some place) is false same =
        let at = place_of-is places tei place is in
        ap (λ o. is_on x (freed places o)) is ∙ clear-other x tei places place at.0 at.1 same ∙ sym (ap (λ b. not b && is_on x places) same)

pub on-filtered : (on : List ℕ) (tei x : ℕ) → list_any (λ y. y == x) (filter (λ y. not (y == tei)) on) ≡ (not (x == tei) && list_any (λ y. y == x) on)
on-filtered on tei x = any-filter_same (λ y. y == x) (λ y. not (y == tei)) (not (x == tei)) (λ y same. ap (λ n. not (n == tei)) (eqb-true y x same)) on

-- How many places are taken.
abbrev pub taken : Places → ℕ
taken [] = 0
taken (None ∷ places) = taken places
taken (Some tei ∷ places) = taken places + 1

one-taken : (o : Option ℕ) (ps qs : Places) (n : ℕ) → taken ps ≡ taken qs + n → taken (o ∷ ps) ≡ taken (o ∷ qs) + n
one-taken o ps qs n e = grind arith

taken-coming : (places : Places) (place tei : ℕ) → place < length places → get_or places place None ≡ None → taken (set places place (Some tei)) ≡ taken places + 1
taken-coming [] place tei within free = absurd (omega (arith, within))
taken-coming (o ∷ places) zero tei within free = ap (λ o. taken (o ∷ places) + 1) (sym free)
taken-coming (o ∷ places) (suc i) tei within free = one-taken o (set places i (Some tei)) places 1 (taken-coming places i tei (omega (arith, within)) free)

taken-leaving : (places : Places) (place tei : ℕ) → place < length places → get_or places place None ≡ Some tei → taken places ≡ taken (set places place None) + 1
taken-leaving [] place tei within at = absurd (omega (arith, within))
taken-leaving (o ∷ places) zero tei within at = ap (λ o. taken (o ∷ places)) at
taken-leaving (o ∷ places) (suc i) tei within at = one-taken o places (set places i None) 1 (taken-leaving places i tei (omega (arith, within)) at)

taken-most : (places : Places) → taken places ≤ length places
taken-most [] = omega arith
taken-most (None ∷ places) = let most = taken-most places in omega (arith, most)
taken-most (Some tei ∷ places) = let most = taken-most places in omega (arith, most)

taken-fewer : (places : Places) (place : ℕ) → place < length places → get_or places place None ≡ None → taken places < length places
taken-fewer [] place within free = absurd (omega (arith, within))
taken-fewer (o ∷ places) zero within free = subst (λ o. taken (o ∷ places) < length (o ∷ places)) (sym free) (let most = taken-most places in omega (arith, most))
taken-fewer (None ∷ places) (suc i) within free = let fewer = taken-fewer places i (omega (arith, within)) free in omega (arith, fewer)
taken-fewer (Some tei ∷ places) (suc i) within free = let fewer = taken-fewer places i (omega (arith, within)) free in omega (arith, fewer)

-- So a place is free exactly where fewer are taken than there are.
pub free-fewer : (places : Places) (place : ℕ) → free_place places ≡ Some place → taken places < length places
free-fewer places place free = let at = free_place-is places place free in taken-fewer places place at.0 at.1

all-taken : (places : Places) → length places ≤ prefix_len (λ o. not (is_free o)) places → taken places ≡ length places
all-taken [] e = refl
all-taken (None ∷ places) e = absurd (omega (arith, e))
all-taken (Some tei ∷ places) e = let rest = all-taken places (omega (arith, e)) in omega (arith, rest)

pub none-free : (places : Places) → free_place places ≡ None → taken places ≡ length places
none-free places = grind (arith, none-some, all-taken, ltb-false)

-- How often a list has a TEI.
abbrev pub times : ℕ → List ℕ → ℕ
times x [] = 0
times x (y ∷ ys) = cond (y == x) (times x ys + 1) (times x ys)

abbrev among : ℕ → List ℕ → Bool
among x ys = list_any (λ y. y == x) ys

abbrev others : ℕ → List ℕ → List ℕ
others x ys = filter (λ y. not (y == x)) ys

others-length : (x : ℕ) (ys : List ℕ) → length ys ≡ length (others x ys) + times x ys
others-length x [] = refl
others-length x (y ∷ ys) = grind (arith, others-length x ys)

pub none-times : (x : ℕ) (ys : List ℕ) → among x ys ≡ false → times x ys ≡ 0
none-times x [] off = refl
none-times x (y ∷ ys) off = go (y == x) off (λ off. none-times x ys off)
  where
    go : (b : Bool) → (b || among x ys) ≡ false → (among x ys ≡ false → times x ys ≡ 0) → cond b (times x ys + 1) (times x ys) ≡ 0
    go b off rest = grind arith

some-times : (x : ℕ) (ys : List ℕ) → among x ys ≡ true → 1 ≤ times x ys
some-times x [] on = absurd (true≢false (sym on))
some-times x (y ∷ ys) on = go (y == x) on (λ on. some-times x ys on)
  where
    go : (b : Bool) → (b || among x ys) ≡ true → (among x ys ≡ true → 1 ≤ times x ys) → 1 ≤ cond b (times x ys + 1) (times x ys)
    go b on rest = grind arith

fewer-times : (x tei : ℕ) (ys : List ℕ) → times x (others tei ys) ≤ times x ys
fewer-times x tei [] = omega arith
fewer-times x tei (y ∷ ys) = grind (arith, fewer-times x tei ys)

-- The TEIs on a line, as an observer has them: each once, and as many as places are taken.
pub record AreOn (on : List ℕ) (places : Places) : Type 0 where
  pub same : (x : ℕ) → among x on ≡ is_on x places
  pub size : length on ≡ taken places
  pub once : (x : ℕ) → times x on ≤ 1

pub none-on : (n : ℕ) → AreOn [] (replicate n None)
none-on n = record { same = λ x. sym (nowhere x n); size = sym (empty n); once = λ x. omega arith }
  where
    nowhere : (x n : ℕ) → is_on x (replicate n None) ≡ false
    nowhere x zero = refl
    nowhere x (suc n) = nowhere x n

    empty : (n : ℕ) → taken (replicate n None) ≡ 0
    empty zero = refl
    empty (suc n) = empty n

module _ (on : List ℕ) (places : Places) (h : AreOn on places) where
  pub comes-on : (place tei : ℕ) → free_place places ≡ Some place → is_on tei places ≡ false → AreOn (tei ∷ on) (set places place (Some tei))
  comes-on place tei free off = grind (arith, on-coming, free_place-is, taken-coming, none-times, eqb-true)

  size-leaving : (tei : ℕ) (o : Option ℕ) → place_of tei places ≡ o → length (others tei on) ≡ taken (freed places o)
  size-leaving tei None is = omega (arith, none-times tei on (h.same tei ∙ is-off places tei is), others-length tei on, h.size)
  size-leaving tei (Some place) is =
      let at = place_of-is places tei place is in
      let some : 1 ≤ times tei on = some-times tei on (h.same tei ∙ is_on-at places place tei at.1) in
      let less = taken-leaving places place tei at.0 at.1 in omega (arith, some, h.once tei, others-length tei on, less, h.size)

  pub leaves-on : (tei : ℕ) → IsSoundTable places → AreOn (others tei on) (freed places (place_of tei places))
  leaves-on tei sound = grind (arith, on-filtered, on-leaving, size-leaving, fewer-times)

-- Of what passes a test in a list, one is there: each test that it passes finds something in the list.
or-true : (b : Bool) → (b || true) ≡ true
or-true b = grind arith

module _ {X : Type 0} (p : X → Bool) where
  abbrev IsAmong : List X → Type 0
  IsAmong xs = (x : X) × (p x ≡ true) × ((q : X → Bool) → q x ≡ true → list_any q xs ≡ true)

  first-or : (x : X) (xs : List X) (b : Bool) → p x ≡ b → (b || list_any p xs) ≡ true → (list_any p xs ≡ true → IsAmong xs) → IsAmong (x ∷ xs)
  first-or x xs b is e rest = grind (arith, or-true)

  among-some : (xs : List X) → list_any p xs ≡ true → IsAmong xs
  among-some [] e = absurd (true≢false (sym e))
  among-some (x ∷ xs) e = first-or x xs (p x) refl e (among-some xs)

alike : (a b : Bool) → (a ≡ true → b ≡ true) → (b ≡ true → a ≡ true) → a ≡ b
alike a b f g = grind arith

-- A TEI is in use, or any is where all are meant, to the observer as on the line.
module _ (on : List ℕ) (places : Places) (h : AreOn on places) (tei : ℕ) where
  abbrev used : ℕ → Bool
  used y = tei == 127 || y == tei

  seen-used : list_any used on ≡ true → is_in_use tei places ≡ true
  seen-used e =
      let y = among-some used on e in
      let there = among-some (has y.0) places (sym (h.same y.0) ∙ y.2 (λ z. z == y.0) (eq-eqb y.0 y.0 refl)) in
      there.2 (means tei) (ap (means tei) (holder y.0 there.0 there.1) ∙ y.1)

  used-seen : is_in_use tei places ≡ true → list_any used on ≡ true
  used-seen e = let x = among-some (means tei) places e in go x.0 x.1 x.2
    where
      go : (o : Option ℕ) → means tei o ≡ true → ((q : Option ℕ → Bool) → q o ≡ true → list_any q places ≡ true) → list_any used on ≡ true
      go None is there = absurd (true≢false (sym is))
      go (Some y) is there =
          let z = among-some (λ z. z == y) on (h.same y ∙ there (has y) (eq-eqb y y refl)) in
          z.2 used (ap used (eqb-true z.0 y z.1) ∙ is)

  pub used-same : list_any used on ≡ is_in_use tei places
  used-same = alike (list_any used on) (is_in_use tei places) seen-used used-seen
