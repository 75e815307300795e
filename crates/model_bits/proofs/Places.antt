-- Places in a stream, named by the bits up to them with the latest first: where flags and aborts end, and
-- what stands in the gap that is open.
use Rattle.model_bits.proofs.Vocabulary.{◌≡◌, ℕ, suc, ◌+◌, ◌<◌, ◌≤◌, ◌⊎◌, Bool, true, false, List, [], ◌∷◌, ◌++◌, length, reverse, drop, min, Option, Some, nat_eq, nat_le, refl, ap, sym, ◌∙◌, subst, option_map, arith, ⊎_elim, false≢true, le-leb, lt-leb, leb-false, eqb-false, cases_Bool, or_parts, reverse-append, ends_flag, ends_abort, since_flag, has_abort, run_of}
use Rattle.model_bits.proofs.StuffingCounted.{ones_after, ones_after-append, NoSix, NoSix-append}

-- a list with one element more in front, read from the end
pub reverse-cons : (b : Bool) (g : List Bool) → reverse (b ∷ g) ≡ reverse g ++ b ∷ []
reverse-cons b g = reverse-append (b ∷ []) g

-- the contiguous 1s that come latest in a gap
abbrev pub latest_ones : List Bool → ℕ
latest_ones [] = 0
latest_ones (false ∷ g) = 0
latest_ones (true ∷ g) = suc (latest_ones g)

-- they are those at the end of the gap in order of time
pub ones_after-reverse : (g : List Bool) → ones_after 0 (reverse g) ≡ latest_ones g
ones_after-reverse [] = refl
ones_after-reverse (false ∷ g) =
    ap (ones_after 0) (reverse-cons false g) ∙ ones_after-append 0 (reverse g) (false ∷ [])
ones_after-reverse (true ∷ g) =
    ap (ones_after 0) (reverse-cons true g) ∙ ones_after-append 0 (reverse g) (true ∷ [])
    ∙ ap suc (ones_after-reverse g)

-- seven 1s end where the latest seven bits are 1s
pub ends_abort-latest : (g : List Bool) → ends_abort g ≡ nat_le 7 (latest_ones g)
ends_abort-latest g = grind (arith, le-leb, nat_le)

-- a run of 1s that goes on is longer than what went before
run_of-six_more : (g : List Bool) → run_of (true ∷ true ∷ true ∷ true ∷ true ∷ true ∷ true ∷ g) ≡ 7
run_of-six_more g = omega arith

-- a flag ends at a 0 exactly where six 1s and no more stand before it
pub ends_flag-run : (past : List Bool) → ends_flag (false ∷ past) ≡ nat_eq (run_of past) 6
ends_flag-run past = grind (arith, nat_eq, run_of-six_more)

-- no abort ends where fewer than seven 1s have come, and one ends where seven or more have
pub no_abort_at : (g : List Bool) → latest_ones g < 7 → ends_abort g ≡ false
no_abort_at g h = ends_abort-latest g ∙ lt-leb 7 (latest_ones g) h

pub abort_at : (g : List Bool) → 7 ≤ latest_ones g → ends_abort g ≡ true
abort_at g h = ends_abort-latest g ∙ le-leb 7 (latest_ones g) h

-- fewer than seven 1s come latest in bits with no abort
pub latest_ones-below : (g : List Bool) → has_abort g ≡ false → latest_ones g < 7
latest_ones-below [] h = omega arith
latest_ones-below (b ∷ g) h =
    leb-false 7 (latest_ones (b ∷ g)) (sym (ends_abort-latest (b ∷ g)) ∙ (or_parts (ends_abort (b ∷ g)) (has_abort g) h).0)

-- ---- the flag before, and the gap since

-- bits with one more in front, if there are any
more_of : (b : Bool) (o : Option (List Bool)) (g : List Bool) → option_map (λ h. b ∷ h) o ≡ Some g → (before : List Bool) × (o ≡ Some before) × (g ≡ b ∷ before)
more_of b o g e = grind arith

-- the bits since the latest flag are none where it ends here, and else one more than before
pub since_flag-cases : (b : Bool) (past g : List Bool) → since_flag (b ∷ past) ≡ Some g → ((ends_flag (b ∷ past) ≡ true) × (g ≡ [])) ⊎ ((ends_flag (b ∷ past) ≡ false) × ((before : List Bool) × (since_flag past ≡ Some before) × (g ≡ b ∷ before)))
since_flag-cases b past g e = grind (arith, option_map, more_of, cases_Bool)

-- a flag ends at a 0 alone
flag_ends_at_zero : (past : List Bool) → ends_flag (true ∷ past) ≡ true → ⊥
flag_ends_at_zero past e = false≢true e

-- the run up to a place is that of the gap, up to 7
pub run_of-gap : (past g : List Bool) → since_flag past ≡ Some g → run_of past ≡ min 7 (latest_ones g)
run_of-gap [] g e = cc
run_of-gap (true ∷ past) g e =
    ⊎_elim
    (λ at. absurd (flag_ends_at_zero past at.0))
    (λ more. let again = run_of-gap past more.1.0 more.1.1 in
    let same : latest_ones g ≡ suc (latest_ones more.1.0) = ap latest_ones more.1.2 in
    omega arith)
    (since_flag-cases true past g e)
run_of-gap (false ∷ past) g e =
    ⊎_elim
    (λ at. let same : latest_ones g ≡ 0 = ap latest_ones at.1 in omega arith)
    (λ more. let same : latest_ones g ≡ 0 = ap latest_ones more.1.2 in omega arith)
    (since_flag-cases false past g e)

-- In bits of an open gap each 0 comes after fewer than six 1s: six would make a flag.
abbrev pub NoFlag : List Bool → Type 0
NoFlag [] = Unit {0}
NoFlag (false ∷ g) = (latest_ones g < 6) × NoFlag g
NoFlag (true ∷ g) = NoFlag g

pub gap_has_no_flag : (past g : List Bool) → since_flag past ≡ Some g → has_abort g ≡ false → NoFlag g
gap_has_no_flag [] g e h = cc
gap_has_no_flag (true ∷ past) g e h =
    ⊎_elim
    (λ at. absurd (flag_ends_at_zero past at.0))
    (λ more. let none : has_abort (true ∷ more.1.0) ≡ false = sym (ap has_abort more.1.2) ∙ h in
    let again = gap_has_no_flag past more.1.0 more.1.1 (or_parts (ends_abort (true ∷ more.1.0)) (has_abort more.1.0) none).1 in
    subst NoFlag (sym more.1.2) again)
    (since_flag-cases true past g e)
gap_has_no_flag (false ∷ past) g e h =
    ⊎_elim
    (λ at. subst NoFlag (sym at.1) tt)
    (λ more. let none : has_abort more.1.0 ≡ false = sym (ap has_abort more.1.2) ∙ h in
    let below = latest_ones-below more.1.0 none in
    let run = run_of-gap past more.1.0 more.1.1 in
    let other : run_of past ≡ 6 → ⊥ = eqb-false (run_of past) 6 (sym (ends_flag-run past) ∙ more.0) in
    let fewer : latest_ones more.1.0 < 6 = omega arith in
    subst NoFlag (sym more.1.2) (fewer, gap_has_no_flag past more.1.0 more.1.1 none))
    (since_flag-cases false past g e)

-- such bits hold no six contiguous 1s, in order of time
pub NoSix-reverse : (g : List Bool) → NoFlag g → latest_ones g < 6 → NoSix 0 (reverse g)
NoSix-reverse [] p h = tt
NoSix-reverse (true ∷ g) p h =
    let below : ones_after 0 (reverse g) < 5 = omega (arith, ones_after-reverse g) in
    subst (NoSix 0) (sym (reverse-cons true g)) (NoSix-append 0 (reverse g) (true ∷ []) (NoSix-reverse g p (omega arith)) (below, tt))
NoSix-reverse (false ∷ g) p h =
    subst (NoSix 0) (sym (reverse-cons false g)) (NoSix-append 0 (reverse g) (false ∷ []) (NoSix-reverse g p.1 p.0) tt)

-- where six 1s and no more come latest, seven bits or more are the front of a flag after the others
pub front_of_flag : (g : List Bool) → latest_ones g ≡ 6 → 7 ≤ length g → g ≡ true ∷ true ∷ true ∷ true ∷ true ∷ true ∷ false ∷ drop 7 g
front_of_flag g e h = grind arith
