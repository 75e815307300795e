-- What the latest bit of a stream brings, and what it makes of the open gap, by the run of 1s before it.
use Rattle.model_bits.proofs.Vocabulary.{◌≡◌, ◌≢◌, ℕ, ◌<◌, ◌≤◌, Bool, true, false, List, [], ◌∷◌, Option, Some, None, nat_lt, refl, ◌∙◌, arith, ⊎_elim, cases_Bool, ne_eqb, eq-eqb, ends_flag, ends_abort, since_flag, has_abort, heard_at, run_of, open_gap, one_more, given_up_event, closed_event}
use Rattle.model_bits.proofs.Places.{no_abort_at, abort_at, ends_flag-run, run_of-gap, latest_ones-below}

-- the gap since the latest flag: there is none, it was given up, or it goes on
by_since :
    {P : Type 0} (past : List Bool) → (since_flag past ≡ None → P)
    → ((g : List Bool) → since_flag past ≡ Some g → has_abort g ≡ true → P)
    → ((g : List Bool) → since_flag past ≡ Some g → has_abort g ≡ false → P) → P
by_since {P} past never ended going = go (since_flag past) refl
  where
    go : (o : Option (List Bool)) → since_flag past ≡ o → P
    go None e = never e
    go (Some g) e = ⊎_elim (ended g e) (going g e) (cases_Bool (has_abort g))

-- whether a 1 more makes seven of them
few_more : (past g : List Bool) → run_of past < 6 → since_flag past ≡ Some g → ends_abort (true ∷ g) ≡ false
few_more past g h e = no_abort_at (true ∷ g) (omega (arith, run_of-gap past g e))

many_more : (past g : List Bool) → 6 ≤ run_of past → since_flag past ≡ Some g → ends_abort (true ∷ g) ≡ true
many_more past g h e = abort_at (true ∷ g) (omega (arith, run_of-gap past g e))

-- ---- a 1 after fewer than six brings nothing, and goes into the gap

pub heard_at-one : (room : ℕ) (past : List Bool) → run_of past < 6 → heard_at room (true ∷ past) ≡ None
heard_at-one room past h = grind (arith, by_since, few_more)

pub open_gap-one : (past : List Bool) → run_of past < 6 → open_gap (true ∷ past) ≡ one_more true (open_gap past)
open_gap-one past h = grind (arith, by_since, few_more)

-- ---- a 1 after six or more gives the open gap up

pub heard_at-abort : (room : ℕ) (past : List Bool) → 6 ≤ run_of past → heard_at room (true ∷ past) ≡ given_up_event (open_gap past)
heard_at-abort room past h = grind (arith, by_since, many_more)

pub open_gap-abort : (past : List Bool) → 6 ≤ run_of past → open_gap (true ∷ past) ≡ None
open_gap-abort past h = grind (arith, by_since, many_more)

-- after seven none is open
too_many : (past g : List Bool) → run_of past ≡ 7 → since_flag past ≡ Some g → has_abort g ≡ false → ⊥
too_many past g seven e none = omega (arith, seven, run_of-gap past g e, latest_ones-below g none)

pub open_gap-seven : (past : List Bool) → run_of past ≡ 7 → open_gap past ≡ None
open_gap-seven past seven = grind (arith, by_since, too_many)

-- ---- a 0 that ends no flag brings nothing, and goes into the gap

no_flag : (past : List Bool) → run_of past ≢ 6 → ends_flag (false ∷ past) ≡ false
no_flag past h = ends_flag-run past ∙ ne_eqb (run_of past) 6 h

pub heard_at-zero : (room : ℕ) (past : List Bool) → run_of past ≢ 6 → heard_at room (false ∷ past) ≡ None
heard_at-zero room past h = grind (arith, by_since, no_flag)

pub open_gap-zero : (past : List Bool) → run_of past ≢ 6 → open_gap (false ∷ past) ≡ one_more false (open_gap past)
open_gap-zero past h = grind (arith, by_since, no_flag)

-- ---- a 0 after six 1s ends a flag, which closes the open gap and opens the next

flag_ends : (past : List Bool) → run_of past ≡ 6 → ends_flag (false ∷ past) ≡ true
flag_ends past h = ends_flag-run past ∙ eq-eqb (run_of past) 6 h

pub heard_at-flag : (room : ℕ) (past : List Bool) → run_of past ≡ 6 → heard_at room (false ∷ past) ≡ closed_event room (open_gap past)
heard_at-flag room past h = grind (arith, by_since, flag_ends, nat_lt, cases_Bool)

pub open_gap-flag : (past : List Bool) → run_of past ≡ 6 → open_gap (false ∷ past) ≡ Some []
open_gap-flag past h = rw (flag_ends past h) refl
