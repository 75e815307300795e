-- What a flag and an abort bring, by the flag before.
use Rattle.model_bits.proofs.Vocabulary.{◌≡◌, ℕ, Bool, true, false, List, [], ◌∷◌, ◌++◌, drop, reverse, Some, refl, ap, ◌∙◌, arith, lt-ltb, le-ltb, length-reverse, reverse-reverse, flag, since_flag, has_abort, closed_by_flag, given_up, HasNoFlag, gap_brings, abort_brings, seven_ones, GapBetweenFlags, FirstAbortAfterFlag}
use Rattle.std.specs.Prelude.{option_map, option_and_then, if◌then◌else◌}

-- where no flag ends, the bits since the latest grow
since-grows : (new past : List Bool) → since_flag past ≡ Some [] → HasNoFlag past new → since_flag (new ++ past) ≡ Some new
since-grows [] past at none = at
since-grows (b ∷ new) past at none =
    ap (λ t. if t then Some [] else option_map (λ g. b ∷ g) (since_flag (new ++ past))) (none [] b new refl)
    ∙ ap (option_map (λ g. b ∷ g)) (since-grows new past at (λ later c before is. none (b ∷ later) c before (ap (λ l. b ∷ l) is)))

-- a flag closes the gap before it
closes : (room : ℕ) (gap : List Bool) → closed_by_flag room (drop 1 flag ++ reverse gap) ≡ gap_brings room gap
closes room gap = grind (arith, le-ltb, length-reverse, reverse-reverse)

pub gap_between_flags : GapBetweenFlags
gap_between_flags room past gap none =
    ap (option_and_then (closed_by_flag room)) (since-grows (drop 1 flag ++ reverse gap) (flag ++ past) refl none) ∙ closes room gap

-- the first seven 1s give up what was begun
gives_up : (begun : List Bool) → has_abort (drop 1 seven_ones ++ reverse begun) ≡ false → given_up (seven_ones ++ reverse begun) ≡ abort_brings begun
gives_up begun first = grind (arith, lt-ltb, length-reverse)

pub first_abort_after_flag : FirstAbortAfterFlag
first_abort_after_flag room past begun none first =
    ap (option_and_then (λ g. given_up (true ∷ g))) (since-grows (drop 1 seven_ones ++ reverse begun) (flag ++ past) refl none) ∙ gives_up begun first
