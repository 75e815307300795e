-- Laws that tie what is heard to the places of flags, without the walk over all places. A place is the list of the
-- bits up to it, the latest first, so `reverse gap` is how a gap lies there, and a flag reads the same either way.
--
-- So `heard_at`, which walks back place by place, pairs the flags as a reader would.
use Rattle.std.specs.Prelude.{◌≡◌, ℕ, Bool, true, false, List, [], ◌∷◌, ◌++◌, drop, take, reverse, Option, Some, None, if◌then◌else◌}
use Rattle.model_bits.specs.Bits.{flag}
use Rattle.model_bits.specs.Stream.{Event, dropped, ends_flag, has_abort, gap_event, heard_at}
use Rattle.model_bits.specs.declared.heard.Cause.TheVariants.{Abort}

-- No flag ends at any of the places that the bits `new` lead to after a place.
abbrev pub HasNoFlag : List Bool → List Bool → Type 0
HasNoFlag past new =
    (later : List Bool) (b : Bool) (before : List Bool) → new ≡ later ++ (b ∷ before) → ends_flag (b ∷ (before ++ past)) ≡ false

-- What the gap between two flags makes of itself: no bits are no event, nor is what seven contiguous 1s gave up.
abbrev pub gap_brings : ℕ → List Bool → Option Event
gap_brings room [] = None
gap_brings room (b ∷ gap) = if has_abort (reverse (b ∷ gap)) then None else Some (gap_event room (b ∷ gap))

-- Behind whatever bits: a flag, a gap and a flag, where none ends between. The seven bits of the second flag before
-- its last one are among those after the first.
abbrev pub GapBetweenFlags : Type 0
GapBetweenFlags =
    (room : ℕ) (past gap : List Bool) → HasNoFlag (flag ++ past) (drop 1 flag ++ reverse gap)
    → heard_at room (flag ++ (reverse gap ++ (flag ++ past))) ≡ gap_brings room gap

-- Two flags that share their 0 are seven bits apart. The second brings nothing.
abbrev pub FlagsThatShare : Type 0
FlagsThatShare = (room : ℕ) (past : List Bool) → heard_at room (take 7 flag ++ (flag ++ past)) ≡ None

abbrev pub seven_ones : List Bool
seven_ones = true ∷ true ∷ true ∷ true ∷ true ∷ true ∷ true ∷ []

-- What seven contiguous 1s give up: nothing was begun where no bits stand between the flag and them (profile).
abbrev pub abort_brings : List Bool → Option Event
abort_brings [] = None
abort_brings (b ∷ begun) = Some (dropped Abort)

-- Behind whatever bits: a flag, other bits and seven 1s, where no flag and no other seven 1s end between.
abbrev pub FirstAbortAfterFlag : Type 0
FirstAbortAfterFlag =
    (room : ℕ) (past begun : List Bool) → HasNoFlag (flag ++ past) (drop 1 seven_ones ++ reverse begun)
    → has_abort (drop 1 seven_ones ++ reverse begun) ≡ false
    → heard_at room (seven_ones ++ (reverse begun ++ (flag ++ past))) ≡ abort_brings begun
