-- The invariant of the loop of `are_marks`.
use Rattle.std.proofs.Common.{◌≡◌, ℕ, ◌<◌, true, IsSome}
use Rattle.lapd_card.specs.FrameStands.{FrameStands}
use Rattle.lapd_timed.specs.Image.{is_bit_set}
use Rattle.model_card.specs.Card.{Card, line_at}
use Rattle.model_line.specs.Line.{place_at, tei_at}
use Rattle.lapd_timed.proofs.saved.reading.are_marks.Given as goal

abbrev pub invariant-loop-number : goal.invariant-loop-number
invariant-loop-number g l =
    (m : Card) → FrameStands g.S.Shelf.store l.card m → (k : ℕ) → k < l.number → is_bit_set l.links k ≡ true → IsSome (tei_at (place_at k) (line_at l.line m))
