-- The invariant of the loop of `has_same_places`.
use Rattle.std.proofs.Common.{◌≡◌, ℕ, ◌*◌, ◌<◌, is_some}
use Rattle.lapd_card.specs.FrameStands.{FrameStands}
use Rattle.model_card.specs.Card.{Card, line_at}
use Rattle.model_line.specs.Line.{tei_at}
use Rattle.lapd_timed.specs.Marked.{has_state}
use Rattle.lapd_timed.proofs.card_timers.CardTimers.has_same_places.Given as goal

-- so far it is so
abbrev pub invariant-loop-place : goal.invariant-loop-place
invariant-loop-place g l = record {
  before : (m : Card) → FrameStands g.S.Shelf.store l.card m → (before : ℕ) → before < l.place → is_some (tei_at before (line_at l.line m)) ≡ has_state l.self.changes l.line (2 * before);
}
