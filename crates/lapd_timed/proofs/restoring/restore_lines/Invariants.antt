-- The invariant of the loop of `restore_lines`.
use Rattle.std.proofs.Common.{◌≡◌, length}
use Rattle.lapd_card.specs.FrameStands.{FrameStands}
use Rattle.lapd_clock.specs.OwnPlaces.{AreUntil}
use Rattle.lapd_timed.specs.MomentsRead.{lines_part, AreLinesRead, FallsUntil, Passes}
use Rattle.model_card.specs.Card.{Card}
use Rattle.lapd_timed.proofs.restoring.restore_lines.Given as goal

-- those of so many lines have been read
abbrev pub invariant-loop-line : goal.invariant-loop-line
invariant-loop-line g l = record {
  size : length l.moments ≡ length l.initial.moments;
  until : AreUntil l.latest l.initial.moments → AreUntil l.latest l.moments;
  read : (m : Card) → FrameStands g.S.Shelf.store l.card m → AreLinesRead m l.terminals 0 l.initial.reader l.initial.reader l.initial.moments
      → AreLinesRead m l.terminals l.line l.initial.reader l.reader l.moments;
  passes : (m : Card) → FrameStands g.S.Shelf.store l.card m → m.config.terminals ≡ l.terminals → Passes (lines_part m l.line) (FallsUntil l.latest) l.initial.reader l.reader;
}
