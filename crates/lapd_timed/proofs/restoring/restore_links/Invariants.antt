-- The invariant of the loop of `restore_links`.
use Rattle.std.proofs.Common.{◌≡◌, length}
use Rattle.lapd_card.specs.FrameStands.{FrameStands}
use Rattle.lapd_clock.specs.OwnPlaces.{AreUntil}
use Rattle.lapd_timed.specs.MomentsRead.{links_part, AreLinksRead, ArePlacesOf, FallsUntil, Passes, RestsHere}
use Rattle.model_card.specs.Card.{Card}
use Rattle.lapd_timed.proofs.restoring.restore_links.Given as goal

-- those of so many links have been read
abbrev pub invariant-loop-number : goal.invariant-loop-number
invariant-loop-number g l = record {
  size : length l.moments ≡ length l.initial.moments;
  until : AreUntil l.latest l.initial.moments → AreUntil l.latest l.moments;
  read : (m : Card) → FrameStands g.S.Shelf.store l.card m → ArePlacesOf m l.terminals l.initial.moments → RestsHere l.terminals l.line l.initial.moments
      → AreLinksRead m l.terminals l.line l.number l.initial.reader l.reader l.initial.moments l.moments;
  passes : (m : Card) → FrameStands g.S.Shelf.store l.card m → m.config.terminals ≡ l.terminals → Passes (links_part m l.line l.number) (FallsUntil l.latest) l.initial.reader l.reader;
}
