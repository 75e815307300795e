-- The invariants of the loops of `FrameCard::save_lines`.
use Rattle.std.specs.Prelude.{◌≤◌, All, length, take}
use Rattle.lapd_card.specs.FrameStands.{FrameStands}
use Rattle.lapd_card.specs.Image.{image_of_lines}
use Rattle.lapd_image.specs.Puts.{Puts}
use Rattle.model_card.specs.Card as machine
use Rattle.model_line.specs.Image.{IsWhole}
use Rattle.lapd_card.proofs.frame_card.FrameCard.save_lines.Given as goal

-- the lines so far are put, and may be saved
abbrev pub invariant-loop-line : goal.invariant-loop-line
invariant-loop-line g l = record {
  within : l.end ≤ length l.out;
  saved : (m : machine.Card) → FrameStands g.S.Shelf.store l.self m → All (IsWhole m.config) (take l.line-index m.lines);
  puts : (m : machine.Card) → FrameStands g.S.Shelf.store l.self m → Puts (image_of_lines m.config (take l.line-index m.lines)) l.fn.at l.fn.out l.end l.out;
}
