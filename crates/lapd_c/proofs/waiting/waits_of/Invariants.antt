-- The lines so far are numbered, and the others have zeros.
use Rattle.std.proofs.Common.{◌≡◌, length}
use Rattle.lapd_card.specs.Kinds.{FrameCardStands}
use Rattle.model_card.specs.Card.{Card}
use Rattle.lapd_c.proofs.Marking.{AreZeros, NumbersSoFar}
use Rattle.lapd_c.proofs.waiting.waits_of.Given as goal

abbrev pub invariant-loop-line : goal.invariant-loop-line
invariant-loop-line l = record {
  room : length l.waits ≡ 64;
  zeros : AreZeros l.waits l.line;
  numbers : (m : Card) → FrameCardStands l.card m → NumbersSoFar m l.refused l.waits l.line;
}
