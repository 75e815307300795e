-- The links so far wait on if they are there; the others wait as they did.
use Rattle.model_card.specs.Card.{Card}
use Rattle.std.proofs.Common.{◌≡◌, ◌<◌, ◌-◌, ◌≤◌, ℕ}
use Rattle.lapd_card.specs.Kinds.{FrameCardStands}
use Rattle.lapd_c.specs.LinkMarks.{is_marked}
use Rattle.lapd_c.specs.Reopened.{waits_there}
use Rattle.lapd_c.proofs.kept.drop_gone.Given as goal

abbrev pub invariant-loop-place : goal.invariant-loop-place
invariant-loop-place l = record {
  below : (m : Card) → FrameCardStands l.card m → (place : ℕ) → place < l.from → is_marked l.links place ≡ waits_there l.line m l.initial.links place;
  above : (place : ℕ) → l.from ≤ place → is_marked l.links place ≡ is_marked l.initial.links place;
}

abbrev pub decreases-loop-place : goal.decreases-loop-place
decreases-loop-place l = 254 - l.from
