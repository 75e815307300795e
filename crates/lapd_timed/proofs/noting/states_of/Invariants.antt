-- The invariant of the loop of `states_of`.
use Rattle.std.proofs.Common.{◌≡◌, ℕ, ◌*◌, ◌<◌, get_or, length}
use Rattle.lapd_card.specs.FrameStands.{FrameStands}
use Rattle.model_card.specs.Card.{Card, line_at}
use Rattle.model_timed.specs.Changes.{standing}
use Rattle.lapd_timed.proofs.noting.states_of.Given as goal

-- so far the links of the places before are as they stand
abbrev pub invariant-loop-place : goal.invariant-loop-place
invariant-loop-place g l = record {
  count : length l.states ≡ 16;
  before : (m : Card) → FrameStands g.S.Shelf.store l.card m → (number : ℕ) → number < 2 * l.place → get_or l.states number 0 ≡ standing number (line_at l.line m);
}
