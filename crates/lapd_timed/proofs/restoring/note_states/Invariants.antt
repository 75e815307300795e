-- The invariant of the loop of `note_states`.
use Rattle.std.proofs.Common.{◌≡◌, ◌<◌, ℕ, get_or, length}
use Rattle.lapd_card.specs.FrameStands.{FrameStands}
use Rattle.model_card.specs.Card.{Card, line_at}
use Rattle.model_timed.specs.Changes.{standing}
use Rattle.lapd_timed.specs.Marked.{slot_in}
use Rattle.lapd_timed.proofs.restoring.note_states.Given as goal

-- the states of so many lines have been noted
abbrev pub invariant-loop-line : goal.invariant-loop-line
invariant-loop-line g l = record {
  links : l.changes.links ≡ l.initial.changes.links;
  size : length l.changes.states ≡ length l.initial.changes.states;
  moments : length l.changes.moments ≡ length l.initial.changes.moments;
  noted : (m : Card) → FrameStands g.S.Shelf.store l.card m → (line number : ℕ) → line < l.line → number < l.initial.changes.links
      → get_or l.changes.states (slot_in l.changes line number) 0 ≡ standing number (line_at line m);
}
