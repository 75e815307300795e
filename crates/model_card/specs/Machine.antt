-- The machine of a card: what each event makes of it, and what it answers.
use Rattle.std.specs.Prelude.{ℕ, Bool, ◌&&◌, List, set, if◌then◌else◌}
use Rattle.lapd_frame.specs.declared.refusals.Refusal.TheVariants.{PoolFull}
use Rattle.model_line.specs.Event.{Answer, refused}
use Rattle.model_line.specs.Line.{Line}
use Rattle.model_line.specs.Machine as lines
use Rattle.model_card.specs.Event.{Event}
use Rattle.model_card.specs.Card.{Card, line_at, is_full}

-- An event is one of its line, and of no other. But where all slots are used, a request that would take one is refused,
-- and changes nothing (profile).
abbrev pub wants_room : Event → Card → Bool
wants_room e card = lines.takes_slot card.config e.what (line_at e.line card) && is_full card

abbrev pub with_line : ℕ → Line → List Line → List Line
with_line number l all = set all number l

abbrev pub lines_after : Event → Card → List Line
lines_after e card =
    if wants_room e card then card.lines
    else with_line e.line (lines.after card.config e.what (line_at e.line card)) card.lines

abbrev pub after : Event → Card → Card
after e card = record card { lines = lines_after e card }

abbrev pub answer : Event → Card → Answer
answer e card = if wants_room e card then refused PoolFull else lines.answer card.config e.what (line_at e.line card)
