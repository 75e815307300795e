-- What is counted of a card, and of the moments of a run.
use Rattle.std.specs.Prelude.{ℕ, max, Bool, List, sum_by, count_by}
use Rattle.model_line.specs.declared.config.Config.{Config}
use Rattle.model_line.specs.Counts as line
use Rattle.model_card.specs.Card.{Card, line_at}
use Rattle.model_card.specs.Run.{Moment}

-- Of all lines together: what may be sent without anything else happening.
abbrev pub may_send : Card → ℕ
may_send card = sum_by (line.may_send card.config) card.lines

-- The window: the greater of both services.
abbrev pub window : Config → ℕ
window c = max c.k c.k16

-- Over the moments of a run: the frames sent, which are those that were given;
abbrev pub is_sent : Moment → Bool
is_sent m = line.is_given m.answer

abbrev pub sent : List Moment → ℕ
sent ms = count_by is_sent ms

-- the frames heard, and those of four octets or more among these;
abbrev pub is_heard : Moment → Bool
is_heard m = line.hears_frame m.event.what

abbrev pub heard : List Moment → ℕ
heard ms = count_by is_heard ms

abbrev pub is_long_heard : Moment → Bool
is_long_heard m = line.hears_long_frame m.event.what

abbrev pub long_heard : List Moment → ℕ
long_heard ms = count_by is_long_heard ms

-- the requests that were accepted;
abbrev pub is_accepted : Moment → Bool
is_accepted m = line.is_accepted m.event.what m.answer

abbrev pub accepted : List Moment → ℕ
accepted ms = count_by is_accepted ms

-- the expiries of timers that were running;
abbrev pub is_running_expiry : Moment → Bool
is_running_expiry m = line.is_running_expiry m.event.what (line_at m.event.line m.card)

abbrev pub expired : List Moment → ℕ
expired ms = count_by is_running_expiry ms

-- and the REJ frames with a valid N(R) that met a link in state 7 or 8.
abbrev pub is_reject : Moment → Bool
is_reject m = line.rejects m.card.config m.event.what (line_at m.event.line m.card)

abbrev pub rejected : List Moment → ℕ
rejected ms = count_by is_reject ms
