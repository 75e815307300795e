-- The timers that run at a caller's that obeys the orders, over whole runs.
use Rattle.std.specs.Prelude.{◌<◌, ℕ, ◌==◌, Bool, List, fold, if◌then◌else◌}
use Rattle.lapd_frame.specs.declared.timers.Timer.{Timer}
use Rattle.model_line.specs.Runs.{runs_then}
use Rattle.laws_line.specs.Timers.{HaveTheirTimers}
use Rattle.model_card.specs.Card.{Card, line_at}
use Rattle.model_card.specs.Run.{Moment}

-- Whether a timer of a line runs at a caller's, from moment to moment: by the events at that line and the answers to them,
-- and by nothing else.
abbrev pub one_more : ℕ → Timer → Bool → Moment → Bool
one_more line timer running m = if m.event.line == line then runs_then timer running m.event.what m.answer else running

abbrev pub runs_at_callers : ℕ → Timer → Bool → List Moment → Bool
runs_at_callers line timer running ms = fold (one_more line timer) running ms

-- Each link of the card runs the timer that it needs.
pub record AllHaveTheirTimers (card : Card) : Type 0 where
  pub lines : (line : ℕ) → line < card.config.lines → HaveTheirTimers (line_at line card)
