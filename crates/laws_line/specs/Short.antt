-- How short answers are.
use Rattle.lapd_frame.specs.declared.timers.Timer.{Timer}
use Rattle.model_line.specs.Event.{Event, expiry, next}
use Rattle.model_line.specs.Line.{Line}
use Rattle.model_line.specs.Machine.{answer}
use Rattle.model_line.specs.declared.config.Config.{Config}
use Rattle.model_link.specs.Told.{starts}
use Rattle.std.specs.Prelude.{◌≤◌, length}
use Rattle.model_line.specs.Laws.{notes_in, orders_in}

pub record AnswersAreShort : Type 0 where
  pub notes : (c : Config) (e : Event) (l : Line) → length (notes_in (answer c e l)) ≤ 4
  pub orders : (c : Config) (e : Event) (l : Line) → length (orders_in (answer c e l)) ≤ 4
  pub takes : (c : Config) (l : Line) → length (orders_in (answer c next l)) ≤ 2
  pub expiries : (c : Config) (timer : Timer) (l : Line) → starts (orders_in (answer c (expiry timer) l)) ≤ 1
