-- What happens at a card: an event at a line.
use Rattle.std.specs.Prelude.{ℕ}
use Rattle.model_line.specs.Event as line_event

pub record Event : Type 0 where
  pub line : ℕ
  pub what : line_event.Event

abbrev pub at : ℕ → line_event.Event → Event
at line what = record { line = line; what = what }
