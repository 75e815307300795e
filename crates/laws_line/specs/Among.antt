-- Calls for the next frame of a line among other events of it: what is heard, expiries and requests.
use Rattle.std.specs.Prelude.{ℕ, ◌+◌, List, [], ◌∷◌, length}
use Rattle.model_line.specs.declared.config.Config.{Config}
use Rattle.model_line.specs.Event.{Event}
use Rattle.model_line.specs.Line.{Line}
use Rattle.model_line.specs.Machine.{after}

-- A line after events.
unfoldable pub after_events : Config → List Event → Line → Line
after_events c [] l = l
after_events c (e ∷ es) l = after_events c es (after c e l)

-- The frames that go before all links: messages of TEI management, and unit data.
abbrev pub priority_waiting : Line → ℕ
priority_waiting l = length l.management.waiting + length l.own.waiting + length l.units
