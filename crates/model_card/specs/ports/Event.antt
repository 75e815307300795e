-- What happens at a card of octets: an event at a line.
use Rattle.std.specs.Prelude.{ℕ}
use Rattle.model_line.specs.Request.{request_of}
use Rattle.model_card.specs.ports.Port as port
use Rattle.model_card.specs.declared.ports.events.Event as rust

pub record Event : Type 0 where
  pub line : ℕ
  pub what : port.Event

abbrev pub at : ℕ → port.Event → Event
at line what = record { line = line; what = what }

-- The same of the card's event, its contents seen without references.
abbrev pub event_of : rust.Event → Event
event_of (rust.TheVariants.Octet line octet) = at line (port.octet octet)
event_of (rust.TheVariants.Expire line timer) = at line (port.expiry timer)
event_of (rust.TheVariants.Request line request) = at line (port.request (request_of request))
event_of (rust.TheVariants.Pull line) = at line port.pull
