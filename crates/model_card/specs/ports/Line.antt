-- A line of octets: a line of frames, and a port.
use Rattle.std.specs.Prelude.{Option, option_map}
use Rattle.std.specs.Option.{option_map_or}
use Rattle.model_line.specs.declared.config.Config.{Config}
use Rattle.model_line.specs.Event as line
use Rattle.model_line.specs.Line.{Line, fresh_line}
use Rattle.model_line.specs.Machine as lines
use Rattle.model_card.specs.ports.Port as port
use Rattle.model_card.specs.ports.Port.{Port, Event, Answer, fresh_port, meant}

pub record OctetLine : Type 0 where
  pub line : Line
  pub port : Port

-- As it begins.
abbrev pub fresh_octet_line : Config → OctetLine
fresh_octet_line c = record { line = fresh_line c; port = fresh_port }

-- What its line says to what an event means.
abbrev pub said : Config → Event → OctetLine → Option line.Answer
said c e l = option_map (λ f. lines.answer c f l.line) (meant c.n201 e l.port)

-- The line after an event, and its answer.
abbrev pub after : Config → Event → OctetLine → OctetLine
after c e l = record {
  line = option_map_or (λ f. lines.after c f l.line) (meant c.n201 e l.port) l.line;
  port = port.after e (said c e l) l.port;
}

abbrev pub answer : Config → Event → OctetLine → Answer
answer c e l = port.answer e (said c e l) l.port
