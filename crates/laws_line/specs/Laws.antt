-- Laws of a line: what it does with what it is given, and with what it hears.
use Rattle.model_line.specs.declared.config.Config.{Config}
use Rattle.model_line.specs.Event.{Event}
use Rattle.model_line.specs.Line.{Line}
use Rattle.model_line.specs.Machine.{after, answer}
use Rattle.model_line.specs.Sound.{IsSound}
use Rattle.laws_line.specs.OneEvent.{IsOneEvent}

-- Whatever happens on a line, one part of it has one event, and all else of it is as it was.
abbrev pub OneEvent : Type 0
OneEvent = (c : Config) (e : Event) (l : Line) → IsSound c l → IsOneEvent c e l (after c e l) (answer c e l)
