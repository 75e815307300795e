-- The machine of a line: what each event makes of it, and what it answers.
use Rattle.std.specs.Prelude.{Bool, false, ◌&&◌, not, Option, Some, None, is_some, option_map}
use Rattle.std.specs.Option.{option_map_or}
use Rattle.model_bits.specs.Stream as stream
use Rattle.lapd_frame.specs.declared.refusals.Refusal.{Refusal}
use Rattle.lapd_frame.specs.declared.timers.Timer.{Timer}
use Rattle.model_line.specs.declared.config.Config.{Config}
use Rattle.model_line.specs.Event.{Event, hears, expiry, request, next, Answer, told, refused, gave, nothing}
use Rattle.model_line.specs.Request.{Request}
use Rattle.model_line.specs.Line.{Line}
use Rattle.model_line.specs.Effect.{Aim, at_none, Effect, of_aim}
use Rattle.model_line.specs.Heard.{aim_of_heard}
use Rattle.model_line.specs.Expiry.{aim_of_expiry}
use Rattle.model_line.specs.Refusal.{refusal}
use Rattle.model_line.specs.Requested.{aim_of_request, carries_contents}
use Rattle.model_line.specs.Taken.{taken, next_of, line_of}

-- What an event is to the parts of the line. A refused request concerns none.
abbrev pub unless_refused : Option Refusal → Aim → Aim
unless_refused None aim = aim
unless_refused (Some why) aim = at_none nothing

abbrev pub aim_of : Config → Event → Line → Aim
aim_of c (hears e) l = aim_of_heard c l e
aim_of c (expiry timer) l = aim_of_expiry timer l
aim_of c (request r) l = unless_refused (refusal c false r l) (aim_of_request r l)
aim_of c next l = at_none nothing

-- What comes of it.
abbrev pub of_heard : Config → stream.Event → Line → Effect
of_heard c e l = of_aim c (aim_of_heard c l e) l

abbrev pub of_expiry : Config → Timer → Line → Effect
of_expiry c timer l = of_aim c (aim_of_expiry timer l) l

abbrev pub of_request : Config → Request → Line → Effect
of_request c r l = of_aim c (unless_refused (refusal c false r l) (aim_of_request r l)) l

abbrev pub unless_refused_told : Option Refusal → Effect → Answer
unless_refused_told None outcome = told outcome.told
unless_refused_told (Some why) outcome = refused why

-- The line after an event, and its answer.
unfoldable pub after : Config → Event → Line → Line
after c (hears e) l = (of_heard c e l).line
after c (expiry timer) l = (of_expiry c timer l).line
after c (request r) l = (of_request c r l).line
after c next l = option_map_or line_of (taken c l) l

unfoldable pub answer : Config → Event → Line → Answer
answer c (hears e) l = told (of_heard c e l).told
answer c (expiry timer) l = told (of_expiry c timer l).told
answer c (request r) l = unless_refused_told (refusal c false r l) (of_request c r l)
answer c next l = gave (option_map next_of (taken c l))

-- Whether an event puts contents on the card's shelf: data or unit data that the line does not refuse.
unfoldable pub takes_slot : Config → Event → Line → Bool
takes_slot c (request r) l = carries_contents r && not (is_some (refusal c false r l))
takes_slot c other l = false
