-- How each event is answered.
use Rattle.std.specs.Prelude.{◌≡◌, ℕ, Bool, true, false, List, Result, Ok, Err}
use Rattle.std.specs.Option.{option_map_or}
use Rattle.lapd_frame.specs.declared.refusals.Refusal.{Refusal}
use Rattle.model_line.specs.declared.config.Config.{Config}
use Rattle.model_line.specs.Event as line_event
use Rattle.model_line.specs.Event.{Answer, told, refused, gave}
use Rattle.model_card.specs.Event.{Event}
use Rattle.model_card.specs.Takes.{is_take}
use Rattle.laws_trace.specs.Observer.{moment_of}
use Rattle.laws_trace.specs.Reasons.{refusal_due}

-- By what is told; by a frame, or by none; or by a refusal.
abbrev pub kind_of : Answer → Result Bool Refusal
kind_of (told t) = Ok false
kind_of (gave frame) = Ok true
kind_of (refused why) = Err why

-- A request is refused exactly where one of its reasons holds, for the first that does. Else a call for the next frame is answered by one,
-- or by none, and each other event by what is told.
abbrev pub AnswersSuit : Config → List Event → ℕ → Type 0
AnswersSuit c events number =
    (what : line_event.Event) → kind_of (moment_of c events number what).answer ≡ option_map_or (λ why. Err why) (refusal_due c events number what) (Ok (is_take what))
