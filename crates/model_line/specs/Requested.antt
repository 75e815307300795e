-- A request that is granted. The pool of contents is the card's: where it is full, the card refuses.
use Rattle.std.specs.Prelude.{ℕ, Bool, true, false, Option, Some, None}
use Rattle.lapd_frame.specs.declared.services.Service.{Service}
use Rattle.model_link.specs.Events as link
use Rattle.model_teis.specs.network.Events as teis
use Rattle.model_teis.specs.terminal.Events as terminals
use Rattle.model_line.specs.Request.{Request, Establish, Release, Data, Unit, Assign, Remove, Check, Disown, AskTei, VerifyTei, SetBusy, ClearBusy, Deactivate, Down}
use Rattle.model_line.specs.Event.{nothing}
use Rattle.model_line.specs.Line.{Line, place_in}
use Rattle.model_line.specs.Effect.{Aim, at_none, at_link, at_management, at_terminal, at_units, at_no_link}

-- A request of the link of a service with a TEI.
abbrev pub at_requested : Service → ℕ → link.Request → Option ℕ → Aim
at_requested service tei request None = at_none nothing
at_requested service tei request (Some place) = at_link service tei place (link.requested request false)

abbrev pub to_link : Service → ℕ → link.Request → Line → Aim
to_link service tei request l = at_requested service tei request (place_in l tei)

-- The line of that link is down (persistent deactivation, annex B): the link is left as where its TEI leaves the line, but
-- that the TEI stays.
abbrev pub at_deactivated : Service → ℕ → Option ℕ → Aim
at_deactivated service tei None = at_none nothing
at_deactivated service tei (Some place) = at_link service tei place link.cleared

-- What a request is to the line.
abbrev pub aim_of_request : Request → Line → Aim
aim_of_request (Establish service tei) l = to_link service tei link.Establish l
aim_of_request (Release service tei) l = to_link service tei link.Release l
aim_of_request (Data service tei contents) l = to_link service tei (link.Data contents) l
aim_of_request (Unit service tei contents) l = at_units (record { service = service; tei = tei; contents = contents })
aim_of_request (Assign tei) l = at_management (teis.assign tei)
aim_of_request (Remove tei) l = at_management (teis.remove tei)
aim_of_request (Check tei) l = at_management (teis.check tei)
aim_of_request (Disown tei) l = at_management (teis.disown tei)
aim_of_request AskTei l = at_terminal terminals.ask
aim_of_request (VerifyTei tei) l = at_terminal (terminals.verify tei)
aim_of_request (SetBusy service tei) l = to_link service tei link.SetBusy l
aim_of_request (ClearBusy service tei) l = to_link service tei link.ClearBusy l
aim_of_request (Deactivate service tei) l = at_deactivated service tei (place_in l tei)
aim_of_request Down l = at_no_link

-- The requests that put contents on the card's shelf.
abbrev pub carries_contents : Request → Bool
carries_contents (Data service tei contents) = true
carries_contents (Unit service tei contents) = true
carries_contents other = false
