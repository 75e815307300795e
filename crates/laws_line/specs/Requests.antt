-- Requests of links.
use Rattle.std.specs.Prelude.{ℕ, ◌==◌, ◌&&◌, Bool, false}
use Rattle.lapd_frame.specs.declared.services.Service.{Service}
use Rattle.lapd_frame.specs.Services.{same_service}
use Rattle.model_link.specs.Events as link
use Rattle.model_line.specs.Event.{Event, request}
use Rattle.model_line.specs.Request.{Request, Establish, Release, Data, SetBusy, ClearBusy, Deactivate}

-- A request of the link of a service with a TEI.
abbrev pub of_link : Service → ℕ → link.Request → Request
of_link service tei link.Establish = Establish service tei
of_link service tei link.Release = Release service tei
of_link service tei (link.Data contents) = Data service tei contents
of_link service tei link.SetBusy = SetBusy service tei
of_link service tei link.ClearBusy = ClearBusy service tei

-- The deactivation of that link is asked for.
abbrev pub is_deactivation : Service → ℕ → Request → Bool
is_deactivation service tei (Deactivate of by) = same_service of service && by == tei
is_deactivation service tei other = false

abbrev pub deactivates : Service → ℕ → Event → Bool
deactivates service tei (request r) = is_deactivation service tei r
deactivates service tei other = false
