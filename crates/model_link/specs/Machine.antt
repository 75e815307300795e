-- The machine of a data link: what each event makes of it, and what it answers.
use Rattle.std.specs.Prelude.{ℕ, Bool, List, [], ◌∷◌, Option, None, Some}
use Rattle.lapd_frame.specs.declared.controls.Control.{Control}
use Rattle.lapd_frame.specs.declared.notes.ErrorCode.{ErrorCode}
use Rattle.lapd_frame.specs.declared.notes.ErrorCode.TheVariants as code
use Rattle.model_link.specs.declared.states.State.{State}
use Rattle.model_link.specs.declared.states.State.TheVariants.{TeiAssigned, AwaitingEstablishment, AwaitingRelease, Established, TimerRecovery}
use Rattle.model_link.specs.declared.timers.LinkTimer.{LinkTimer}
use Rattle.model_link.specs.declared.timers.LinkTimer.TheVariants.{T200, T203}
use Rattle.model_link.specs.declared.terms.Terms.{Terms}
use Rattle.model_link.specs.Counts.{with_expiry}
use Rattle.model_link.specs.Link.{Link}
use Rattle.model_link.specs.Events.{Received, frame, undefined, wrong_size, overlong, Event, received, expired, requested, offer, cleared}
use Rattle.model_link.specs.Told.{LinkTold, Given, of_call, of_packet, runs, orders_for}
use Rattle.model_link.specs.Steps.{Sent, Course, begun, Step, ◌then◌, nothing, depending_on}
use Rattle.model_link.specs.Words.{count, malformed, release_indication, release_confirm, begin_anew}
use Rattle.model_link.specs.TeiAssigned.{frame_in_4}
use Rattle.model_link.specs.AwaitingEstablishment.{frame_in_5, t200_in_5, tell_failure}
use Rattle.model_link.specs.AwaitingRelease.{frame_in_6, t200_in_6}
use Rattle.model_link.specs.MultipleFrame.{failed}
use Rattle.model_link.specs.Established.{frame_in_7, timer_in_7}
use Rattle.model_link.specs.TimerRecovery.{frame_in_8, t200_in_8}
use Rattle.model_link.specs.Requests.{request_step}
use Rattle.model_link.specs.Offers.{offer_step}

-- What comes from the terminal.

-- A frame, by state.
abbrev pub frame_in : State → Terms → Bool → List ℕ → Control → Step
frame_in TeiAssigned t is_command octets control = frame_in_4 t octets control
frame_in AwaitingEstablishment t is_command octets control = frame_in_5 t octets control
frame_in AwaitingRelease t is_command octets control = frame_in_6 t octets control
frame_in Established t is_command octets control = frame_in_7 t is_command octets control
frame_in TimerRecovery t is_command octets control = frame_in_8 t is_command octets control

abbrev pub frame_step : Terms → Bool → List ℕ → Control → Step
frame_step t is_command octets control c = frame_in c.link.state t is_command octets control c

-- Frames that the grammar doesn't have, or that were too long to keep (clause 5.8.5).
abbrev pub malformed_in : State → Terms → ErrorCode → Step
malformed_in TeiAssigned t e = malformed t e
malformed_in AwaitingEstablishment t e = malformed t e
malformed_in AwaitingRelease t e = malformed t e
malformed_in Established t e = failed t e
malformed_in TimerRecovery t e = failed t e

abbrev pub received_step : Terms → Received → Step
received_step t (frame f) c = frame_step t f.address.command f.info f.control c
received_step t undefined c = malformed_in c.link.state t code.L c
received_step t wrong_size c = malformed_in c.link.state t code.N c
received_step t overlong c = malformed_in c.link.state t code.O c

-- Timers.

-- In state 4 none runs, and T203 runs in state 7 alone.
abbrev pub expired_in : State → LinkTimer → Terms → Step
expired_in TeiAssigned timer t = nothing
expired_in AwaitingEstablishment T200 t = t200_in_5 t
expired_in AwaitingEstablishment T203 t = nothing
expired_in AwaitingRelease T200 t = t200_in_6 t
expired_in AwaitingRelease T203 t = nothing
expired_in Established timer t = timer_in_7 t timer
expired_in TimerRecovery T200 t = t200_in_8 t
expired_in TimerRecovery T203 t = nothing

abbrev pub is_running : LinkTimer → Link → Bool
is_running timer l = runs timer l.running

abbrev pub expire_running : LinkTimer → Terms → Step
expire_running timer t c = (count (with_expiry timer) then expired_in c.link.state timer t) c

-- The expiry of a timer that does not run changes nothing and tells nothing (profile).
abbrev pub expired_step : Terms → LinkTimer → Step
expired_step t timer = depending_on (is_running timer) (expire_running timer t) nothing

-- The TEI leaves the line (clause 5.3.4, MDL-REMOVE request): layer 3 is told as the state has it, and the link is as
-- one that begins.
abbrev pub told_of_clearing : State → Terms → Step
told_of_clearing TeiAssigned t = nothing
told_of_clearing AwaitingEstablishment t = tell_failure t
told_of_clearing AwaitingRelease t = release_confirm t
told_of_clearing Established t = release_indication t
told_of_clearing TimerRecovery t = release_indication t

abbrev pub cleared_step : Terms → Step
cleared_step t c = (told_of_clearing c.link.state t then begin_anew) c

-- Any event.
abbrev pub step : Terms → Event → Step
step t (received r) c = received_step t r c
step t (expired timer) c = expired_step t timer c
step t (requested request pool_is_full) c = request_step t request pool_is_full c
step t offer c = offer_step t c
step t cleared c = cleared_step t c

-- The whole event, from the link as it was.
abbrev pub course : Terms → Event → Link → Course
course t e l = step t e (begun l)

-- The link after an event, and after a list of events.
abbrev pub after : Terms → Event → Link → Link
after t e l = (course t e l).link

unfoldable pub after_all : Terms → List Event → Link → Link
after_all t [] l = l
after_all t (e ∷ es) l = after_all t es (after t e l)

-- What it answers.
abbrev pub told_of : Terms → Link → Course → LinkTold
told_of t before c = record {
  notes = c.notes;
  delivered = c.delivered;
  unit = c.unit;
  orders = orders_for t before.running c.started c.link.running;
  lost = c.lost;
  given_up = of_call t.service c.given_up;
  given_up_16 = of_packet t.service c.given_up;
  unserved = c.unserved;
}

abbrev pub told : Terms → Event → Link → LinkTold
told t e l = told_of t l (course t e l)

-- What an offer gives.
abbrev pub given_of : Terms → Link → Course → Option Sent → Option Given
given_of t before c None = None
given_of t before c (Some sent) = Some (record {
  frame = sent.frame;
  contents = sent.contents;
  orders = orders_for t before.running c.started c.link.running;
})

abbrev pub given : Terms → Link → Option Given
given t l = given_of t l (course t offer l) (course t offer l).sent
