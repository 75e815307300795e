-- Worked values: what follows where layer 3 asks something of a link, by its state, and which requests are refused.
use Rattle.std.specs.Prelude.{◌≡◌, true, false, List, [], ◌∷◌, ◌++◌, Option, None, Some, Result, Ok, Err, refl}
use Rattle.lapd_frame.specs.declared.controls.Control.TheVariants.{ReceiveReady, ReceiveNotReady, Sabme, Disc, Ua}
use Rattle.lapd_frame.specs.declared.notes.Note.TheVariants.{ReleaseIndication, ReleaseConfirm}
use Rattle.lapd_frame.specs.declared.refusals.Refusal.{Refusal}
use Rattle.lapd_frame.specs.declared.refusals.Refusal.TheVariants.{NoLink, WrongState, TooLong, QueueFull, PoolFull, CheckRunning}
use Rattle.lapd_frame.specs.declared.services.Service.TheVariants.{Call}
use Rattle.lapd_frame.specs.declared.timers.Timer.TheVariants.{T203}
use Rattle.lapd_frame.specs.Reading.{reading, header_of, control_of, unnumbered_of, supervisory_of}
use Rattle.lapd_frame.specs.Senders.{exchanged, reading as read_by}
use Rattle.lapd_seq.specs.Numbers.{seq}
use Rattle.model_teis.specs.network.Events as teis
use Rattle.model_link.specs.Events as link
use Rattle.model_line.specs.declared.config.Config.{Config}
use Rattle.model_line.specs.Event.{Answer, refused, request, expiry}
use Rattle.model_line.specs.Machine as lines
use Rattle.model_line.specs.Request.{Request, Assign, Check, Establish, Release, Data, SetBusy, Unit}
use Rattle.model_card.specs.Event.{Event, at}
use Rattle.model_card.specs.Run.{moments, after_all}
use Rattle.laws_link.specs.Waiting.{as_response, as_command}
use Rattle.laws_line.specs.card.Worked.{usual, on_0, up}
use Rattle.laws_trace.specs.NoSlotIsLost.{slots_taken}
use Rattle.laws_trace.specs.Observer.{in_state, moment_of}
use Rattle.laws_trace.specs.Outgoing.{outgoing_of}
use Rattle.laws_trace.specs.Reasons.{refusal_due}
use Rattle.laws_trace.specs.RequestsTakeEffect.{Effect, effect, deactivated, of_tei}

-- What the table has for a request of a link behind events, while a slot is free; and what the card answers.
abbrev due : Config → List Event → link.Request → Result Effect Refusal
due c events asked = let o = outgoing_of c Call 64 0 events in of_tei 64 o (effect c false Call 64 o asked)

abbrev answers : List Event → Request → Answer
answers events r = (moment_of usual events 0 (request r)).answer

-- In state 4 a link is established: SABME waits, and layer 3 asked for it. Its release is confirmed at once.
abbrev on : List Event
on = on_0 (Assign 64) ∷ []

established : due usual on link.Establish ≡ Ok (record { link = record (in_state 5) { asked = true }; waiting = as_command (Sabme true); kept = []; told = [] })
unfolding moments lines.after lines.answer lines.takes_slot teis.course teis.refusal
established = refl

confirmed : due usual on link.Release ≡ Ok (record { link = in_state 4; waiting = []; kept = []; told = ReleaseConfirm Call 64 ∷ [] })
unfolding moments lines.after lines.answer lines.takes_slot teis.course teis.refusal
confirmed = refl

-- Layer 3 cannot be busy there, nor ask for anything of a TEI that is not on the line.
not_busy : due usual on link.SetBusy ≡ Err WrongState
unfolding moments lines.after lines.answer lines.takes_slot teis.course teis.refusal
not_busy = refl

none_there : due usual [] link.Establish ≡ Err NoLink
unfolding moments
none_there = refl

-- In state 5 its release is refused, and in state 6 its establishment, by the table and by the card. A card that granted either,
-- whatever it did, would break the law.
abbrev asked : List Event
asked = on ++ on_0 (Establish Call 64) ∷ []

not_released : due usual asked link.Release ≡ Err WrongState
unfolding moments lines.after lines.answer lines.takes_slot teis.course teis.refusal
not_released = refl

refused_release : answers asked (Release Call 64) ≡ refused WrongState
unfolding after_all lines.after lines.answer lines.takes_slot teis.course teis.refusal
refused_release = refl

abbrev leaving : List Event
leaving = up ++ on_0 (Release Call 64) ∷ []

not_established : due usual leaving link.Establish ≡ Err WrongState
unfolding moments lines.after lines.answer lines.takes_slot teis.course teis.refusal seq exchanged read_by reading header_of control_of unnumbered_of supervisory_of
not_established = refl

refused_establish : answers leaving (Establish Call 64) ≡ refused WrongState
unfolding after_all lines.after lines.answer lines.takes_slot teis.course teis.refusal seq exchanged read_by reading header_of control_of unnumbered_of supervisory_of
refused_establish = refl

-- In state 7, where UA waits, RNR waits behind it as layer 3 comes to be busy; and as it is so again, nothing more.
abbrev still_busy : List Event
still_busy = up ++ on_0 (SetBusy Call 64) ∷ []

busy_then : due usual up link.SetBusy
    ≡ Ok (record { link = record (in_state 7) { own_busy = true }; waiting = as_response (Ua true) ++ as_response (ReceiveNotReady (seq 0) false); kept = []; told = [] })
unfolding moments lines.after lines.answer lines.takes_slot teis.course teis.refusal seq exchanged read_by reading header_of control_of unnumbered_of supervisory_of
busy_then = refl

busy_still : due usual still_busy link.SetBusy
    ≡ Ok (record { link = record (in_state 7) { own_busy = true }; waiting = as_response (Ua true) ++ as_response (ReceiveNotReady (seq 0) false); kept = []; told = [] })
unfolding moments lines.after lines.answer lines.takes_slot teis.course teis.refusal seq exchanged read_by reading header_of control_of unnumbered_of supervisory_of
busy_still = refl

-- Where one control frame may wait it finds no place.
busy_lost : due (record usual { control = 1 }) up link.SetBusy
    ≡ Ok (record { link = record (in_state 7) { own_busy = true }; waiting = as_response (Ua true); kept = []; told = [] })
unfolding moments lines.after lines.answer lines.takes_slot teis.course teis.refusal seq exchanged read_by reading header_of control_of unnumbered_of supervisory_of
busy_lost = refl

-- Contents come behind those that are kept, while there is a place.
abbrev one_kept : List Event
one_kept = up ++ on_0 (Data Call 64 (7 ∷ [])) ∷ []

two_kept : due usual one_kept (link.Data (8 ∷ [])) ≡ Ok (record { link = in_state 7; waiting = as_response (Ua true); kept = (7 ∷ []) ∷ (8 ∷ []) ∷ []; told = [] })
unfolding moments lines.after lines.answer lines.takes_slot teis.course teis.refusal seq exchanged read_by reading header_of control_of unnumbered_of supervisory_of
two_kept = refl

no_place : due (record usual { queue = 1 }) one_kept (link.Data (8 ∷ [])) ≡ Err QueueFull
unfolding moments lines.after lines.answer lines.takes_slot teis.course teis.refusal seq exchanged read_by reading header_of control_of unnumbered_of supervisory_of
no_place = refl

too_long : due (record usual { n201 = 1 }) up (link.Data (8 ∷ 9 ∷ [])) ≡ Err TooLong
unfolding moments lines.after lines.answer lines.takes_slot teis.course teis.refusal seq exchanged read_by reading header_of control_of unnumbered_of supervisory_of
too_long = refl

-- So they do in state 8, where an enquiry waits; and DISC waits behind that as the link is released.
abbrev enquiring : List Event
enquiring = one_kept ++ at 0 (expiry (T203 Call 64)) ∷ []

kept_too : due usual enquiring (link.Data (8 ∷ []))
    ≡ Ok (record { link = in_state 8; waiting = as_response (Ua true) ++ as_command (ReceiveReady (seq 0) true); kept = (7 ∷ []) ∷ (8 ∷ []) ∷ []; told = [] })
unfolding moments lines.after lines.answer lines.takes_slot teis.course teis.refusal seq exchanged read_by reading header_of control_of unnumbered_of supervisory_of
kept_too = refl

released_too : due usual enquiring link.Release
    ≡ Ok (record { link = in_state 6; waiting = as_response (Ua true) ++ as_command (ReceiveReady (seq 0) true) ++ as_command (Disc true); kept = []; told = [] })
unfolding moments lines.after lines.answer lines.takes_slot teis.course teis.refusal seq exchanged read_by reading header_of control_of unnumbered_of supervisory_of
released_too = refl

-- Where the card has one slot, its contents have it, and the pool is full, by the table and by the card.
abbrev one_slot : Config
one_slot = record usual { slots = 1 }

all_taken : slots_taken one_slot one_kept ≡ 1
unfolding moments lines.after lines.answer lines.takes_slot teis.course teis.refusal seq exchanged read_by reading header_of control_of unnumbered_of supervisory_of
all_taken = refl

no_slot : effect one_slot true Call 64 (outgoing_of one_slot Call 64 0 one_kept) (link.Data (8 ∷ [])) ≡ Err PoolFull
unfolding moments lines.after lines.answer lines.takes_slot teis.course teis.refusal seq exchanged read_by reading header_of control_of unnumbered_of supervisory_of
no_slot = refl

refused_data : (moment_of one_slot one_kept 0 (request (Data Call 64 (8 ∷ [])))).answer ≡ refused PoolFull
unfolding after_all lines.after lines.answer lines.takes_slot teis.course teis.refusal seq exchanged read_by reading header_of control_of unnumbered_of supervisory_of
refused_data = refl

-- A link that is deactivated gives its contents up, which is told: by an indication in state 7, and by a confirm in state 6.
given_up : deactivated Call 64 (outgoing_of usual Call 64 0 one_kept).view.link ≡ record { link = in_state 4; waiting = []; kept = []; told = ReleaseIndication Call 64 ∷ [] }
unfolding moments lines.after lines.answer lines.takes_slot teis.course teis.refusal seq exchanged read_by reading header_of control_of unnumbered_of supervisory_of
given_up = refl

ended : deactivated Call 64 (outgoing_of usual Call 64 0 leaving).view.link ≡ record { link = in_state 4; waiting = []; kept = []; told = ReleaseConfirm Call 64 ∷ [] }
unfolding moments lines.after lines.answer lines.takes_slot teis.course teis.refusal seq exchanged read_by reading header_of control_of unnumbered_of supervisory_of
ended = refl

-- The reasons of an observer are the same: of what layer 3 asks,
abbrev refused_for : Config → List Event → Request → Option Refusal
refused_for c events r = refusal_due c events 0 (request r)

may_establish : refused_for usual on (Establish Call 64) ≡ None
unfolding moments lines.after lines.answer lines.takes_slot teis.course teis.refusal
may_establish = refl

may_not_release : refused_for usual asked (Release Call 64) ≡ Some WrongState
unfolding moments lines.after lines.answer lines.takes_slot teis.course teis.refusal
may_not_release = refl

has_no_place : refused_for (record usual { queue = 1 }) one_kept (Data Call 64 (8 ∷ [])) ≡ Some QueueFull
unfolding moments lines.after lines.answer lines.takes_slot teis.course teis.refusal seq exchanged read_by reading header_of control_of unnumbered_of supervisory_of
has_no_place = refl

-- of unit data, for a TEI that is not on the line, and where one place is there, and taken;
no_unit : refused_for usual on (Unit Call 65 (1 ∷ [])) ≡ Some NoLink
no_unit = refl

no_unit_place : refused_for (record usual { unit_queue = 1 }) (on ++ on_0 (Unit Call 64 (6 ∷ [])) ∷ []) (Unit Call 64 (7 ∷ [])) ≡ Some QueueFull
unfolding moments lines.after lines.answer lines.takes_slot teis.course teis.refusal
no_unit_place = refl

-- and of a check, while one goes on, and while none does.
goes_on : refused_for usual (on ++ on_0 (Check 64) ∷ []) (Check 64) ≡ Some CheckRunning
goes_on = refl

none_goes_on : refused_for usual on (Check 64) ≡ None
none_goes_on = refl
