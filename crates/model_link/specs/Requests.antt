-- What layer 3 asks for: when it is refused, and what it does.
use Rattle.std.specs.Prelude.{ℕ, Bool, true, false, not, ◌||◌, ◌&&◌, nat_lt, nat_le, List, length, Option, None, Some, if◌then◌else◌}
use Rattle.lapd_frame.specs.declared.readings.Reading.{Reading}
use Rattle.lapd_frame.specs.declared.readings.Reading.TheVariants.{AnnexB}
use Rattle.lapd_frame.specs.declared.refusals.Refusal.{Refusal}
use Rattle.lapd_frame.specs.declared.refusals.Refusal.TheVariants.{WrongState, TooLong, QueueFull, PoolFull}
use Rattle.model_link.specs.declared.states.State.{State}
use Rattle.model_link.specs.declared.states.State.TheVariants.{TeiAssigned, AwaitingEstablishment, AwaitingRelease, Established, TimerRecovery}
use Rattle.model_link.specs.declared.terms.Terms.{Terms}
use Rattle.model_link.specs.Link.{Link, queue_of, is_multiple_frame}
use Rattle.model_link.specs.Events.{Request, Establish, Release, Data, SetBusy, ClearBusy}
use Rattle.model_link.specs.Steps.{Step, nothing}
use Rattle.model_link.specs.TeiAssigned.{establish_in_4, release_in_4}
use Rattle.model_link.specs.AwaitingEstablishment.{establish_in_5, release_in_5}
use Rattle.model_link.specs.MultipleFrame.{release_in_7_8, data_in_7_8, set_busy_in_7_8, clear_busy_in_7_8}

-- Which states serve which request (profile). By annex B state 5 serves an establishment, and a release unless one is owed.
abbrev pub is_down : State → Bool
is_down TeiAssigned = true
is_down other = false

abbrev pub is_awaiting_5 : Reading → State → Bool
is_awaiting_5 AnnexB AwaitingEstablishment = true
is_awaiting_5 reading state = false

abbrev pub serves : Reading → State → Bool → Request → Bool
serves reading state owed Establish = is_down state || is_awaiting_5 reading state
serves reading state owed Release = is_down state || is_multiple_frame state || (is_awaiting_5 reading state && not owed)
serves reading state owed (Data octets) = is_multiple_frame state
serves reading state owed SetBusy = is_multiple_frame state
serves reading state owed ClearBusy = is_multiple_frame state

-- Whether the queue has as many contents as it may.
abbrev pub is_queue_full : Terms → Link → Bool
is_queue_full t l = nat_le t.queue (length (queue_of l))

-- Why contents are refused: they are too long, the link's queue is full, or the shelf of all links (profile).
abbrev pub refusal_of_contents : Terms → Link → Bool → List ℕ → Option Refusal
refusal_of_contents t l pool_is_full octets =
    if nat_lt t.n201 (length octets) then Some TooLong
    else if is_queue_full t l then Some QueueFull
    else if pool_is_full then Some PoolFull
    else None

abbrev pub refusal_for_room : Terms → Link → Bool → Request → Option Refusal
refusal_for_room t l pool_is_full (Data octets) = refusal_of_contents t l pool_is_full octets
refusal_for_room t l pool_is_full other = None

-- Why a request is refused: the first refusal that holds, or none (profile).
abbrev pub refusal : Terms → Link → Bool → Request → Option Refusal
refusal t l pool_is_full request =
    if serves t.reading l.state l.owed request then refusal_for_room t l pool_is_full request else Some WrongState

-- What a request does that is not refused.
abbrev pub establish_in : State → Terms → Step
establish_in TeiAssigned t = establish_in_4 t
establish_in AwaitingEstablishment t = establish_in_5
establish_in AwaitingRelease t = nothing
establish_in Established t = nothing
establish_in TimerRecovery t = nothing

abbrev pub release_in : State → Terms → Step
release_in TeiAssigned t = release_in_4 t
release_in AwaitingEstablishment t = release_in_5
release_in AwaitingRelease t = nothing
release_in Established t = release_in_7_8 t
release_in TimerRecovery t = release_in_7_8 t

abbrev pub granted : Terms → Request → Step
granted t Establish c = establish_in c.link.state t c
granted t Release c = release_in c.link.state t c
granted t (Data octets) c = data_in_7_8 octets c
granted t SetBusy c = set_busy_in_7_8 t c
granted t ClearBusy c = clear_busy_in_7_8 t c

-- A refused request changes nothing (profile).
abbrev pub request_step : Terms → Request → Bool → Step
request_step t request pool_is_full c = elim (refusal t c.link pool_is_full request) [ None ↦ granted t request c | Some _ ↦ c ]
