-- The events of TEI management, which requests are refused, and what each event leaves and tells.
use Rattle.std.specs.Prelude.{ℕ, not, List, drop, slice_get, Option, Some, None, is_some, option_map}
use Rattle.lapd_frame.specs.declared.addresses.Side.{Side}
use Rattle.lapd_frame.specs.declared.refusals.Refusal.{Refusal}
use Rattle.lapd_frame.specs.declared.refusals.Refusal.TheVariants.{NoLink, TeiTaken, TableFull, CheckRunning, ControlFull}
use Rattle.model_teis.specs.network.Messages.{frame_of}
use Rattle.model_teis.specs.Table.{is_on, is_in_use, free_place}
use Rattle.model_teis.specs.Refused.{refusal_if}
use Rattle.model_teis.specs.network.Machine.{Management, TeiTold}
use Rattle.model_teis.specs.network.Words.{Course, begun, Step, no_room, begin_check}
use Rattle.model_teis.specs.network.Rows.{hear, expire, put_on, take_off, disown as send_away, give_up}

-- The information of a UI frame of SAPI 63 to the group TEI; the expiry of T201; the requests of layer management, of a
-- TEI of at most 126, or to disown one of at most 127; and that the line is down.
pub data Event : Type 0 where
  message : List ℕ → Event
  expiry : Event
  assign : ℕ → Event
  remove : ℕ → Event
  check : ℕ → Event
  disown : ℕ → Event
  down : Event

-- Why a request is refused.
unfoldable pub refusal : Event → Management → Option Refusal
refusal (message octets) m = None
refusal expiry m = None
refusal (assign tei) m = refusal_if (is_on tei m.places) TeiTaken (refusal_if (not (is_some (free_place m.places))) TableFull None)
refusal (remove tei) m = refusal_if (not (is_on tei m.places)) NoLink (refusal_if (no_room m.waiting) ControlFull None)
refusal (check tei) m =
    refusal_if (not (is_on tei m.places)) NoLink (refusal_if (is_some m.check) CheckRunning (refusal_if (no_room m.waiting) ControlFull None))
refusal (disown tei) m = refusal_if (is_in_use tei m.places) TeiTaken (refusal_if (no_room m.waiting) ControlFull None)
refusal down m = None

-- What an event does that is not refused.
abbrev pub step : Event → Step
step (message octets) = hear octets
step expiry = expire
step (assign tei) = put_on tei
step (remove tei) = take_off tei
step (check tei) = begin_check tei
step (disown tei) = send_away tei
step down = give_up

-- What an event leaves, and what is told of it. A refused request changes nothing.
abbrev pub unless_refused : Option Refusal → Step → Management → Course
unless_refused None does m = does (begun m)
unless_refused (Some why) does m = begun m

unfoldable pub course : Event → Management → Course
course e m = unless_refused (refusal e m) (step e) m

abbrev pub after : Event → Management → Management
after e m = (course e m).now

abbrev pub told : Event → Management → TeiTold
told e m = (course e m).told

-- A pull takes the message that has waited longest.
abbrev pub offered : Side → Management → Option (List ℕ)
offered side m = option_map (frame_of side) (slice_get m.waiting 0)

abbrev pub after_offer : Management → Management
after_offer m = record m { waiting = drop 1 m.waiting }
