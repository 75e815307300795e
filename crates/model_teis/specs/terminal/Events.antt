-- The events of TEI management of a terminal, which requests are refused, and what each event leaves and tells.
use Rattle.std.specs.Prelude.{ℕ, not, List, drop, slice_get, Option, Some, None, is_some, option_map}
use Rattle.lapd_frame.specs.declared.refusals.Refusal.{Refusal}
use Rattle.lapd_frame.specs.declared.refusals.Refusal.TheVariants.{NoLink, TeiTaken, TableFull, CheckRunning}
use Rattle.model_teis.specs.Refused.{refusal_if}
use Rattle.model_teis.specs.Table.{is_on, free_place}
use Rattle.model_teis.specs.terminal.Messages.{frame_of}
use Rattle.model_teis.specs.terminal.Machine.{Terminal, TeiTold}
use Rattle.model_teis.specs.terminal.Words.{Course, begun, Step, ask as ask_first, verify as verify_first}
use Rattle.model_teis.specs.terminal.Rows.{hear, expire, put_on, take_off, give_up}

-- The information of a UI frame of SAPI 63 to the group TEI; the expiry of T202; the requests of layer management: ask
-- for a TEI, and verify, assign or remove one; and that the line is down.
pub data Event : Type 0 where
  message : List ℕ → Event
  expiry : Event
  ask : Event
  verify : ℕ → Event
  assign : ℕ → Event
  remove : ℕ → Event
  down : Event

-- Why a request is refused: the first that holds (profile). None is refused for want of room for its message.
abbrev pub refusal : Event → Terminal → Option Refusal
refusal (message octets) m = None
refusal expiry m = None
refusal ask m = refusal_if (not (is_some (free_place m.places))) TableFull (refusal_if (is_some m.procedure) CheckRunning None)
refusal (verify tei) m = refusal_if (not (is_on tei m.places)) NoLink (refusal_if (is_some m.procedure) CheckRunning None)
refusal (assign tei) m = refusal_if (is_on tei m.places) TeiTaken (refusal_if (not (is_some (free_place m.places))) TableFull None)
refusal (remove tei) m = refusal_if (not (is_on tei m.places)) NoLink None
refusal down m = None

-- What an event does that is not refused.
abbrev pub step : Event → Step
step (message octets) = hear octets
step expiry = expire
step ask = ask_first 1
step (verify tei) = verify_first tei 1
step (assign tei) = put_on tei
step (remove tei) = take_off tei
step down = give_up

-- What an event leaves, and what is told of it. A refused request changes nothing.
abbrev pub unless_refused : Option Refusal → Step → Terminal → Course
unless_refused None does m = does (begun m)
unless_refused (Some why) does m = begun m

unfoldable pub course : Event → Terminal → Course
course e m = unless_refused (refusal e m) (step e) m

abbrev pub after : Event → Terminal → Terminal
after e m = (course e m).now

abbrev pub told : Event → Terminal → TeiTold
told e m = (course e m).told

-- A pull takes the message that has waited longest.
abbrev pub offered : Terminal → Option (List ℕ)
offered m = option_map frame_of (slice_get m.waiting 0)

abbrev pub after_offer : Terminal → Terminal
after_offer m = record m { waiting = drop 1 m.waiting }
