-- What holds of each aim that events can have holds of the aim of every event.
use Rattle.model_line.proofs.Vocabulary.{arith, ◌≡◌, ℕ, ◌<◌, Bool, true, false, ◌&&◌, not, List, length, Option, Some, None, is_some, Result, Ok, Err, cond, ltb-false, leb-false, Cause, Unserved, Address, ReadFault, BadExtension, Undefined, WrongSize, Short, Refusal, Service, Timer, Parts, reading, LinkTimer, place_of-is, IsAt, Config, Event, hears, expiry, request, next, nothing, Line, UnitData}
use Rattle.model_line.proofs.Vocabulary.{place_in, takes_slot, Request, Aim, at_none, at_link, at_management, at_terminal, at_units, at_no_link, drop_for, to_service, addressed, message_of, aim_of_reading, unless_at_link, aim_of_unnumbered, heard_side, aim_of_heard, group_told, IsToGroup, at_timer, aim_of_expiry, at_requested, at_deactivated, aim_of_request, carries_contents, refusal}
use Rattle.model_line.proofs.Vocabulary.{unless_refused, IsUnitData}
use Rattle.model_line.proofs.Vocabulary.{LinkReceived}
use Rattle.model_line.proofs.Vocabulary.{LinkRequest, link_expired, link_received, link_requested, LinkEvent, link_undefined, link_wrong_size, link_cleared, link_frame, LinkData, TeiEvent, tei_message, tei_expiry, TerminalEvent, terminal_expiry, StreamEvent, stream_frame, dropped, overlong, aim_of}
use Rattle.lapd_frame.specs.declared.overlong.Long.{Long}
use Rattle.lapd_frame.specs.Overlong.{is_unit}
use Rattle.lapd_frame.specs.Senders.{long_reading}
use Rattle.model_teis.specs.network.Laws as tei_laws
use Rattle.model_line.specs.Heard.{aim_of_long}
use Rattle.model_line.proofs.AimsSound.{IsProper}
use Rattle.model_line.proofs.Managed.{IsAsked, IsOwnEvent}
use Rattle.model_line.proofs.Sides.{side_aims, unit_tei}

-- What a frame that was read brings to a link is of some kind.
abbrev pub AreFor : (LinkReceived → Type 0) → Result Parts ReadFault → Type 0
AreFor W (Ok parts) = W (link_frame parts)
AreFor W (Err fault) = W link_undefined × W link_wrong_size

-- What holds of the aims that frames have: none, a link of a TEI on the line, or TEI management.
module _ (c : Config) (l : Line) (P : Aim → Type 0) (none : (cause : Cause) → P (drop_for cause))
    (W : LinkReceived → Type 0)
    (to_its_link : (service : Service) (tei place : ℕ) (what : LinkReceived) → W what → place_in l tei ≡ Some place → P (at_link service tei place (link_received what)))
    (to_management : (info : List ℕ) → P (at_management (tei_message info)))
    (to_group : (parts : Parts) (service : Service) → IsToGroup c parts service → P (at_none (group_told service parts.info))) where
  to_service_aims : (tei : ℕ) (what : LinkReceived) → W what → (o : Option Service) → P (to_service l tei what o)
  to_service_aims tei what w o = grind arith

  addressed_aims : (address : Address) (what : LinkReceived) → W what → (message : Aim) → P message → P (addressed l address what message)
  addressed_aims address what w message p = grind (arith, to_service_aims)

  pub reading_aims : (r : Result Parts ReadFault) → AreFor W r → P (aim_of_reading c l r)
  reading_aims (Ok parts) w =
      side_aims c parts P (none _) (to_group parts) (addressed l parts.address (link_frame parts) (message_of parts.control parts.info))
      (addressed_aims parts.address (link_frame parts) w (message_of parts.control parts.info) (grind arith))
  reading_aims (Err BadExtension) w = none _
  reading_aims (Err (Undefined address)) w = addressed_aims address link_undefined w.0 (drop_for Unserved) (none _)
  reading_aims (Err (WrongSize address)) w = addressed_aims address link_wrong_size w.1 (drop_for Unserved) (none _)
  reading_aims (Err Short) w = none _

  unless_aims : (aim : Aim) → P aim → P (unless_at_link aim)
  unless_aims aim p = grind arith

any_frame : (r : Result Parts ReadFault) → AreFor (λ what. ℕ) r
any_frame (Ok parts) = 0
any_frame (Err fault) = (0, 0)

-- Of whatever is heard.
module _ (c : Config) (l : Line) (P : Aim → Type 0) (none : (cause : Cause) → P (drop_for cause))
    (to_its_link : (service : Service) (tei place : ℕ) (what : LinkReceived) → place_in l tei ≡ Some place → P (at_link service tei place (link_received what)))
    (to_management : (info : List ℕ) → P (at_management (tei_message info)))
    (to_group : (parts : Parts) (service : Service) → IsToGroup c parts service → P (at_none (group_told service parts.info))) where
  unnumbered_aims : (unit : Bool) (aim : Aim) → P aim → P (aim_of_unnumbered c.reading unit aim)
  unnumbered_aims unit aim p = grind (arith, unless_aims)

  long_aims : (unit : Bool) (r : Result Long ReadFault) → P (aim_of_long c.reading unit l r)
  long_aims unit r = grind (arith, addressed_aims, unless_aims, unnumbered_aims)

  pub heard_aims : (e : StreamEvent) → P (aim_of_heard c l e)
  heard_aims (stream_frame octets) =
      reading_aims c l P none (λ what. ℕ) (λ service tei place what w at. to_its_link service tei place what at) to_management to_group
      (reading (heard_side c) octets) (any_frame (reading (heard_side c) octets))
  heard_aims (overlong head) = long_aims (is_unit head) (long_reading (heard_side c) head)
  heard_aims (dropped cause) = none _

-- Of an expiry.
module _ (l : Line) (P : Aim → Type 0) (none : P (at_none nothing))
    (to_link : (service : Service) (tei place : ℕ) (timer : LinkTimer) → IsAt l.management.places place tei → P (at_link service tei place (link_expired timer)))
    (to_management : P (at_management tei_expiry)) (to_terminal : P (at_terminal terminal_expiry)) where
  timer_aims : (service : Service) (tei : ℕ) (timer : LinkTimer) (o : Option ℕ) → place_in l tei ≡ o → P (at_timer service tei timer o)
  timer_aims service tei timer None e = none
  timer_aims service tei timer (Some place) e = to_link service tei place timer (place_of-is l.management.places tei place e).1

  pub expiry_aims : (timer : Timer) → P (aim_of_expiry timer l)
  expiry_aims timer = grind (arith, timer_aims)

-- Of a request, by whether it takes a slot.
abbrev pub brings_data : LinkEvent → Bool
brings_data (link_requested (LinkData contents) full) = true
brings_data other = false

-- a row that does not hold is passed over
pub skipped : (b : Bool) (why : Refusal) (o : Option Refusal) → cond b (Some why) o ≡ None → (b ≡ false) × (o ≡ None)
skipped b why o e = grind arith

module _ (c : Config) (l : Line) (P : Bool → Aim → Type 0) (none : (takes : Bool) → P takes (at_none nothing))
    (to_link : (service : Service) (tei place : ℕ) (what : LinkRequest) → IsAt l.management.places place tei
    → P (brings_data (link_requested what false)) (at_link service tei place (link_requested what false)))
    (to_cleared : (service : Service) (tei place : ℕ) → IsAt l.management.places place tei → P false (at_link service tei place link_cleared))
    (to_management : (e : TeiEvent) → tei_laws.IsInRange e → IsAsked e → P false (at_management e))
    (to_terminal : (e : TerminalEvent) → IsOwnEvent c e → P false (at_terminal e))
    (to_units : (unit : UnitData) → IsUnitData c unit → length l.units < c.unit_queue → P true (at_units unit))
    (to_no_link : P false at_no_link) where
  requested_aims : (service : Service) (tei : ℕ) (what : LinkRequest) (o : Option ℕ) → place_in l tei ≡ o
      → P (brings_data (link_requested what false)) (at_requested service tei what o)
  requested_aims service tei what None e = none _
  requested_aims service tei what (Some place) e = to_link service tei place what (place_of-is l.management.places tei place e).1

  deactivated_aims : (service : Service) (tei : ℕ) (o : Option ℕ) → place_in l tei ≡ o → P false (at_deactivated service tei o)
  deactivated_aims service tei None e = none _
  deactivated_aims service tei (Some place) e = to_cleared service tei place (place_of-is l.management.places tei place e).1

  pub request_aims : (r : Request) → P (carries_contents r && not (is_some (refusal c false r l))) (unless_refused (refusal c false r l) (aim_of_request r l))
  request_aims r = grind (arith, is_some, requested_aims, skipped, unit_tei, ltb-false, leb-false, deactivated_aims)

-- Of any event, by whether it takes a slot.
module _ (c : Config) (l : Line) (P : Bool → Aim → Type 0) (none : (takes : Bool) → P takes (at_none nothing)) (drop : (cause : Cause) → P false (drop_for cause))
    (to_group : (parts : Parts) (service : Service) → IsToGroup c parts service → P false (at_none (group_told service parts.info)))
    (to_link : (service : Service) (tei place : ℕ) (e : LinkEvent) → IsAt l.management.places place tei → P (brings_data e) (at_link service tei place e))
    (to_management : (e : TeiEvent) → tei_laws.IsInRange e → P false (at_management e))
    (to_terminal : (e : TerminalEvent) → IsOwnEvent c e → P false (at_terminal e))
    (to_units : (unit : UnitData) → IsUnitData c unit → length l.units < c.unit_queue → P true (at_units unit))
    (to_no_link : P false at_no_link) where
  pub event_aims : (e : Event) → P (takes_slot c e l) (aim_of c e l)
  unfolding takes_slot
  event_aims (hears e) =
      heard_aims c l (P false) drop (λ service tei place what at. to_link service tei place (link_received what) (place_of-is l.management.places tei place at).1)
      (λ info. to_management (tei_message info) tt) to_group e
  event_aims (expiry timer) =
      expiry_aims l (P false) (none false) (λ service tei place timer at. to_link service tei place (link_expired timer) at) (to_management tei_expiry tt) (to_terminal terminal_expiry tt) timer
  event_aims (request r) =
      request_aims c l P none (λ service tei place what at. to_link service tei place (link_requested what false) at)
      (λ service tei place at. to_link service tei place link_cleared at) (λ e range asked. to_management e range) to_terminal to_units to_no_link r
  event_aims next = none false

-- So the aim of each event is one that a line can have.
module _ (c : Config) (l : Line) where
  pub event_proper : (e : Event) → IsProper c l (aim_of c e l)
  event_proper =
      event_aims c l (λ takes aim. IsProper c l aim) (λ takes. tt) (λ cause. tt) (λ parts service to. tt) (λ service tei place e at. at)
      (λ e range. range) (λ e proper. proper) (λ unit is few. (is, few)) tt

  pub heard_proper : (e : StreamEvent) → IsProper c l (aim_of_heard c l e)
  heard_proper e = event_proper (hears e)

  pub expiry_proper : (timer : Timer) → IsProper c l (aim_of_expiry timer l)
  expiry_proper timer = event_proper (expiry timer)

  pub request_proper : (r : Request) → IsProper c l (unless_refused (refusal c false r l) (aim_of_request r l))
  request_proper r = event_proper (request r)
