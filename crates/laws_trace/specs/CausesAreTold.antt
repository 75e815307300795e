-- Why what is heard is dropped: the causes that answers name.
use Rattle.std.specs.Prelude.{◌≡◌, ℕ, ◌==◌, ◌&&◌, ◌||◌, nat_le, Bool, true, false, List, length, Option, Some, None, is_some, IfSome, Result, Ok, Err, if◌then◌else◌}
use Rattle.std.specs.Option.{option_map_or}
use Rattle.model_bits.specs.Stream as stream
use Rattle.model_bits.specs.declared.heard.Cause.{Cause}
use Rattle.model_bits.specs.declared.heard.Cause.TheVariants.{Extension, Sapi, Tei, Unserved}
use Rattle.lapd_frame.specs.declared.addresses.Address.{Address}
use Rattle.lapd_frame.specs.declared.controls.Control.{Control}
use Rattle.lapd_frame.specs.declared.controls.Control.TheVariants.{Information, Sabme, Disc, Ui, Ua, Dm, Xid}
use Rattle.lapd_frame.specs.declared.faults.ReadFault.{ReadFault}
use Rattle.lapd_frame.specs.declared.faults.ReadFault.TheVariants.{BadExtension, Undefined, WrongSize, Short}
use Rattle.lapd_frame.specs.declared.overlong.Long.{Long}
use Rattle.lapd_frame.specs.declared.overlong.Long.TheVariants as long
use Rattle.lapd_frame.specs.declared.services.Service.{Service}
use Rattle.lapd_frame.specs.Grammar.{Parts}
use Rattle.lapd_frame.specs.Senders.{reading, long_reading}
use Rattle.lapd_frame.specs.Services.{service_of}
use Rattle.model_line.specs.declared.config.Config.{Config}
use Rattle.model_line.specs.Event as line_event
use Rattle.model_line.specs.Event.{hears, told}
use Rattle.model_line.specs.Laws.{cause_in}
use Rattle.model_line.specs.Heard.{heard_side}
use Rattle.model_line.specs.Line.{is_terminal}
use Rattle.model_card.specs.Event.{Event}
use Rattle.laws_trace.specs.Deliveries.{is_unit_taken}
use Rattle.laws_trace.specs.LinkFrames.{begins_ui, is_annex_b, is_too_long}
use Rattle.laws_trace.specs.Managing.{Managed, by_message, is_on, managed_after, manages, own_of}
use Rattle.laws_trace.specs.ManagingTerminal as terminal
use Rattle.laws_trace.specs.News.{minds}
use Rattle.laws_trace.specs.Observer.{view_of, moment_of}
use Rattle.laws_trace.specs.Trace.{is_up}
use Rattle.laws_trace.specs.Units.{is_ui}

-- A link serves every frame in states 7 and 8; SABME, DISC, UA and XID in any state; and DM with F=1 in states 5 and 6, too (Q.921
-- annex B). A UI that is not told (`is_unit_taken`) is not served. By annex B it is, as it is an error, and so is an I-frame that is
-- too long; and DM with F=0 in state 4 (clauses 5.5.4 and 5.8.5). The bit says that the frame is too long.
abbrev pub serves : Config → Bool → Control → ℕ → Bool
serves c long (Sabme p) state = true
serves c long (Disc p) state = true
serves c long (Ua f) state = true
serves c long (Xid pf) state = true
serves c long (Ui p) state = is_annex_b c
serves c long (Information ns nr p) state = is_up state || (long && minds c state)
serves c long (Dm f) state = is_up state || (if f then state == 5 || state == 6 else state == 4 && is_annex_b c)
serves c long other state = is_up state

-- TEI management serves the messages by which something comes to happen to it (`by_message`), and no others: on the network's side
-- those of a terminal, and at a terminal those of the network (clause 5.3.6, table 8, and profile).
abbrev pub serves_information : Config → Managed → List ℕ → Bool
serves_information c w info = if is_terminal c then is_some (terminal.by_message c info (own_of c w)) else is_some (by_message c w info)

-- A frame is by its address for TEI management, which has SAPI 63 and the TEI of the group; or for the link of a service with a
-- TEI on the line, in its state; or for none, by its SAPI, and else by its TEI (clauses 2.9, 3.3.3, 3.3.4 and 5.3.6).
abbrev pub unless : Bool → Option Cause
unless served = if served then None else Some Unserved

abbrev pub by_address : Managed → (Service → ℕ → ℕ) → (ℕ → Bool) → Bool → Address → Option Cause
by_address w states served is_message a =
    if a.sapi == 63 then (if a.tei == 127 then unless is_message else Some Tei)
    else option_map_or (λ service. if is_on a.tei w then unless (served (states service a.tei)) else Some Tei) (service_of a.sapi) (Some Sapi)

-- One that the grammar does not have is served in states 7 and 8, and by annex B in each (clauses 2.9, 3.3.1 and 5.8.5). So is an
-- I-frame that was too long to keep; such a UI by annex B alone, and such an XID is not (profile). Messages of TEI management come in UI frames of at most N201 octets, and at
-- a terminal in commands. A trunk's end serves none (clauses 5.3.6 and 5.9.3, and profile).
abbrev pub by_fault : (Address → Option Cause) → ReadFault → Option Cause
by_fault malformed BadExtension = Some Extension
by_fault malformed (Undefined a) = malformed a
by_fault malformed (WrongSize a) = malformed a
by_fault malformed Short = Some Unserved

abbrev pub by_frame : Config → Managed → (Service → ℕ → ℕ) → Result Parts ReadFault → Option Cause
by_frame c w states (Ok f) =
    if is_some (service_of f.address.sapi) && is_unit_taken c f.address.tei w f then None
    else by_address w states (serves c (is_too_long c f) f.control) ((is_ui f.control && nat_le (length f.info) c.n201 && (manages c.side || (is_terminal c && f.address.command))) && serves_information c w f.info) f.address
by_frame c w states (Err fault) = by_fault (by_address w states (minds c) false) fault

abbrev pub by_long : Config → Bool → Managed → (Service → ℕ → ℕ) → Result Long ReadFault → Option Cause
by_long c ui w states (Ok (long.Information a)) = by_address w states (minds c) false a
by_long c ui w states (Ok (long.Unnumbered a)) = by_address w states (λ state. ui && is_annex_b c) false a
by_long c ui w states (Err fault) = by_fault (by_address w states (minds c) false) fault

-- The cause that is due by an event: of a stretch that is no frame its own, of a frame that is not served the one above, and
-- else none.
abbrev pub cause_due : Config → Managed → (Service → ℕ → ℕ) → line_event.Event → Option Cause
cause_due c w states (hears (stream.dropped cause)) = Some cause
cause_due c w states (hears (stream.frame octets)) = by_frame c w states (reading (heard_side c) octets)
cause_due c w states (hears (stream.overlong head)) = by_long c (begins_ui head) w states (long_reading (heard_side c) head)
cause_due c w states other = None

-- After whatever happened to the card, the answer to an event of the line names the cause that is due, and where one is, nothing
-- else is answered; where none is, none is named.
abbrev pub CausesAreTold : Config → List Event → ℕ → Type 0
CausesAreTold c events number =
    (what : line_event.Event) →
    let due = cause_due c (managed_after c number events) (λ service tei. (view_of c service tei number events).link.state) what in
    let a = (moment_of c events number what).answer in (cause_in a ≡ due) × IfSome due (λ cause. a ≡ told (line_event.dropped cause))
