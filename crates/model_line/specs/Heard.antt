-- What a line hears.
use Rattle.std.specs.Prelude.{ℕ, ◌==◌, Bool, List, Option, Some, None, Result, Ok, Err, if◌then◌else◌}
use Rattle.model_bits.specs.Stream as stream
use Rattle.model_bits.specs.declared.heard.Cause.{Cause}
use Rattle.model_bits.specs.declared.heard.Cause.TheVariants.{Extension, Sapi, Tei, Unserved}
use Rattle.lapd_frame.specs.declared.addresses.Address.{Address}
use Rattle.lapd_frame.specs.declared.controls.Control.{Control}
use Rattle.lapd_frame.specs.declared.controls.Control.TheVariants.{Ui}
use Rattle.lapd_frame.specs.declared.faults.ReadFault.{ReadFault}
use Rattle.lapd_frame.specs.declared.faults.ReadFault.TheVariants.{BadExtension, Undefined, WrongSize, Short}
use Rattle.lapd_frame.specs.declared.overlong.Long.{Long}
use Rattle.lapd_frame.specs.declared.overlong.Long.TheVariants as long
use Rattle.lapd_frame.specs.declared.senders.Sender.{Sender}
use Rattle.lapd_frame.specs.declared.services.Service.{Service}
use Rattle.lapd_frame.specs.Grammar.{Parts, other_side}
use Rattle.lapd_frame.specs.Overlong.{is_unit}
use Rattle.lapd_frame.specs.Readings.{by_reading}
use Rattle.lapd_frame.specs.declared.readings.Reading.{Reading}
use Rattle.lapd_frame.specs.Senders.{reading, long_reading}
use Rattle.lapd_frame.specs.Services.{service_of}
use Rattle.model_link.specs.Events as link
use Rattle.model_teis.specs.network.Events as teis
use Rattle.model_line.specs.declared.config.Config.{Config}
use Rattle.model_line.specs.Event.{dropped}
use Rattle.model_line.specs.Line.{Line, place_in}
use Rattle.model_line.specs.Effect.{Aim, at_none, at_link, at_management}
pub use Rattle.model_line.specs.Sides.{group_tei}
use Rattle.model_line.specs.Sides.{at_side}

abbrev pub drop_for : Cause → Aim
drop_for cause = at_none (dropped cause)

-- Layer 2 management has SAPI 63, and its frames are for the group, TEI 127 (Q.921 clauses 3.3.3 and 5.3.6). Of the
-- other SAPIs those of the two services are served, and their frames are for the links of a TEI on the line. An unknown
-- SAPI is told before an unknown TEI (profile).
abbrev pub management_sapi : ℕ
management_sapi = 63

abbrev pub at_place : Service → ℕ → link.Received → Option ℕ → Aim
at_place service tei what None = drop_for Tei
at_place service tei what (Some place) = at_link service tei place (link.received what)

abbrev pub to_service : Line → ℕ → link.Received → Option Service → Aim
to_service l tei what None = drop_for Sapi
to_service l tei what (Some service) = at_place service tei what (place_in l tei)

-- A frame by its address: what it is to a link, or to layer 2 management.
abbrev pub addressed : Line → Address → link.Received → Aim → Aim
addressed l address what to_management =
    if address.sapi == management_sapi then (if address.tei == group_tei then to_management else drop_for Tei)
    else to_service l address.tei what (service_of address.sapi)

-- TEI management serves no frame but UI.
abbrev pub message_of : Control → List ℕ → Aim
message_of (Ui p) info = at_management (teis.message info)
message_of other info = drop_for Unserved

-- What a frame of the other side is, as the grammar reads it. (One that is too short is dropped before it is read.)
abbrev pub aim_of_reading : Config → Line → Result Parts ReadFault → Aim
aim_of_reading c l (Ok parts) = at_side c parts (addressed l parts.address (link.frame parts) (message_of parts.control parts.info))
aim_of_reading c l (Err BadExtension) = drop_for Extension
aim_of_reading c l (Err (Undefined address)) = addressed l address link.undefined (drop_for Unserved)
aim_of_reading c l (Err (WrongSize address)) = addressed l address link.wrong_size (drop_for Unserved)
aim_of_reading c l (Err Short) = drop_for Unserved

-- The same for a frame that is longer than the receiver has room for. No link serves such an XID, nor such a UI in the profile;
-- by annex B the UI is a frame over N201 to its link (clause 5.8.5).
abbrev pub unless_at_link : Aim → Aim
unless_at_link (at_link service tei place event) = drop_for Unserved
unless_at_link other = other

abbrev pub aim_of_unnumbered : Reading → Bool → Aim → Aim
aim_of_unnumbered reading unit aim = if unit then by_reading reading (unless_at_link aim) aim else unless_at_link aim

-- The bit says whether the frame is UI.
abbrev pub aim_of_long : Reading → Bool → Line → Result Long ReadFault → Aim
aim_of_long r unit l (Ok (long.Information address)) = addressed l address link.overlong (drop_for Unserved)
aim_of_long r unit l (Ok (long.Unnumbered address)) = aim_of_unnumbered r unit (addressed l address link.overlong (drop_for Unserved))
aim_of_long r unit l (Err BadExtension) = drop_for Extension
aim_of_long r unit l (Err (Undefined address)) = addressed l address link.undefined (drop_for Unserved)
aim_of_long r unit l (Err (WrongSize address)) = addressed l address link.wrong_size (drop_for Unserved)
aim_of_long r unit l (Err Short) = drop_for Unserved

-- What is heard is the other side's (clause 3.3.2); on the line the second service has the SAPI of the configuration. The
-- causes for which no frame was heard come before those of an address.
abbrev pub heard_side : Config → Sender
heard_side c = record { side = other_side c.side; sapi = c.sapi }

abbrev pub aim_of_heard : Config → Line → stream.Event → Aim
aim_of_heard c l (stream.frame octets) = aim_of_reading c l (reading (heard_side c) octets)
aim_of_heard c l (stream.overlong head) = aim_of_long c.reading (is_unit head) l (long_reading (heard_side c) head)
aim_of_heard c l (stream.dropped cause) = drop_for cause
