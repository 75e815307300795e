-- For whom a frame is, by its address.
use Rattle.std.specs.Prelude.{ℕ, ◌==◌, Bool, true, false, not, ◌&&◌, ◌||◌, nat_le, length, Option, Some, None, if◌then◌else◌}
use Rattle.model_bits.specs.declared.heard.Cause.TheVariants.{Sapi, Tei, Unserved}
use Rattle.lapd_frame.specs.declared.addresses.Address.{Address}
use Rattle.lapd_frame.specs.declared.controls.Control.{Control}
use Rattle.lapd_frame.specs.declared.controls.Control.TheVariants as control
use Rattle.lapd_frame.specs.declared.services.Service.{Service}
use Rattle.lapd_frame.specs.Grammar.{Parts}
use Rattle.lapd_frame.specs.Readings.{by_reading}
use Rattle.lapd_frame.specs.declared.readings.Reading.{Reading}
use Rattle.lapd_frame.specs.Services.{service_of}
use Rattle.model_link.specs.Events as link
use Rattle.model_teis.specs.network.Events as teis
use Rattle.model_teis.specs.Table.{Places, place_of, IsAt}
use Rattle.model_line.specs.declared.config.Config.{Config}
use Rattle.model_line.specs.Heard.{management_sapi, group_tei, drop_for}
use Rattle.model_line.specs.Sides.{is_network}
use Rattle.model_line.specs.Effect.{Aim, at_link, at_management}
use Rattle.model_line.specs.Line.{is_terminal}
use Rattle.lapd_line.specs.declared.addressing.Addressee.{Addressee}
use Rattle.lapd_line.specs.declared.addressing.Addressee.TheVariants as to

abbrev pub at_place : Service → ℕ → Option ℕ → Addressee
at_place service tei None = to.Nobody Tei
at_place service tei (Some place) = to.Link service tei place

abbrev pub of_service : Places → ℕ → Option Service → Addressee
of_service places tei None = to.Nobody Sapi
of_service places tei (Some service) = at_place service tei (place_of tei places)

abbrev pub addressee : Places → Address → Addressee
addressee places address =
    if address.sapi == management_sapi then (if address.tei == group_tei then to.Management else to.Nobody Tei)
    else of_service places address.tei (service_of address.sapi)

-- Of the frames of layer 2 management, UI alone is served.
abbrev pub is_ui : Control → Bool
is_ui (control.Ui p) = true
is_ui other = false

-- A frame of layer 2 management: UI of at most N201 octets alone is served, at the network's side, and at a terminal, which serves
-- commands alone.
abbrev pub serves_messages : Config → Parts → Bool
serves_messages c parts = nat_le (length parts.info) c.n201 && (is_network c.side || (is_terminal c && parts.address.command))

abbrev pub message_at : Config → Parts → Aim
message_at c parts =
    if is_ui parts.control then (if serves_messages c parts then at_management (teis.message parts.info) else drop_for Unserved)
    else drop_for Unserved

-- Of the frames for nobody a side may serve this one: on the user's, a UI to the group of at most N201 octets,
abbrev pub serves_group : Config → Parts → Bool
serves_group c parts =
    not (is_network c.side) && ((parts.address.tei == group_tei) && (is_ui parts.control && nat_le (length parts.info) c.n201))

-- with the SAPI of a service.
abbrev pub group_service : Config → Parts → Option Service
group_service c parts = if serves_group c parts then service_of parts.address.sapi else None

-- Whether UI, if the bit is set, or else XID that is too long to keep is something to its link: by annex B UI is.
abbrev pub reaches_link : Reading → Bool → Bool
reaches_link reading unit = unit && by_reading reading false true

-- What a frame is to the line, by its addressee: something for a link, or for layer 2 management.
abbrev pub aim_at : Addressee → link.Received → Aim → Aim
aim_at to.Management what to_management = to_management
aim_at (to.Link service tei place) what to_management = at_link service tei place (link.received what)
aim_at (to.Nobody cause) what to_management = drop_for cause

-- A link's TEI is at its place.
abbrev pub IsAtPlace : Places → Addressee → Type 0
IsAtPlace places to.Management = Unit {0}
IsAtPlace places (to.Link service tei place) = IsAt places place tei
IsAtPlace places (to.Nobody cause) = Unit {0}
