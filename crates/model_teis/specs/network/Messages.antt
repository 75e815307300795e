-- The messages of TEI management (Q.921 clause 5.3.6): what the network's are in octets, and which of the terminal's
-- octets are.
use Rattle.std.specs.Prelude.{ℕ, ◌+◌, ◌/◌, ◌%◌, ◌==◌, ◌&&◌, nat_le, nat_lt, Bool, List, ◌∷◌, take, Option, Some, None, if◌then◌else◌}
use Rattle.std.specs.List.{position}
use Rattle.lapd_frame.specs.declared.addresses.Side.{Side}
use Rattle.lapd_frame.specs.declared.readings.Reading.{Reading}
use Rattle.model_teis.specs.Information.{information, in_frame, heard_by, looked_at}
pub use Rattle.model_teis.specs.declared.network.messages.Message.{Message}
pub use Rattle.model_teis.specs.declared.network.messages.Message.TheVariants.{IdentityAssigned, IdentityDenied, IdentityCheckRequest, IdentityRemove}
pub use Rattle.model_teis.specs.declared.network.heard.Heard.{Heard}
pub use Rattle.model_teis.specs.declared.network.heard.Heard.TheVariants.{IdentityRequest, IdentityRequestOf, IdentityCheckResponse, IdentityVerify}

-- The network's messages, by the types of table 8. Ai 127 in a denial says that there is no TEI to be had, and another that
-- this one is not; a check request and a removal have Ri 0.
abbrev pub information_of : Message → List ℕ
information_of (IdentityAssigned ri tei) = information ri 2 tei
information_of (IdentityDenied ri tei) = information ri 3 tei
information_of (IdentityCheckRequest tei) = information 0 4 tei
information_of (IdentityRemove tei) = information 0 6 tei

-- the type
abbrev pub type_of : Message → ℕ
type_of (IdentityAssigned ri tei) = 2
type_of (IdentityDenied ri tei) = 3
type_of (IdentityCheckRequest tei) = 4
type_of (IdentityRemove tei) = 6

-- the action indicator
abbrev pub action_of : Message → ℕ
action_of (IdentityAssigned ri tei) = tei
action_of (IdentityDenied ri tei) = tei
action_of (IdentityCheckRequest tei) = tei
action_of (IdentityRemove tei) = tei

-- The frame of a message, as a side sends it.
abbrev pub frame_of : Side → Message → List ℕ
frame_of side message = in_frame side (information_of message)

-- The terminal's messages, by the types of table 8: type, Ri and Ai. A request asks for any TEI, Ai 127, or for one of those
-- that the network assigns, 64 to 126; others are not served (profile).
abbrev pub heard_of_type : ℕ → ℕ → ℕ → Option Heard
heard_of_type type ri action =
    if type == 1 && action == 127 then Some (IdentityRequest ri)
    else if type == 1 && nat_le 64 action && nat_le action 126 then Some (IdentityRequestOf ri action)
    else if type == 5 then Some (IdentityCheckResponse action)
    else if type == 7 then Some (IdentityVerify action)
    else None

-- Which message with one Ai the information of a UI frame is, and `None` where it is none that is served.
abbrev pub heard_in : Reading → List ℕ → Option Heard
heard_in reading octets = heard_by heard_of_type (looked_at reading octets)

-- The Ai of a check response, which may be more than one, at most 64: each has one octet, whose bit 1 is 0 in all but the last
-- (clauses 5.3.3.2 and 5.3.6). What follows the last is not looked at.
abbrev pub is_last : ℕ → Bool
is_last octet = octet % 2 == 1

abbrev pub most_actions : ℕ
most_actions = 64

abbrev pub up_to : List ℕ → Option ℕ → Option (List ℕ)
up_to octets None = None
up_to octets (Some place) = if nat_lt place most_actions then Some (take (place + 1) octets) else None

abbrev pub actions_of : ℕ → ℕ → List ℕ → Option (List ℕ)
actions_of entity type octets = if entity == 0x0F && type == 5 then up_to octets (position is_last octets) else None

abbrev pub responses_in : List ℕ → Option (List ℕ)
responses_in (entity ∷ high ∷ low ∷ type ∷ octets) = actions_of entity type octets
responses_in other = None

-- whether such an octet names the TEI
abbrev pub names : ℕ → ℕ → Bool
names tei octet = octet / 2 == tei
