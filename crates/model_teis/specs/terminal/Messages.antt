-- The messages of TEI management as a terminal has them (Q.921 clause 5.3.6): what its own are in octets, and which of
-- the network's octets are.
use Rattle.std.specs.Prelude.{ℕ, ◌==◌, ◌&&◌, List, Option, Some, None, if◌then◌else◌}
use Rattle.lapd_frame.specs.declared.addresses.Side.TheVariants.{User}
use Rattle.lapd_frame.specs.declared.readings.Reading.{Reading}
use Rattle.model_teis.specs.Information.{information, in_frame, heard_by, looked_at}
pub use Rattle.model_teis.specs.declared.terminal.messages.Message.{Message}
pub use Rattle.model_teis.specs.declared.terminal.messages.Message.TheVariants.{IdentityRequest, IdentityCheckResponse, IdentityVerify}
pub use Rattle.model_teis.specs.declared.terminal.heard.Heard.{Heard}
pub use Rattle.model_teis.specs.declared.terminal.heard.Heard.TheVariants.{IdentityAssigned, IdentityDenied, IdentityCheckRequest, IdentityRemove}

-- The terminal's messages, by the types of table 8. A request asks for any TEI, Ai 127; a verify has Ri 0.
abbrev pub information_of : Message → List ℕ
information_of (IdentityRequest ri) = information ri 1 127
information_of (IdentityCheckResponse ri tei) = information ri 5 tei
information_of (IdentityVerify tei) = information 0 7 tei

-- the type
abbrev pub type_of : Message → ℕ
type_of (IdentityRequest ri) = 1
type_of (IdentityCheckResponse ri tei) = 5
type_of (IdentityVerify tei) = 7

-- the action indicator
abbrev pub action_of : Message → ℕ
action_of (IdentityRequest ri) = 127
action_of (IdentityCheckResponse ri tei) = tei
action_of (IdentityVerify tei) = tei

-- The frame of a message, as the user's side sends it.
abbrev pub frame_of : Message → List ℕ
frame_of message = in_frame User (information_of message)

-- The network's messages, by the types of table 8: type, Ri and Ai. A denial of one TEI is not served, since a terminal
-- asks for any; nor are other types. The Ri of a check request and of a removal is not looked at.
abbrev pub heard_of_type : ℕ → ℕ → ℕ → Option Heard
heard_of_type type ri action =
    if type == 2 then Some (IdentityAssigned ri action)
    else if type == 3 && action == 127 then Some (IdentityDenied ri)
    else if type == 4 then Some (IdentityCheckRequest action)
    else if type == 6 then Some (IdentityRemove action)
    else None

-- Which message the information of a UI frame is, and `None` if it is none that is served (profile: one Ai).
abbrev pub heard_in : Reading → List ℕ → Option Heard
heard_in reading octets = heard_by heard_of_type (looked_at reading octets)
