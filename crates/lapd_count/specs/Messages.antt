-- The messages of TEI management, as what is counted of a line names them (Q.921 clause 5.3.6).
use Rattle.std.specs.Prelude.{ℕ, ◌/◌, ◌==◌, ◌&&◌, ◌||◌, Bool, List, [], ◌∷◌, get_or, Option, Some, None}
use Rattle.lapd_count.specs.declared.messages.MessageType.{MessageType}
use Rattle.lapd_count.specs.declared.messages.MessageType.TheVariants.{IdentityRequest, IdentityAssigned, IdentityDenied, IdentityCheckRequest, IdentityCheckResponse, IdentityRemove, IdentityVerify}

-- In the order of their types, which are 1 to 7 (table 8).
abbrev pub messages : List (Option MessageType)
messages =
    None ∷ Some IdentityRequest ∷ Some IdentityAssigned ∷ Some IdentityDenied ∷ Some IdentityCheckRequest ∷ Some IdentityCheckResponse
    ∷ Some IdentityRemove ∷ Some IdentityVerify ∷ []

abbrev pub message_of : ℕ → Option MessageType
message_of type = get_or messages type None

-- A frame that has a message: a UI frame (P/F 0 or 1) of SAPI 63 and TEI 127, whose information begins with the entity
-- identifier of TEI management, 15. Ri follows, and then the type.
abbrev pub has_message : List ℕ → Bool
has_message octets =
    (get_or octets 0 0 / 4 == 63) && (get_or octets 1 0 == 255) && ((get_or octets 2 0 == 0x03) || (get_or octets 2 0 == 0x13))
    && (get_or octets 3 0 == 15)
