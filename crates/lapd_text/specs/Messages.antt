-- What a message of TEI management says, in words (profile). Its octets are those of Q.921 clause 5.3.6.
use Rattle.std.specs.Prelude.{ℕ, ◌/◌, ◌%◌, ◌==◌, ◌&&◌, if◌then◌else◌, List, [], ◌∷◌, ◌++◌, codes, decimal, get_or, Option, Some, None}
use Rattle.hex.specs.Hex.{encode_upper}
use Rattle.lapd_frame.specs.declared.controls.Control.{Control}
use Rattle.lapd_frame.specs.declared.controls.Control.TheVariants.{Information, ReceiveReady, ReceiveNotReady, Reject, Sabme, Disc, Ui, Ua, Dm, Frmr, Xid}
use Rattle.lapd_frame.specs.Grammar.{Parts}

-- the names, in the order of the types, which are 1 to 7 (table 8)
abbrev pub names : List (Option (List ℕ))
names =
    None ∷ Some (codes "identity request") ∷ Some (codes "identity assigned") ∷ Some (codes "identity denied")
    ∷ Some (codes "identity check request") ∷ Some (codes "identity check response") ∷ Some (codes "identity remove")
    ∷ Some (codes "identity verify") ∷ []

abbrev pub name_of : ℕ → Option (List ℕ)
name_of type = get_or names type None

-- name, reference number Ri, and action indicator Ai, with a space before them
abbrev pub words_of : Option (List ℕ) → ℕ → ℕ → ℕ → List ℕ
words_of None high low action = []
words_of (Some name) high low action =
    codes " " ++ name ++ codes ", Ri " ++ encode_upper (high ∷ low ∷ []) ++ codes ", Ai " ++ decimal action

-- The information has five octets: the entity identifier 0F, Ri with its high octet first, the type, and Ai with 1 as its
-- extension bit. Of other information nothing is said.
abbrev pub message_text : List ℕ → List ℕ
message_text [] = []
message_text (entity ∷ []) = []
message_text (entity ∷ high ∷ []) = []
message_text (entity ∷ high ∷ low ∷ []) = []
message_text (entity ∷ high ∷ low ∷ type ∷ []) = []
message_text (entity ∷ high ∷ low ∷ type ∷ last ∷ []) =
    if entity == 0x0F && last % 2 == 1 then words_of (name_of type) high low (last / 2) else []
message_text (entity ∷ high ∷ low ∷ type ∷ last ∷ sixth ∷ more) = []

-- a message is in a UI frame
abbrev pub meaning_in : Control → List ℕ → List ℕ
meaning_in (Information ns nr pf) info = []
meaning_in (ReceiveReady nr pf) info = []
meaning_in (ReceiveNotReady nr pf) info = []
meaning_in (Reject nr pf) info = []
meaning_in (Sabme pf) info = []
meaning_in (Disc pf) info = []
meaning_in (Ui pf) info = message_text info
meaning_in (Ua pf) info = []
meaning_in (Dm pf) info = []
meaning_in (Frmr pf) info = []
meaning_in (Xid pf) info = []

-- of SAPI 63
abbrev pub meaning_text : Parts → List ℕ
meaning_text frame = if frame.address.sapi == 63 then meaning_in frame.control frame.info else []
