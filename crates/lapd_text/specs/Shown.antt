-- What one frame says, in a line of text (profile).
use Rattle.std.specs.Prelude.{ℕ, Bool, if◌then◌else◌, List, [], ◌∷◌, ◌++◌, flat_map, codes, decimal, Option, Some, None}
use Rattle.std.specs.Borrow.{Bor}
use Rattle.hex.specs.Hex.{encode_upper}
use Rattle.lapd_frame.specs.declared.controls.Control.{Control}
use Rattle.lapd_frame.specs.declared.controls.Control.TheVariants.{Information, ReceiveReady, ReceiveNotReady, Reject, Sabme, Disc, Ui, Ua, Dm, Frmr, Xid}
use Rattle.lapd_frame.specs.Grammar.{Parts}

-- octets as upper-case digits, and no octets as `-`
abbrev pub octets_text : List ℕ → List ℕ
octets_text [] = codes "-"
octets_text (octet ∷ more) = encode_upper (octet ∷ more)

-- What a control field says: the frame's name, N(S) and N(R) where it has them, and P or F.
pub record Fields : Type 0 where
  pub name : List ℕ
  pub ns : Option ℕ
  pub nr : Option ℕ
  pub bit : Bool

abbrev pub fields : Control → Fields
fields (Information ns nr pf) = record { name = codes "i"; ns = Some ns.value; nr = Some nr.value; bit = pf }
fields (ReceiveReady nr pf) = record { name = codes "rr"; ns = None; nr = Some nr.value; bit = pf }
fields (ReceiveNotReady nr pf) = record { name = codes "rnr"; ns = None; nr = Some nr.value; bit = pf }
fields (Reject nr pf) = record { name = codes "rej"; ns = None; nr = Some nr.value; bit = pf }
fields (Sabme pf) = record { name = codes "sabme"; ns = None; nr = None; bit = pf }
fields (Disc pf) = record { name = codes "disc"; ns = None; nr = None; bit = pf }
fields (Ui pf) = record { name = codes "ui"; ns = None; nr = None; bit = pf }
fields (Ua pf) = record { name = codes "ua"; ns = None; nr = None; bit = pf }
fields (Dm pf) = record { name = codes "dm"; ns = None; nr = None; bit = pf }
fields (Frmr pf) = record { name = codes "frmr"; ns = None; nr = None; bit = pf }
fields (Xid pf) = record { name = codes "xid"; ns = None; nr = None; bit = pf }

-- a number, where there is one
abbrev pub number_text : List ℕ → Option ℕ → List ℕ
number_text name None = []
number_text name (Some number) = name ++ decimal number

-- Whom the frame is about, whether it is a command, and its fields;
abbrev pub head_text : Parts → List ℕ
head_text frame =
    codes "sapi " ++ decimal frame.address.sapi
    ++ codes " tei " ++ decimal frame.address.tei
    ++ (if frame.address.command then codes " command " else codes " response ")
    ++ (fields frame.control).name
    ++ number_text (codes " ns ") (fields frame.control).ns
    ++ number_text (codes " nr ") (fields frame.control).nr
    ++ (if frame.address.command then codes " p " else codes " f ")
    ++ (if (fields frame.control).bit then codes "1" else codes "0")
    ++ codes " info "

-- and then its information.
abbrev pub shown_text : Parts → List ℕ
shown_text frame = head_text frame ++ octets_text frame.info ++ codes "\n"

-- pieces of text, joined
abbrev pub joined : List (Bor (List ℕ)) → List ℕ
joined pieces = flat_map (λ (piece : Bor (List ℕ)). piece.now) pieces
