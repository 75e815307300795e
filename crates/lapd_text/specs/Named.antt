-- A line of text says its frame, all of it and nothing else, in words of its own.
use Rattle.std.specs.Prelude.{◌≡◌, ◌⊎◌, ◌≤◌, ℕ, ◌+◌, ◌*◌, ◌==◌, Bool, false, List, [], ◌∷◌, ◌++◌, codes, decimal, Ok, Err, if◌then◌else◌}
use Rattle.hex.specs.Hex.{encode_upper}
use Rattle.lapd_frame.specs.declared.addresses.Address.{Address}
use Rattle.lapd_frame.specs.declared.addresses.Side.{Side}
use Rattle.lapd_frame.specs.declared.controls.Control.{Control}
use Rattle.lapd_frame.specs.declared.controls.Control.TheVariants.{Information, ReceiveReady, ReceiveNotReady, Reject, Sabme, Disc, Ui, Ua, Dm, Frmr, Xid}
use Rattle.lapd_frame.specs.declared.faults.ReadFault.TheVariants.{BadExtension, Undefined, WrongSize, Short}
use Rattle.lapd_frame.specs.Reading.{reading}
use Rattle.lapd_seq.specs.declared.numbers.Seq.{Seq}
use Rattle.lapd_text.specs.Messages.{meaning_text}
use Rattle.lapd_text.specs.Told.{told_of, told_text}

-- Before the name stand whom the frame is about, and whether it is a command; after it its numbers, P of a command or F of a
-- response, its information in digits, and what this means.
abbrev pub before_name : Address → List ℕ
before_name a =
    codes "sapi " ++ decimal a.sapi ++ codes " tei " ++ decimal a.tei ++ (if a.command then codes " command " else codes " response ")

abbrev pub in_digits : List ℕ → List ℕ
in_digits [] = codes "-"
in_digits (octet ∷ more) = encode_upper (octet ∷ more)

abbrev pub after_numbers : Address → Bool → List ℕ → List ℕ → List ℕ
after_numbers a bit info meaning =
    (if a.command then codes " p " else codes " f ") ++ ((if bit then codes "1" else codes "0") ++ (codes " info " ++ (in_digits info ++ (meaning ++ codes "\n"))))

abbrev pub IsNamed : List ℕ → (List ℕ → List ℕ) → Bool → Control → (Address → List ℕ → List ℕ) → Type 0
IsNamed name numbers bit control meaning = (a : Address) (info : List ℕ)
    → told_of (Ok (record { address = a; control = control; info = info })) ≡ before_name a ++ name ++ numbers (after_numbers a bit info (meaning a info))

abbrev pub without_numbers : List ℕ → List ℕ
without_numbers more = more

abbrev pub with_nr : Seq → List ℕ → List ℕ
with_nr nr more = (codes " nr " ++ decimal nr.value) ++ more

abbrev pub with_both : Seq → Seq → List ℕ → List ℕ
with_both ns nr more = (codes " ns " ++ decimal ns.value) ++ with_nr nr more

abbrev pub no_meaning : Address → List ℕ → List ℕ
no_meaning a info = []

-- What a UI means.
abbrev pub ui_means : Bool → Address → List ℕ → List ℕ
ui_means p a info = meaning_text (record { address = a; control = Ui p; info = info })

-- A message of TEI management has the entity identifier 15, Ri, its type, and Ai with its extension bit (clause 5.3.6).
abbrev pub message : ℕ → ℕ → ℕ → ℕ → List ℕ
message high low type action = 15 ∷ high ∷ low ∷ type ∷ (2 * action + 1) ∷ []

abbrev pub IsMessage : ℕ → List ℕ → Type 0
IsMessage type name = (p : Bool) (a : Address) (high low action : ℕ) → a.sapi ≡ 63
    → ui_means p a (message high low type action) ≡ codes " " ++ name ++ codes ", Ri " ++ encode_upper (high ∷ low ∷ []) ++ codes ", Ai " ++ decimal action

pub record IsOne (info : List ℕ) : Type 0 where
  pub high : ℕ
  pub low : ℕ
  pub type : ℕ
  pub action : ℕ
  pub is : info ≡ message high low type action
  pub known : (1 ≤ type) × (type ≤ 7)

-- The names are those of the standard, in small letters (Q.921 tables 5 and 8).
pub record FramesAreNamed : Type 0 where
  pub of_side : (side : Side) (octets : List ℕ) → told_text side octets ≡ told_of (reading side octets)
  pub i : (ns nr : Seq) (p : Bool) → IsNamed (codes "i") (with_both ns nr) p (Information ns nr p) no_meaning
  pub rr : (nr : Seq) (pf : Bool) → IsNamed (codes "rr") (with_nr nr) pf (ReceiveReady nr pf) no_meaning
  pub rnr : (nr : Seq) (pf : Bool) → IsNamed (codes "rnr") (with_nr nr) pf (ReceiveNotReady nr pf) no_meaning
  pub rej : (nr : Seq) (pf : Bool) → IsNamed (codes "rej") (with_nr nr) pf (Reject nr pf) no_meaning
  pub sabme : (p : Bool) → IsNamed (codes "sabme") without_numbers p (Sabme p) no_meaning
  pub disc : (p : Bool) → IsNamed (codes "disc") without_numbers p (Disc p) no_meaning
  pub ui : (p : Bool) → IsNamed (codes "ui") without_numbers p (Ui p) (ui_means p)
  pub ua : (f : Bool) → IsNamed (codes "ua") without_numbers f (Ua f) no_meaning
  pub dm : (f : Bool) → IsNamed (codes "dm") without_numbers f (Dm f) no_meaning
  pub frmr : (f : Bool) → IsNamed (codes "frmr") without_numbers f (Frmr f) no_meaning
  pub xid : (pf : Bool) → IsNamed (codes "xid") without_numbers pf (Xid pf) no_meaning
  -- A UI to SAPI 63 means a message, if its information is one; no other means anything.
  pub request : IsMessage 1 (codes "identity request")
  pub assigned : IsMessage 2 (codes "identity assigned")
  pub denied : IsMessage 3 (codes "identity denied")
  pub check_request : IsMessage 4 (codes "identity check request")
  pub check_response : IsMessage 5 (codes "identity check response")
  pub remove : IsMessage 6 (codes "identity remove")
  pub verify : IsMessage 7 (codes "identity verify")
  pub others : (p : Bool) (a : Address) (info : List ℕ) → (a.sapi == 63) ≡ false → ui_means p a info ≡ []
  pub only : (p : Bool) (a : Address) (info : List ℕ) → (ui_means p a info ≡ []) ⊎ IsOne info
  -- What is no frame has a line that says why.
  pub bad_extension : told_of (Err BadExtension) ≡ codes "frame: bad extension\n"
  pub undefined : (a : Address) → told_of (Err (Undefined a)) ≡ codes "frame: undefined\n"
  pub wrong_size : (a : Address) → told_of (Err (WrongSize a)) ≡ codes "frame: wrong size\n"
  pub short : told_of (Err Short) ≡ codes "frame: short\n"
