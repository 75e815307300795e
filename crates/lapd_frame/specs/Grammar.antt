-- The grammar of frames: which octets spell which frame (Q.921 clauses 2 and 3). The octets are those between two
-- flags, without bit stuffing and frame check.
use Rattle.std.specs.Prelude.{◌≡◌, ℕ, ◌+◌, ◌*◌, ◌<◌, Bool, true, false, IsTrue, not, if◌then◌else◌, ◌==◌, List, [], ◌∷◌, ◌++◌, length}
use Rattle.lapd_frame.specs.declared.addresses.Side.{Side}
use Rattle.lapd_frame.specs.declared.addresses.Side.TheVariants.{User, Network}
use Rattle.lapd_frame.specs.declared.addresses.Address.{Address}
use Rattle.lapd_frame.specs.declared.controls.Control.{Control}
use Rattle.lapd_frame.specs.declared.controls.Control.TheVariants.{Information, ReceiveReady, ReceiveNotReady, Reject, Sabme, Disc, Ui, Ua, Dm, Frmr, Xid}
use Rattle.lapd_frame.specs.declared.frames.Frame.{Frame}
use Rattle.lapd_seq.specs.declared.numbers.Seq.{Seq}

-- A frame, wherever its information lies.
pub record Parts : Type 0 where
  pub address : Address
  pub control : Control
  pub info : List ℕ

abbrev pub parts_of : Frame → Parts
parts_of frame = record { address = frame.address; control = frame.control; info = frame.info.now }

-- Clause 3.3.2, table 1: the C/R bit of a command (true) and of a response (false).
abbrev pub cr_bit : Side → Bool → ℕ
cr_bit Network true = 1
cr_bit Network false = 0
cr_bit User true = 0
cr_bit User false = 1

-- The other side of a line: what one side sends, the other hears.
abbrev pub other_side : Side → Side
other_side Network = User
other_side User = Network

-- Clauses 2.3 and 3.2, figure 5: SAPI, C/R and EA 0; TEI and EA 1.
abbrev pub address_field : Side → Address → List ℕ
address_field side address = (4 * address.sapi + 2 * cr_bit side address.command) ∷ (2 * address.tei + 1) ∷ []

-- Clause 3.6.1: a frame is always a command, always a response, or one of both.
pub data Kind : Type 0 where
  command : Kind
  response : Kind
  either : Kind

abbrev pub allows : Kind → Bool → Bool
allows command is_command = is_command
allows response is_command = not is_command
allows either is_command = true

-- Clauses 3.6.2 to 3.6.12: how many octets of information there are.
pub data Size : Type 0 where
  exactly : ℕ → Size
  any : Size

abbrev pub takes : Size → ℕ → Bool
takes (exactly n) count = count == n
takes any count = true

-- A row of table 5: command or response, the octets of the control field, and the size of the information.
pub record Row : Type 0 where
  pub kind : Kind
  pub field : List ℕ
  pub info : Size

-- Clauses 3.4.1 and 3.4.2: the second octet of a numbered or supervisory frame's control field, N(R) and P/F.
abbrev pub second_octet : Seq → Bool → ℕ
second_octet nr pf = 2 * nr.value + (if pf then 1 else 0)

-- Clause 3.4.3: the octet of an unnumbered frame with P/F 0, and with P/F 1.
abbrev pub one_of : ℕ → ℕ → Bool → List ℕ
one_of without with_pf pf = (if pf then with_pf else without) ∷ []

-- Table 5. In a numbered frame the first octet is N(S) and 0; in a supervisory one it names the function, its upper
-- bits reserved as 0.
abbrev pub row : Control → Row
row (Information ns nr pf) = record { kind = command; field = 2 * ns.value ∷ second_octet nr pf ∷ []; info = any }
row (ReceiveReady nr pf) = record { kind = either; field = 0x01 ∷ second_octet nr pf ∷ []; info = exactly 0 }
row (ReceiveNotReady nr pf) = record { kind = either; field = 0x05 ∷ second_octet nr pf ∷ []; info = exactly 0 }
row (Reject nr pf) = record { kind = either; field = 0x09 ∷ second_octet nr pf ∷ []; info = exactly 0 }
row (Sabme pf) = record { kind = command; field = one_of 0x6F 0x7F pf; info = exactly 0 }
row (Disc pf) = record { kind = command; field = one_of 0x43 0x53 pf; info = exactly 0 }
row (Ui pf) = record { kind = command; field = one_of 0x03 0x13 pf; info = any }
row (Ua pf) = record { kind = response; field = one_of 0x63 0x73 pf; info = exactly 0 }
row (Dm pf) = record { kind = response; field = one_of 0x0F 0x1F pf; info = exactly 0 }
row (Frmr pf) = record { kind = response; field = one_of 0x87 0x97 pf; info = exactly 5 }
row (Xid pf) = record { kind = either; field = one_of 0xAF 0xBF pf; info = any }

-- What is a frame: SAPI and TEI in range, command or response and size of the information as its row has them.
pub record IsFrame (frame : Parts) : Type 0 where
  pub sapi : frame.address.sapi < 64
  pub tei : frame.address.tei < 128
  pub kind : IsTrue (allows (row frame.control).kind frame.address.command)
  pub size : IsTrue (takes (row frame.control).info (length frame.info))

-- The octets before the information.
abbrev pub head_of : Side → Address → Control → List ℕ
head_of side address control = address_field side address ++ (row control).field

-- The octets of a frame: address, control and information (clause 2.1, figure 1).
abbrev pub spelling : Side → Parts → List ℕ
spelling side frame = head_of side frame.address frame.control ++ frame.info

-- A frame of this side is spelled by these octets, and by no others.
pub record Spells (side : Side) (frame : Parts) (octets : List ℕ) : Type 0 where
  pub is_frame : IsFrame frame
  pub octets_are : octets ≡ spelling side frame
