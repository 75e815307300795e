-- Why octets spell no frame, and how the faults are worded.
use Rattle.std.specs.Prelude.{◌≡◌, ℕ, ◌%◌, ◌<◌, ◌||◌, Bool, true, false, IsTrue, not, ◌==◌, List, [], ◌∷◌, ◌++◌, drop, slice_index, codes}
use Rattle.lapd_frame.specs.declared.addresses.Side.{Side}
use Rattle.lapd_frame.specs.declared.addresses.Address.{Address}
use Rattle.lapd_frame.specs.declared.controls.Control.{Control}
use Rattle.lapd_frame.specs.declared.faults.ReadFault.{ReadFault}
use Rattle.lapd_frame.specs.declared.faults.ReadFault.TheVariants.{BadExtension, Undefined, WrongSize, Short}
use Rattle.lapd_frame.specs.Grammar.{Parts, address_field, allows, row, Spells}

-- Clause 2.9: fewer than 3 octets, or 3 that end within a control field of two octets (of one octet are those that end
-- in 11).
abbrev pub is_short : List ℕ → Bool
is_short (first ∷ second ∷ third ∷ []) = not (third % 4 == 3)
is_short (first ∷ second ∷ third ∷ fourth ∷ more) = false
is_short other = true

-- Clause 3.3.1: the first octet's extension bit is not 0, or the second's is not 1.
abbrev pub has_bad_extension : ℕ → ℕ → Bool
has_bad_extension first second = not (first % 2 == 0) || not (second % 2 == 1)

-- The first two octets are this address.
pub record HasAddress (side : Side) (octets : List ℕ) (address : Address) : Type 0 where
  pub sapi : address.sapi < 64
  pub tei : address.tei < 128
  pub begins : octets ≡ address_field side address ++ drop 2 octets

-- Behind the address stands a control field of table 5, of a frame that may be the command or response that it is.
pub record HasControl (address : Address) (octets : List ℕ) (control : Control) : Type 0 where
  pub kind : IsTrue (allows (row control).kind address.command)
  pub begins : (rest : List ℕ) × (drop 2 octets ≡ (row control).field ++ rest)

-- Octets with an address.
pub record IsAddressed (side : Side) (octets : List ℕ) (address : Address) : Type 0 where
  pub whole : is_short octets ≡ false
  pub extension : has_bad_extension (slice_index octets 0) (slice_index octets 1) ≡ false
  pub begins : HasAddress side octets address

-- No control field of table 5 stands there, or one does.
abbrev pub IsUndefined : Address → List ℕ → Type 0
IsUndefined address octets = (control : Control) → HasControl address octets control → ⊥

abbrev pub IsDefined : Address → List ℕ → Type 0
IsDefined address octets = (control : Control) × HasControl address octets control

-- They are the octets of no frame.
abbrev pub SpellsNone : Side → List ℕ → Type 0
SpellsNone side octets = (frame : Parts) → Spells side frame octets → ⊥

-- Why octets spell no frame: the first that holds of `Short`, `BadExtension`, `Undefined` and `WrongSize`.
abbrev pub IsFault : Side → List ℕ → ReadFault → Type 0
IsFault side octets Short = IsTrue (is_short octets)
IsFault side octets BadExtension = (is_short octets ≡ false) × IsTrue (has_bad_extension (slice_index octets 0) (slice_index octets 1))
IsFault side octets (Undefined address) = IsAddressed side octets address × IsUndefined address octets
IsFault side octets (WrongSize address) = IsAddressed side octets address × IsDefined address octets × SpellsNone side octets

-- The fault in words.
abbrev pub text_of : ReadFault → List ℕ
text_of BadExtension = codes "bad extension"
text_of (Undefined address) = codes "undefined"
text_of (WrongSize address) = codes "wrong size"
text_of Short = codes "short"
