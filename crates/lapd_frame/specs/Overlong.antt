-- What a frame is that was too long to keep.
use Rattle.std.specs.Prelude.{◌≡◌, ℕ, ◌⊎◌, ◌==◌, ◌||◌, Bool, true, false, List, slice_index, Result, Ok, Err}
use Rattle.lapd_frame.specs.declared.addresses.Side.{Side}
use Rattle.lapd_frame.specs.declared.controls.Control.{Control}
use Rattle.lapd_frame.specs.declared.controls.Control.TheVariants.{Information, Ui, Xid}
use Rattle.lapd_frame.specs.declared.faults.ReadFault.{ReadFault}
use Rattle.lapd_frame.specs.declared.overlong.Long.{Long}
use Rattle.lapd_frame.specs.declared.overlong.Long.TheVariants as long
use Rattle.lapd_frame.specs.Faults.{IsFault}
use Rattle.lapd_frame.specs.Grammar.{Parts, Spells}
use Rattle.lapd_seq.specs.declared.numbers.Seq.{Seq}

-- I-frames, and the other two kinds whose information may be long
abbrev pub IsInformation : Control → Type 0
IsInformation control = (ns : Seq) × (nr : Seq) × (pf : Bool) × (control ≡ Information ns nr pf)

abbrev pub IsUiOrXid : Control → Type 0
IsUiOrXid control = (pf : Bool) × ((control ≡ Ui pf) ⊎ (control ≡ Xid pf))

-- The octets spell an I-frame with this address, a UI or XID frame with it, or nothing, by the first fault that holds.
abbrev pub IsLong : Side → List ℕ → Result Long ReadFault → Type 0
IsLong side octets (Ok (long.Information address)) = (frame : Parts) × Spells side frame octets × IsInformation frame.control × (frame.address ≡ address)
IsLong side octets (Ok (long.Unnumbered address)) = (frame : Parts) × Spells side frame octets × IsUiOrXid frame.control × (frame.address ≡ address)
IsLong side octets (Err fault) = IsFault side octets fault

-- Whether a frame is UI, and the same by the third of its octets (table 5): with P=0 or with P=1.
abbrev pub is_ui : Control → Bool
is_ui (Ui pf) = true
is_ui other = false

abbrev pub is_unit : List ℕ → Bool
is_unit head = slice_index head 2 == 0x03 || slice_index head 2 == 0x13
