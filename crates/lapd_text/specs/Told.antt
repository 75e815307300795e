-- What is told of octets, in a line of text: what the frame says, and its message of TEI management, if it has one; or why they
-- are none (profile).
use Rattle.std.specs.Prelude.{◌≡◌, ℕ, ◌-◌, ◌*◌, ◌<◌, ◌≤◌, ◌==◌, if◌then◌else◌, Bool, true, false, List, ◌∷◌, ◌++◌, length, take, drop, codes, Result, Ok, Err}
use Rattle.lapd_frame.specs.declared.addresses.Side.{Side}
use Rattle.lapd_frame.specs.declared.faults.ReadFault.{ReadFault}
use Rattle.lapd_frame.specs.Faults.{text_of}
use Rattle.lapd_frame.specs.Grammar.{Parts}
use Rattle.lapd_frame.specs.Reading.{reading}
use Rattle.lapd_text.specs.Messages.{meaning_text}
use Rattle.lapd_text.specs.Shown.{head_text, octets_text}

abbrev pub fault_text : ReadFault → List ℕ
fault_text fault = codes "frame: " ++ text_of fault ++ codes "\n"

abbrev pub told_of : Result Parts ReadFault → List ℕ
told_of (Ok frame) = head_text frame ++ octets_text frame.info ++ meaning_text frame ++ codes "\n"
told_of (Err fault) = fault_text fault

-- what is told of octets that a side sent
abbrev pub told_text : Side → List ℕ → List ℕ
told_text side octets = told_of (reading side octets)

-- so many digits have so many octets
abbrev pub digit_count : ℕ → ℕ
digit_count octets = if octets == 0 then 1 else 2 * octets

-- A line stands in front of room, with a 0 in place of its line feed; or there is no room for it, and the room is as it was.
abbrev pub IsPutIn : Bool → List ℕ → List ℕ → List ℕ → Type 0
IsPutIn true line old new = (length line ≤ length old) × (new ≡ take (length line - 1) line ++ 0 ∷ drop (length line) old)
IsPutIn false line old new = (length old < length line) × (new ≡ old)
