-- How far the lines of a script have been read.
use Rattle.std.specs.Prelude.{◌≡◌, ◌≢◌, ℕ, ◌+◌, ◌-◌, ◌^◌, ◌<◌, ◌≤◌, true, false, ◌==◌, if◌then◌else◌, List, [], ◌∷◌, ◌++◌, length, take, drop, All, Option, Some, Result, Ok, Err, Bool}
use Rattle.std.specs.List.{list_any}
use Rattle.lapd_script.specs.declared.kind.FaultKind.TheVariants.{TooLong}
use Rattle.lapd_script.specs.Pieces.{pieces_of, line_in}
use Rattle.lapd_script.specs.declared.faults.PlayFault.{PlayFault}
use Rattle.lapd_script.specs.declared.faults.PlayFault.TheVariants.{Read, Script}
use Rattle.lapd_script.specs.declared.lines.ScriptLines.{ScriptLines}

-- at most how many octets can still be read before a line ends or is too long; one more where the end may come
abbrev pub left_to_read : ScriptLines → ℕ
left_to_read lines = (4097 - (lines.filled - lines.start)) + (if lines.is_at_end then 0 else 1)

-- The current line, and what has been read of the lines after it.
abbrev pub current : ScriptLines → List ℕ
current lines = drop lines.start (take lines.end lines.buffer.items)

abbrev pub held : ScriptLines → List ℕ
held lines = drop lines.next (take lines.filled lines.buffer.items)

-- The lines after the current one are this text, where the source still gives what isn't held of it.
pub record AreLeft (lines : ScriptLines) (remaining : Option (List ℕ)) (text : List ℕ) : Type 0 where
  pub rest : List ℕ
  pub tells : remaining ≡ Some rest
  pub is : text ≡ held lines ++ rest
  pub ended : lines.is_at_end ≡ true → rest ≡ []

-- The fault of a line after the current one, or of a script, that is too long.
abbrev pub too_long_after : ScriptLines → PlayFault
too_long_after lines = Script (lines.number + 1) TooLong

-- The octets up to `end` are the current line, and those from `next` on the lines after it.
pub record IsTaken (old new : ScriptLines) (end next : ℕ) : Type 0 where
  pub some : old.start < next
  pub line : current new ≡ drop old.start (take end old.buffer.items)
  pub after : held new ≡ drop next (take old.filled old.buffer.items)
  pub at_end : new.is_at_end ≡ old.is_at_end
  pub number : new.number ≡ old.number + 1
  pub octets : new.octets ≡ old.octets + (next - old.start)

-- They are, or there are none, or the script is too long with them.
abbrev pub Takes : Result Bool PlayFault → ScriptLines → ScriptLines → ℕ → ℕ → Type 0
Takes (Ok true) old new end next = IsTaken old new end next
Takes (Ok false) old new end next = next ≡ old.start
Takes (Err fault) old new end next = (fault ≡ too_long_after old) × (2 ^ 63 < old.octets + (next - old.start))

-- The next line: a piece of the text, which is not too long; the script isn't, up to and with it.
pub record IsNext (old new : ScriptLines) (remaining : Option (List ℕ)) (text : List ℕ) : Type 0 where
  pub piece : List ℕ
  pub more : List ℕ
  pub pieces : pieces_of text ≡ piece ∷ pieces_of more
  pub left : AreLeft new remaining more
  pub line : current new ≡ line_in piece
  pub short : length (line_in piece) ≤ 4096
  pub number : new.number ≡ old.number + 1
  pub octets : new.octets ≡ old.octets + length piece
  pub whole : new.is_at_end ≡ false → list_any (λ octet. octet == 10) piece ≡ true

-- It is too long, or the script is.
pub record IsTooLong (lines : ScriptLines) (told : ℕ) (text : List ℕ) : Type 0 where
  pub piece : List ℕ
  pub more : List ℕ
  pub pieces : pieces_of text ≡ piece ∷ pieces_of more
  pub long : length (line_in piece) ≤ 4096 → 2 ^ 63 < lines.octets + length piece
  pub number : told ≡ lines.number + 1

-- A read failed before it had come: what was read of it has no line feed (octet 10).
pub record IsCut (lines : ScriptLines) (remaining : Option (List ℕ)) (text : List ℕ) : Type 0 where
  pub begun : List ℕ
  pub rest : List ℕ
  pub is : text ≡ begun ++ rest
  pub tells : remaining ≡ Some rest
  pub open_is : All (λ octet. octet ≢ 10) begun
  pub goes_on : lines.is_at_end ≡ false

abbrev pub Advances : Result Bool PlayFault → ScriptLines → ScriptLines → Option (List ℕ) → List ℕ → Type 0
Advances (Ok true) old new remaining text = IsNext old new remaining text
Advances (Ok false) old new remaining text = (text ≡ []) × (remaining ≡ Some [])
Advances (Err Read) old new remaining text = IsCut old remaining text
Advances (Err (Script number kind)) old new remaining text = (kind ≡ TooLong) × IsTooLong old number text
Advances (Err _) old new remaining text = ⊥

-- The next line, where its line feed has come, or why there is none.
abbrev pub IsReady : Result Bool PlayFault → ScriptLines → ScriptLines → Option (List ℕ) → List ℕ → Type 0
IsReady (Ok false) old new remaining text = Unit
IsReady result old new remaining text = Advances result old new remaining text
