-- What becomes of the page while a script is played.
--
-- What is said goes onto a page of 4,096 octets on its way to the target. The page goes out once it is full, before
-- more is read, and at the end; so nothing stands on it where a read fails.
use Rattle.std.specs.Prelude.{◌≡◌, ℕ, List, [], Bool, true, false, Option, Result, Err}
use Rattle.lapd_transcript.specs.Streams.{Output, IsPut, IsStuck}
use Rattle.lapd_script.specs.declared.faults.PlayFault.{PlayFault}
use Rattle.lapd_script.specs.declared.faults.PlayFault.TheVariants.{Read, Write}
use Rattle.lapd_script.specs.declared.lines.ScriptLines.{ScriptLines}
use Rattle.lapd_script.specs.ScriptLines.{Advances}

-- Some text has been put; a read fails only where nothing is left on the page; or a write has failed.
abbrev pub PutsSome : {A : Type 0} → Result A PlayFault → Output → Output → Type 0
PutsSome (Err Read) old new = (new.page ≡ []) × ((text : List ℕ) × IsPut old new text)
PutsSome (Err Write) old new = (text : List ℕ) × IsStuck old new text
PutsSome _ old new = (text : List ℕ) × IsPut old new text

-- A read or a write failed: then nothing more goes out.
abbrev pub is_cut : Result Unit PlayFault → Bool
is_cut (Err Read) = true
is_cut (Err Write) = true
is_cut _ = false

-- The page has gone out where more had to be read, and no text was put.
abbrev pub PutsNone : {A : Type 0} → Result A PlayFault → Output → Output → Type 0
PutsNone (Err Read) old new = (new.page ≡ []) × IsPut old new []
PutsNone (Err Write) old new = IsStuck old new []
PutsNone _ old new = IsPut old new []

-- The next line, or why there is none, unless a write has failed.
abbrev pub Reaches : Result Bool PlayFault → ScriptLines → ScriptLines → Option (List ℕ) → List ℕ → Type 0
Reaches (Err Write) old new remaining text = Unit
Reaches result old new remaining text = Advances result old new remaining text
