-- What holds of TEI management at all times, from an empty table on.
use Rattle.std.specs.Prelude.{◌≡◌, ℕ, ◌≤◌, ◌==◌, Bool, true, false, List, [], length, get_or, All, Option, Some, None, IfSome}
use Rattle.std.specs.List.{IsDistinct, list_any}
use Rattle.lapd_frame.specs.declared.readings.Reading.{Reading}
use Rattle.lapd_frame.specs.declared.readings.Reading.TheVariants.{Profile, AnnexB}
use Rattle.model_teis.specs.network.Messages.{Message, action_of}
use Rattle.model_teis.specs.Table.{Places, is_on, IsSoundTable}
use Rattle.model_teis.specs.network.Machine.{Management, Remembered, Check, Period, Settling, is_due}

-- At most four assignments are remembered. None has the Ri or the TEI of another, and each TEI is on the line.
abbrev pub same_ri : Remembered → Remembered → Bool
same_ri r other = r.ri == other.ri

abbrev pub same_tei : Remembered → Remembered → Bool
same_tei r other = r.tei == other.tei

pub record IsSoundMemory (places : Places) (remembered : List Remembered) : Type 0 where
  pub few : length remembered ≤ 4
  pub one_ri : IsDistinct same_ri remembered
  pub one_tei : IsDistinct same_tei remembered
  pub on_line : All (λ r. is_on r.tei places ≡ true) remembered

-- A check settles only by annex B, and has no response then.
abbrev pub MayBeIn : Reading → Check → Period → Type 0
MayBeIn reading check Settling = (reading ≡ AnnexB) × (check.first ≡ 0) × (check.second ≡ 0)
MayBeIn reading check period = Unit {0}

-- A check is of a TEI that is on the line, and has at most one response in each period: the second ends it.
pub record IsSoundCheck (reading : Reading) (places : Places) (check : Check) : Type 0 where
  pub on_line : is_on check.tei places ≡ true
  pub first : check.first ≤ 1
  pub second : check.second ≤ 1
  pub settled : MayBeIn reading check check.period

-- A check is due only while another runs, and only of a TEI on the line that is not under that check.
abbrev pub MayBeDue : Option ℕ → Option Check → Type 0
MayBeDue (Some tei) (Some own) = (own.tei == tei) ≡ false
MayBeDue tei check = ⊥

pub record AreSoundChecks (places : Places) (check : Option Check) (to_check : List Bool) : Type 0 where
  pub each : length to_check ≡ length places
  pub due : (i : ℕ) → get_or to_check i false ≡ true → MayBeDue (get_or places i None) check

-- In the profile no check is due, and by annex B no assignment is remembered.
abbrev pub IsAsRead : Reading → List Remembered → List Bool → Type 0
IsAsRead Profile remembered to_check = list_any is_due to_check ≡ false
IsAsRead AnnexB remembered to_check = remembered ≡ []

-- At most four messages wait, and each names a TEI or the group.
pub record IsSoundQueue (waiting : List Message) : Type 0 where
  pub few : length waiting ≤ 4
  pub actions : All (λ message. action_of message ≤ 127) waiting

pub record IsSound (m : Management) : Type 0 where
  pub table : IsSoundTable m.places
  pub memory : IsSoundMemory m.places m.remembered
  pub checked : IfSome m.check (IsSoundCheck m.reading m.places)
  pub due : AreSoundChecks m.places m.check m.to_check
  pub queue : IsSoundQueue m.waiting
  pub read : IsAsRead m.reading m.remembered m.to_check
