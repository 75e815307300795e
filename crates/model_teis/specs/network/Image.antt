-- TEI management of the network's side in an image of its card.
use Rattle.std.specs.Prelude.{◌≡◌, ◌<◌, ◌||◌, ℕ, Bool, List, [], ◌∷◌, ◌++◌, length, All, Option, None, Some}
use Rattle.lapd_frame.specs.declared.readings.Reading.{Reading}
use Rattle.lapd_image.specs.Numbers.{number, list_of}
use Rattle.model_teis.specs.network.Machine.{Management}
use Rattle.model_teis.specs.network.Messages.{Message, information_of}
use Rattle.model_teis.specs.network.Sound.{AreSoundChecks, IsAsRead, IsSound, IsSoundMemory, IsSoundQueue, same_ri, same_tei}
use Rattle.model_teis.specs.Table.{Places}
use Rattle.model_teis.specs.TableImage.{table}
use Rattle.model_teis.specs.declared.network.check.Check.{Check}
use Rattle.model_teis.specs.declared.network.check.Period.{Period}
use Rattle.model_teis.specs.declared.network.check.Period.TheVariants.{First, Second, Settling}
use Rattle.model_teis.specs.declared.network.remembered.Remembered.{Remembered}
use Rattle.model_bits.specs.Bits.{number_of}
use Rattle.model_bits.specs.StuffingLaws.{AreOctets}

-- An assignment that is remembered: Ri in two octets, and the TEI.
abbrev pub remembered : Remembered → List ℕ
remembered r = number 2 r.ri ++ r.tei ∷ []

-- The check that runs: 0 if none does. Otherwise its period, 1 or 2, or 3 while it settles, the TEI, and how many responses
-- came in each period.
abbrev pub period_number : Period → ℕ
period_number First = 1
period_number Second = 2
period_number Settling = 3

abbrev pub check : Option Check → List ℕ
check None = 0 ∷ []
check (Some c) = period_number c.period ∷ c.tei ∷ c.first ∷ c.second ∷ []

-- In one octet which checks are due, by their places from bit 1 on.
abbrev pub due : List Bool → List ℕ
due to_check = number_of to_check ∷ []

-- Of the network's side, and of a trunk's end, beside the table: what is remembered; the check; which checks are due; and the
-- messages that wait, each by the five octets of its information field (Q.921 clause 5.3.6).
abbrev pub management : Management → List ℕ
management m = list_of remembered m.remembered ++ (check m.check ++ (due m.to_check ++ list_of information_of m.waiting))

-- The table, and the rest.
abbrev pub image : Management → List ℕ
image m = table m.places ++ management m

-- Ri of an assignment has 16 bits, and the information field of a message is octets.
abbrev pub HasRi : Remembered → Type 0
HasRi r = r.ri < 65536

abbrev pub IsOfOctets : Message → Type 0
IsOfOctets message = AreOctets (information_of message)

-- What may be saved: all that is remembered, and all messages that wait, are so.
pub record IsSaved (m : Management) : Type 0 where
  pub sound : IsSound m
  pub remembered : All HasRi m.remembered
  pub messages : All IsOfOctets m.waiting

-- Of a table of so many places, read in this way.
pub record IsSavedOf (like m : Management) : Type 0 where
  pub saved : IsSaved m
  pub reading : m.reading ≡ like.reading
  pub places : length m.places ≡ length like.places

-- What may be remembered beside such a table, and by a reading.
pub record IsMemory (places : Places) (all : List Remembered) : Type 0 where
  pub sound : IsSoundMemory places all
  pub numbers : All HasRi all

pub record IsMemoryOf (reading : Reading) (places : Places) (all : List Remembered) : Type 0 where
  pub memory : IsMemory places all
  pub read : IsAsRead reading all []

-- Another assignment has the Ri or the TEI of this one.
abbrev pub shares : Remembered → Remembered → Bool
shares r other = same_ri other r || same_tei other r

-- Which checks may be due beside such a table and the check that runs, by a reading.
pub record IsDueOf (reading : Reading) (places : Places) (check : Option Check) (to_check : List Bool) : Type 0 where
  pub sound : AreSoundChecks places check to_check
  pub read : IsAsRead reading [] to_check

-- Which messages may wait.
pub record IsQueue (waiting : List Message) : Type 0 where
  pub sound : IsSoundQueue waiting
  pub octets : All IsOfOctets waiting
