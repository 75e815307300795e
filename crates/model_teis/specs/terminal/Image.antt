-- TEI management of a terminal in an image of its card.
use Rattle.std.specs.Prelude.{◌≡◌, ℕ, List, [], ◌∷◌, ◌++◌, length, map, All, Option, None, Some}
use Rattle.lapd_image.specs.Numbers.{number, list_of}
use Rattle.model_teis.specs.TableImage.{place}
use Rattle.model_teis.specs.terminal.Machine.{Terminal}
use Rattle.model_teis.specs.terminal.Messages.{Message, information_of}
use Rattle.model_teis.specs.terminal.Sound.{IsSound}
use Rattle.model_teis.specs.declared.terminal.procedure.Procedure.{Procedure}
use Rattle.model_teis.specs.declared.terminal.procedure.Procedure.TheVariants.{Asking, Verifying}
use Rattle.model_bits.specs.StuffingLaws.{AreOctets}

-- A terminal's procedure: 0 if none runs. Otherwise 1 if it asks for a TEI or 2 if it verifies one, and how many attempts
-- were made; then Ri in two octets, or the TEI.
abbrev pub procedure : Option Procedure → List ℕ
procedure None = 0 ∷ []
procedure (Some (Asking ri attempts)) = 1 ∷ attempts ∷ number 2 ri
procedure (Some (Verifying tei attempts)) = 2 ∷ attempts ∷ tei ∷ []

-- Beside the table: the next reference number in two octets; the procedure; and the messages that wait, the oldest first, each
-- by the five octets of its information field (Q.921 clause 5.3.6).
abbrev pub beside_table : ℕ → Option Procedure → List Message → List ℕ
beside_table next procedure_now waiting = number 2 next ++ (procedure procedure_now ++ list_of information_of waiting)

-- The places of the table, in one octet each, and the rest.
abbrev pub image : Terminal → List ℕ
image t = map place t.places ++ beside_table t.number t.procedure t.waiting

-- A message that may be saved: its information field is octets.
abbrev pub IsOfOctets : Message → Type 0
IsOfOctets message = AreOctets (information_of message)

-- What may be saved: so may the messages that wait.
pub record IsSaved (t : Terminal) : Type 0 where
  pub sound : IsSound t
  pub messages : All IsOfOctets t.waiting

-- Of a table of so many places, read in this way.
pub record IsSavedOf (like t : Terminal) : Type 0 where
  pub saved : IsSaved t
  pub reading : t.reading ≡ like.reading
  pub places : length t.places ≡ length like.places
