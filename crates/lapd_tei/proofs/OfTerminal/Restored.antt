-- TEI management of a terminal is read part by part.
use Rattle.std.proofs.Common.{◌≡◌, ℕ, ◌<◌, List, ◌++◌, length, Option, refl, subst, ◌∙◌, append_assoc}
use Rattle.lapd_image.specs.Numbers.{number, list_of}
use Rattle.lapd_image.specs.Reads.{IsReadAs, HasNone}
use Rattle.lapd_image.proofs.Parts.{none-after, none-part}
use Rattle.lapd_image.proofs.Reading.{Reads, number-read, no_number}
use Rattle.model_teis.specs.TableImage.{IsTableOf, table}
use Rattle.model_teis.specs.Table.{Places}
use Rattle.lapd_tei.proofs.Restored.{table-reads}
use Rattle.model_teis.specs.terminal.Image.{IsSavedOf, beside_table, image, procedure}
use Rattle.model_teis.specs.terminal.Machine.{Terminal}
use Rattle.model_teis.specs.terminal.Messages.{information_of}
use Rattle.model_teis.specs.declared.terminal.procedure.Procedure.{Procedure}
use Rattle.model_teis.specs.declared.terminal.procedure.Procedure.TheVariants.{Asking, Verifying}
use Rattle.model_teis.proofs.OfTerminal.ImageRead.{HasNumber, procedure-read}
use Rattle.lapd_tei.specs.terminal.Saved.{MayRun, MayWait}
use Rattle.std.specs.Prelude.{IfSome, None, Some}

-- Each part is told from others.
abbrev IsNumber : ℕ → Type 0
IsNumber n = n < 65536

number-reads : Reads IsNumber (λ (n m : ℕ). n ≡ m) (number 2)
number-reads n m r s small also e = number-read 2 n m r s small also e

numbered : (places : Places) (now : Option Procedure) → MayRun places now → IfSome now HasNumber
numbered places None may = tt
numbered places (Some (Asking ri attempts)) may = may.0
numbered places (Some (Verifying tei attempts)) may = tt

procedure-reads : (places : Places) → Reads (MayRun places) (λ (p q : Option Procedure). p ≡ q) procedure
procedure-reads places p q r s may also e = procedure-read p q r s (numbered places p may) (numbered places q also) e

-- One that may be saved, with these parts; and what is left of its image after them.
abbrev With1 : Terminal → Places → Terminal → Type 0
With1 like places t = IsSavedOf like t × (t.places ≡ places)

abbrev With2 : Terminal → Places → ℕ → Terminal → Type 0
With2 like places n t = With1 like places t × (t.number ≡ n)

abbrev after1 : Terminal → List ℕ
after1 t = beside_table t.number t.procedure t.waiting

abbrev after2 : Terminal → List ℕ
after2 t = procedure t.procedure ++ list_of information_of t.waiting

abbrev after3 : Terminal → List ℕ
after3 t = list_of information_of t.waiting

-- If a part is not at the front, none of the whole is; and if it is, what is after it says whether one is.
module _ (like : Terminal) where
  kept1 : (t : Terminal) → IsSavedOf like t → IsTableOf like.places t.places
  kept1 t saved = record { sound = saved.saved.sound.table; size = saved.places }

  pub no_table : {front : List ℕ} → HasNone table (IsTableOf like.places) front → HasNone image (IsSavedOf like) front
  no_table none = none-part image (IsSavedOf like) (λ t. t.places) table after1 (IsTableOf like.places) (λ t. refl) kept1 none

  module _ (places : Places) (n : ℕ) where
    kept3 : (t : Terminal) → With2 like places n t → MayRun places t.procedure
    kept3 t with = subst (λ p. MayRun p t.procedure) with.0.1 with.0.0.saved.sound.runs

    waits : (now : Option Procedure) (t : Terminal) → With2 like places n t × (t.procedure ≡ now) → MayWait places now t.waiting
    waits now t with =
        subst (λ p. MayWait p now t.waiting) with.0.0.1
        (subst (λ own. MayWait t.places own t.waiting) with.1 (record { queue = with.0.0.0.saved.sound.queue; octets = with.0.0.0.saved.messages }))

  module _ (places : Places) {front r1 : List ℕ} (table_read : IsReadAs table (IsTableOf like.places) places front r1) where
    after_table : HasNone after1 (With1 like places) r1 → HasNone image (IsSavedOf like) front
    after_table none = none-after image (IsSavedOf like) (λ t. t.places) table after1 (IsTableOf like.places) (λ t. refl) kept1 (table-reads like.places) table_read none

    pub no_next : length r1 < 2 → HasNone image (IsSavedOf like) front
    no_next few = after_table (λ t rest with e. no_number 2 t.number (after2 t ++ rest) few (e ∙ append_assoc (number 2 t.number) (after2 t) rest))

    module _ (n : ℕ) {r2 : List ℕ} (small : n < 65536) (number_read : r1 ≡ number 2 n ++ r2) where
      after_number : HasNone after2 (With2 like places n) r2 → HasNone image (IsSavedOf like) front
      after_number none =
          after_table (none-after after1 (With1 like places) (λ t. t.number) (number 2) after2 IsNumber (λ t. refl) (λ t with. with.0.saved.sound.number) number-reads
          (record { saved = small; octets = number_read }) none)

      pub no_procedure : HasNone procedure (MayRun places) r2 → HasNone image (IsSavedOf like) front
      no_procedure none = after_number (none-part after2 (With2 like places n) (λ t. t.procedure) procedure after3 (MayRun places) (λ t. refl) (kept3 places n) none)

      pub no_queue : (now : Option Procedure) {r3 : List ℕ} → IsReadAs procedure (MayRun places) now r2 r3 → HasNone (list_of information_of) (MayWait places now) r3
          → HasNone image (IsSavedOf like) front
      no_queue now read none =
          after_number (none-after after2 (With2 like places n) (λ t. t.procedure) procedure after3 (MayRun places) (λ t. refl) (kept3 places n) (procedure-reads places) read
          (λ t rest with e. none t.waiting rest (waits places n now t with) e))
