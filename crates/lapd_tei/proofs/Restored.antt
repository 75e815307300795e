-- TEI management is read part by part, and as a whole.
use Rattle.std.proofs.Common.{◌≡◌, ℕ, List, [], ◌++◌, Option, Bool, refl, sym, ap, ◌∙◌, subst, append_assoc}
use Rattle.std.proofs.lemmas.List.{length-map}
use Rattle.std.specs.Prelude.{IfSome}
use Rattle.lapd_image.specs.Numbers.{list_of}
use Rattle.lapd_image.specs.Reads.{IsReadAs, HasNone}
use Rattle.lapd_image.proofs.Parts.{none-after, none-part}
use Rattle.lapd_image.proofs.Reading.{Reads, front-read, heads, list-read, tails}
use Rattle.model_teis.specs.TableImage.{IsTableOf, place, table}
use Rattle.model_teis.specs.network.Image.{HasRi, IsDueOf, IsMemoryOf, IsQueue, IsSavedOf, check, due, image, management, remembered}
use Rattle.model_teis.specs.network.Messages.{information_of}
use Rattle.model_teis.proofs.OfNetwork.ImageRead.{bits-read, check-read, places-read, remembered-read}
use Rattle.lapd_tei.proofs.Vocabulary.{AnnexB, Check, IsAsRead, IsSound, IsSoundCheck, IsSoundQueue, Management, Places, Profile, Reading, Remembered}

-- Each part is told from others.
pub table-reads : (like : Places) → Reads (IsTableOf like) (λ (x y : Places). x ≡ y) table
table-reads like x y r s one other e =
    let both = front-read (table x) (table y) r s (length-map x place ∙ one.size ∙ sym (length-map y place ∙ other.size)) e in
    (places-read x y one.sound.range other.sound.range both.0, both.1)

memory-reads : (reading : Reading) (places : Places) → Reads (IsMemoryOf reading places) (λ (x y : List Remembered). x ≡ y) (list_of remembered)
memory-reads reading places x y r s one other e = list-read HasRi remembered remembered-read x y r s one.memory.numbers other.memory.numbers e

check-reads : (reading : Reading) (places : Places) → Reads (λ now. IfSome now (IsSoundCheck reading places)) (λ (x y : Option Check). x ≡ y) check
check-reads reading places x y r s one other e = check-read x y r s tt tt e

due-reads : (reading : Reading) (places : Places) (now : Option Check) → Reads (IsDueOf reading places now) (λ (x y : List Bool). x ≡ y) due
due-reads reading places now x y r s one other e = (bits-read x y (one.sound.each ∙ sym other.sound.each) (heads e), tails e)

-- What is remembered is as the reading says, and so is which checks are due.
memory-as_read : (reading : Reading) (all : List Remembered) (to_check : List Bool) → IsAsRead reading all to_check → IsAsRead reading all []
memory-as_read Profile all to_check read = refl
memory-as_read AnnexB all to_check read = read

due-as_read : (reading : Reading) (all : List Remembered) (to_check : List Bool) → IsAsRead reading all to_check → IsAsRead reading [] to_check
due-as_read Profile all to_check read = read
due-as_read AnnexB all to_check read = refl

both-as_read : (reading : Reading) (all : List Remembered) (to_check : List Bool) → IsAsRead reading all [] → IsAsRead reading [] to_check → IsAsRead reading all to_check
both-as_read Profile all to_check memory read = read
both-as_read AnnexB all to_check memory read = memory

-- One that may be saved, with these parts.
abbrev With1 : Management → Places → Management → Type 0
With1 like p m = IsSavedOf like m × (m.places ≡ p)

abbrev With2 : Management → Places → List Remembered → Management → Type 0
With2 like p all m = With1 like p m × (m.remembered ≡ all)

abbrev With3 : Management → Places → List Remembered → Option Check → Management → Type 0
With3 like p all now m = With2 like p all m × (m.check ≡ now)

abbrev With4 : Management → Places → List Remembered → Option Check → List Bool → Management → Type 0
With4 like p all now to_check m = With3 like p all now m × (m.to_check ≡ to_check)

-- and what is left of its image after them
abbrev after2 : Management → List ℕ
after2 m = check m.check ++ (due m.to_check ++ list_of information_of m.waiting)

abbrev after3 : Management → List ℕ
after3 m = due m.to_check ++ list_of information_of m.waiting

abbrev after4 : Management → List ℕ
after4 m = list_of information_of m.waiting

kept1 : (like m : Management) → IsSavedOf like m → IsTableOf like.places m.places
kept1 like m saved = record { sound = saved.saved.sound.table; size = saved.places }

kept2 : (like : Management) (p : Places) (m : Management) → With1 like p m → IsMemoryOf like.reading p m.remembered
kept2 like p m with =
    let saved = with.0.saved in
    subst (λ x. IsMemoryOf x p m.remembered) with.0.reading
    (subst (λ x. IsMemoryOf m.reading x m.remembered) with.1
    (record { memory = record { sound = saved.sound.memory; numbers = saved.remembered }; read = memory-as_read m.reading m.remembered m.to_check saved.sound.read }))

kept3 : (like : Management) (p : Places) (all : List Remembered) (m : Management) → With2 like p all m → IfSome m.check (IsSoundCheck like.reading p)
kept3 like p all m with =
    subst (λ x. IfSome m.check (IsSoundCheck x p)) with.0.0.reading (subst (λ x. IfSome m.check (IsSoundCheck m.reading x)) with.0.1 with.0.0.saved.sound.checked)

kept4 : (like : Management) (p : Places) (all : List Remembered) (now : Option Check) (m : Management) → With3 like p all now m → IsDueOf like.reading p now m.to_check
kept4 like p all now m with =
    let saved = with.0.0.0.saved in
    subst (λ x. IsDueOf x p now m.to_check) with.0.0.0.reading
    (subst (λ x. IsDueOf m.reading x now m.to_check) with.0.0.1
    (subst (λ x. IsDueOf m.reading m.places x m.to_check) with.1
    (record { sound = saved.sound.due; read = due-as_read m.reading m.remembered m.to_check saved.sound.read })))

-- Where a part is not at the front, none of the whole is; and where a part is, what is after it says whether one is.
module _ (like : Management) where
  pub stop1 : {r0 : List ℕ} → HasNone table (IsTableOf like.places) r0 → HasNone image (IsSavedOf like) r0
  stop1 none = none-part image (IsSavedOf like) (λ m. m.places) table management (IsTableOf like.places) (λ m. refl) (kept1 like) none

  pub pass1 : {p : Places} {r0 r1 : List ℕ} → IsReadAs table (IsTableOf like.places) p r0 r1 → HasNone management (With1 like p) r1 → HasNone image (IsSavedOf like) r0
  pass1 read none = none-after image (IsSavedOf like) (λ m. m.places) table management (IsTableOf like.places) (λ m. refl) (kept1 like) (table-reads like.places) read none

  module _ (p : Places) where
    pub stop2 : {r1 : List ℕ} → HasNone (list_of remembered) (IsMemoryOf like.reading p) r1 → HasNone management (With1 like p) r1
    stop2 none = none-part management (With1 like p) (λ m. m.remembered) (list_of remembered) after2 (IsMemoryOf like.reading p) (λ m. refl) (kept2 like p) none

    pub pass2 : {all : List Remembered} {r1 r2 : List ℕ} → IsReadAs (list_of remembered) (IsMemoryOf like.reading p) all r1 r2 → HasNone after2 (With2 like p all) r2
        → HasNone management (With1 like p) r1
    pass2 read none =
        none-after management (With1 like p) (λ m. m.remembered) (list_of remembered) after2 (IsMemoryOf like.reading p) (λ m. refl) (kept2 like p) (memory-reads like.reading p) read none

    module _ (all : List Remembered) where
      pub stop3 : {r2 : List ℕ} → HasNone check (λ now. IfSome now (IsSoundCheck like.reading p)) r2 → HasNone after2 (With2 like p all) r2
      stop3 none = none-part after2 (With2 like p all) (λ m. m.check) check after3 (λ now. IfSome now (IsSoundCheck like.reading p)) (λ m. refl) (kept3 like p all) none

      pub pass3 : {now : Option Check} {r2 r3 : List ℕ} → IsReadAs check (λ now. IfSome now (IsSoundCheck like.reading p)) now r2 r3 → HasNone after3 (With3 like p all now) r3
          → HasNone after2 (With2 like p all) r2
      pass3 read none =
          none-after after2 (With2 like p all) (λ m. m.check) check after3 (λ now. IfSome now (IsSoundCheck like.reading p)) (λ m. refl) (kept3 like p all) (check-reads like.reading p) read none

      module _ (now : Option Check) where
        pub stop4 : {r3 : List ℕ} → HasNone due (IsDueOf like.reading p now) r3 → HasNone after3 (With3 like p all now) r3
        stop4 none = none-part after3 (With3 like p all now) (λ m. m.to_check) due after4 (IsDueOf like.reading p now) (λ m. refl) (kept4 like p all now) none

        pub pass4 : {to_check : List Bool} {r3 r4 : List ℕ} → IsReadAs due (IsDueOf like.reading p now) to_check r3 r4 → HasNone (list_of information_of) IsQueue r4
            → HasNone after3 (With3 like p all now) r3
        pass4 read none =
            none-after after3 (With3 like p all now) (λ m. m.to_check) due after4 (IsDueOf like.reading p now) (λ m. refl) (kept4 like p all now) (due-reads like.reading p now) read
            (λ m rest with e.
            let saved = with.0.0.0.0.saved in
            none m.waiting rest (record { sound = saved.sound.queue; octets = saved.messages }) e)

-- one part before the others
joined : (part others : List ℕ) {old mid : List ℕ} (new : List ℕ) → old ≡ part ++ mid → mid ≡ others ++ new → old ≡ (part ++ others) ++ new
joined part others new first then = first ∙ ap (λ (l : List ℕ). part ++ l) then ∙ sym (append_assoc part others new)

-- All parts are there: so is the whole.
module _ (like m : Management) (reading : m.reading ≡ like.reading) where
  pub sound-read : IsTableOf like.places m.places → IsMemoryOf like.reading m.places m.remembered → IfSome m.check (IsSoundCheck like.reading m.places)
      → IsDueOf like.reading m.places m.check m.to_check → IsSoundQueue m.waiting → IsSound m
  sound-read table memory check due queue = record {
    table = table.sound;
    memory = memory.memory.sound;
    checked = subst (λ r. IfSome m.check (IsSoundCheck r m.places)) (sym reading) check;
    due = due.sound;
    queue = queue;
    read = subst (λ r. IsAsRead r m.remembered m.to_check) (sym reading) (both-as_read like.reading m.remembered m.to_check memory.read due.read);
  }

  pub all-read : {r0 r1 r2 r3 r4 : List ℕ} (r5 : List ℕ) → IsReadAs table (IsTableOf like.places) m.places r0 r1 → IsReadAs (list_of remembered) (IsMemoryOf like.reading m.places) m.remembered r1 r2
      → IsReadAs check (λ now. IfSome now (IsSoundCheck like.reading m.places)) m.check r2 r3 → IsReadAs due (IsDueOf like.reading m.places m.check) m.to_check r3 r4
      → IsReadAs (list_of information_of) IsQueue m.waiting r4 r5 → IsReadAs image (IsSavedOf like) m r0 r5
  all-read r5 t r c d q = record {
    saved = record {
      saved = record { sound = sound-read t.saved r.saved c.saved d.saved q.saved.sound; remembered = r.saved.memory.numbers; messages = q.saved.octets };
      reading = reading;
      places = t.saved.size;
    };
    octets =
        joined (table m.places) (management m) r5 t.octets
        (joined (list_of remembered m.remembered) (after2 m) r5 r.octets
        (joined (check m.check) (after3 m) r5 c.octets (joined (due m.to_check) (after4 m) r5 d.octets q.octets)));
  }
