-- What is remembered is read, one assignment after the other.
use Rattle.lapd_tei.proofs.Vocabulary.{◌≡◌, ℕ, ◌<◌, ◌≤◌, ◌||◌, Bool, true, false, List, [], ◌∷◌, ◌++◌, length, length-append, ap, refl, sym, ◌∙◌, subst, arith, false≢true, list_any, All-append, All-cons, All-nil, AllByRecursion, IsDistinct, Places, Remembered, is_on, same_ri, same_tei, AnnexB, IsAsRead, Profile, Reading, by_reading}
use Rattle.std.proofs.Common.{append_assoc}
use Rattle.std.specs.Prelude.{flat_map}
use Rattle.lapd_image.specs.Numbers.{list_of, number}
use Rattle.lapd_image.specs.Reads.{HasNone, IsReadAs}
use Rattle.lapd_image.proofs.Reading.{no_number, number-read}
use Rattle.lapd_image.proofs.Parts.{none-narrower, none-other}
use Rattle.lapd_image.proofs.ReadLists.{All-front, All-last, IsKept, list-end, list-none, read-more, read-none}
use Rattle.model_teis.specs.network.Image.{HasRi, IsMemory, IsMemoryOf, remembered, shares}
use Rattle.model_teis.proofs.Lists.{IsDistinct-push}
use Rattle.model_teis.proofs.OfNetwork.ImageRead.{remembered-read}
use Rattle.model_teis.proofs.OfNetwork.SoundWords.{memory-empty}

-- Too few octets are left for Ri, or none for the TEI.
pub no_ri : {front : List ℕ} → length front < 2 → HasNone remembered HasRi front
no_ri short r rest few e = no_number 2 r.ri (r.tei ∷ rest) short (e ∙ append_assoc (number 2 r.ri) (r.tei ∷ []) rest)

pub no_tei : (ri : ℕ) {front left : List ℕ} → front ≡ number 2 ri ++ left → ri < 65536 → left ≡ [] → HasNone remembered HasRi front
no_tei ri {front} {left} read few cut r rest also e =
    let same = number-read 2 ri r.ri left (r.tei ∷ rest) few also (sym read ∙ e ∙ append_assoc (number 2 r.ri) (r.tei ∷ []) rest) in
    let size = ap length (sym cut ∙ same.1) in
    omega (arith, size)

-- Of assignments that are apart, those at the front are, and the last is apart from them.
module _ {X : Type 0} (same : X → X → Bool) where
  apart_front : (x : X) (xs ys : List X) → AllByRecursion (λ y. same x y ≡ false) (xs ++ ys) → AllByRecursion (λ y. same x y ≡ false) xs
  apart_front x [] ys all = tt
  apart_front x (z ∷ xs) ys all = (all.0, apart_front x xs ys all.1)

  apart_last : (x y : X) (xs : List X) → AllByRecursion (λ z. same x z ≡ false) (xs ++ y ∷ []) → same x y ≡ false
  apart_last x y [] all = all.0
  apart_last x y (z ∷ xs) all = apart_last x y xs all.1

  IsDistinct-front : (xs ys : List X) → IsDistinct same (xs ++ ys) → IsDistinct same xs
  unfolding IsDistinct
  IsDistinct-front [] ys apart = tt
  IsDistinct-front (x ∷ xs) ys apart = (apart_front x xs ys apart.0, IsDistinct-front xs ys apart.1)

  IsDistinct-last : (xs : List X) (y : X) → IsDistinct same (xs ++ y ∷ []) → AllByRecursion (λ x. same x y ≡ false) xs
  unfolding IsDistinct
  IsDistinct-last [] y apart = tt
  IsDistinct-last (x ∷ xs) y apart = (apart_last x y xs apart.0, IsDistinct-last xs y apart.1)

-- An assignment that may follow those that are remembered.
pub record IsNext (places : Places) (done : List Remembered) (r : Remembered) : Type 0 where
  pub on : is_on r.tei places ≡ true
  pub number : HasRi r
  pub alone : list_any (shares r) done ≡ false

neither : (a b : Bool) → (a || b) ≡ false → (a ≡ false) × (b ≡ false)
neither true b e = absurd (false≢true (sym e))
neither false b e = (refl, e)

alone-apart : (done : List Remembered) (r : Remembered) → list_any (shares r) done ≡ false
    → AllByRecursion (λ x. same_ri x r ≡ false) done × AllByRecursion (λ x. same_tei x r ≡ false) done
alone-apart [] r alone = (tt, tt)
alone-apart (x ∷ done) r alone =
    let parts = neither (shares r x) (list_any (shares r) done) alone in
    let one = neither (same_ri x r) (same_tei x r) parts.0 in
    let others = alone-apart done r parts.1 in
    ((one.0, others.0), (one.1, others.1))

apart-alone : (done : List Remembered) (r : Remembered) → AllByRecursion (λ x. same_ri x r ≡ false) done → AllByRecursion (λ x. same_tei x r ≡ false) done
    → list_any (shares r) done ≡ false
apart-alone [] r ri tei = refl
apart-alone (x ∷ done) r ri tei = rw (ri.0, tei.0) (apart-alone done r ri.1 tei.1)

pub memory-kept : (places : Places) → IsKept HasRi (IsMemory places)
memory-kept places = record {
  each = λ all memory. memory.numbers;
  front = λ xs ys memory. record {
    sound = record {
      few = omega (arith, memory.sound.few, length-append xs ys);
      one_ri = IsDistinct-front same_ri xs ys memory.sound.one_ri;
      one_tei = IsDistinct-front same_tei xs ys memory.sound.one_tei;
      on_line = All-front (λ r. is_on r.tei places ≡ true) xs ys memory.sound.on_line;
    };
    numbers = All-front HasRi xs ys memory.numbers;
  };
}

pub memory-pushed : (places : Places) (done : List Remembered) (r : Remembered) → length done < 4 → IsMemory places done → IsNext places done r → IsMemory places (done ++ r ∷ [])
memory-pushed places done r few memory next =
    let On : Remembered → Type 0 = λ x. is_on x.tei places ≡ true in
    let apart = alone-apart done r next.alone in
    record {
      sound = record {
        few = omega (arith, few, length-append done (r ∷ []));
        one_ri = IsDistinct-push same_ri done r memory.sound.one_ri apart.0;
        one_tei = IsDistinct-push same_tei done r memory.sound.one_tei apart.1;
        on_line = All-append On done (r ∷ []) memory.sound.on_line (All-cons On r [] next.on (All-nil On));
      };
      numbers = All-append HasRi done (r ∷ []) memory.numbers (All-cons HasRi r [] next.number (All-nil HasRi));
    }

pub memory-last : (places : Places) (done : List Remembered) (r : Remembered) → IsMemory places (done ++ r ∷ []) → IsNext places done r
memory-last places done r memory = record {
  on = All-last (λ x. is_on x.tei places ≡ true) done r memory.sound.on_line;
  number = All-last HasRi done r memory.numbers;
  alone = apart-alone done r (IsDistinct-last same_ri done r memory.sound.one_ri) (IsDistinct-last same_tei done r memory.sound.one_tei);
}

-- One that may not follow is refused.
pub next-refused : (places : Places) (done : List Remembered) (r : Remembered) {old new : List ℕ} → IsReadAs remembered HasRi r old new
    → (IsNext places done r → ⊥) → HasNone remembered (λ r. IsMemory places (done ++ r ∷ [])) old
next-refused places done r read bad =
    none-other remembered-read (λ x kept. (memory-last places done x kept).number) read (λ x kept same. bad (subst (IsNext places done) same (memory-last places done x kept)))

-- By the reading at most so many are remembered, and all that are so few.
pub memory-few : (reading : Reading) (places : Places) (all : List Remembered) → IsMemoryOf reading places all → length all ≤ by_reading reading 4 0
memory-few Profile places all kept = kept.memory.sound.few
memory-few AnnexB places all kept = let none = ap length kept.read in omega (arith, none)

pub most-four : (reading : Reading) → by_reading reading 4 0 ≤ 4
most-four Profile = omega arith
most-four AnnexB = omega arith

few-read : (reading : Reading) (all : List Remembered) → length all ≤ by_reading reading 4 0 → IsAsRead reading all []
few-read Profile all few = refl
few-read AnnexB [] few = refl
few-read AnnexB (r ∷ all) few = absurd (omega (arith, few))

-- the list as a whole
pub memory-begun : (places : Places) (front : List ℕ) (all : List Remembered) → all ≡ [] → IsReadAs (flat_map remembered) (IsMemory places) all front front
memory-begun places front all none =
    subst (λ r. IsReadAs (flat_map remembered) (IsMemory places) r front front) (sym none)
    (read-none remembered HasRi remembered-read (IsMemory places) (memory-kept places) front (record { sound = memory-empty places; numbers = All-nil HasRi }))

pub memory-more : (places : Places) {old now new : List ℕ} {r : Remembered} (done : List Remembered) → IsReadAs (flat_map remembered) (IsMemory places) done old now
    → IsReadAs remembered (λ r. IsMemory places (done ++ r ∷ [])) r now new → IsReadAs (flat_map remembered) (IsMemory places) (done ++ r ∷ []) old new
memory-more places done before one = read-more remembered HasRi remembered-read (IsMemory places) (memory-kept places) done before one

pub memory-whole : (reading : Reading) (places : Places) {front old new : List ℕ} {count : ℕ} (all : List Remembered) → front ≡ count ∷ old → length all ≡ count
    → count ≤ by_reading reading 4 0 → IsReadAs (flat_map remembered) (IsMemory places) all old new → IsReadAs (list_of remembered) (IsMemoryOf reading places) all front new
memory-whole reading places all counted size few read =
    let whole = list-end remembered HasRi remembered-read (IsMemory places) (memory-kept places) all counted size read in
    record { saved = record { memory = whole.saved; read = few-read reading all (omega (arith, size, few)) }; octets = whole.octets }

pub memory-none : (reading : Reading) (places : Places) {front old now : List ℕ} {count : ℕ} (done : List Remembered) → front ≡ count ∷ old → length done < count
    → IsReadAs (flat_map remembered) (IsMemory places) done old now → HasNone remembered (λ r. IsMemory places (done ++ r ∷ [])) now
    → HasNone (list_of remembered) (IsMemoryOf reading places) front
memory-none reading places done counted fewer before none =
    none-narrower (list_of remembered) (λ all kept. kept.memory)
    (list-none remembered HasRi remembered-read (IsMemory places) (memory-kept places) done counted fewer before none)
