-- Unit data is read.
use Rattle.lapd_line.proofs.Vocabulary.{◌≡◌, ℕ, ◌+◌, ◌<◌, ◌≤◌, List, [], ◌∷◌, ◌++◌, length, refl, sym, ap, subst, ◌∙◌, arith, length-append, Owned, Holds, Store, used_slots, with_contents, QueuedUnit, UnitData, UnitRing, SameLimits, All, All-nil, All-cons, All-head, All-tail}
use Rattle.std.proofs.lemmas.List.Elements.{All-push}
use Rattle.std.specs.Prelude.{flat_map}
use Rattle.std.specs.FinMap as finmap
use Rattle.std.proofs.lemmas.List.Sorted.{IsPermutation-refl}
use Rattle.lapd_image.specs.Numbers.{contents}
use Rattle.lapd_image.specs.Reads.{IsReadAs}
use Rattle.lapd_line.specs.ImageParts.{IsSavedUnit, AreSavedUnits, UnitsStand, UnitComes, RestoresUnit, RestoresUnits, HasNoUnit, HasNoUnits}
use Rattle.lapd_store.specs.Store.{IsFree}
use Rattle.lapd_store.proofs.Ownership.{Holds-put, used_slots-held}
use Rattle.model_line.specs.Image.{unit}
use Rattle.model_line.proofs.ImageRead.{unit-read}
use Rattle.lapd_image.proofs.Reading.{tails, Reads, contents-read}
use Rattle.lapd_image.proofs.ReadLists.{IsKept, read-more, list-none}
use Rattle.lapd_line.proofs.UnitSteps.{for_newest, newest_held}

-- a shelf holds what it holds
pub held : (s : Store) → Holds s (finmap.entries s.contents)
held s = record { entries = IsPermutation-refl (finmap.entries s.contents) }

-- one slot more is in use
pub used_more : (s t : Store) (slot : ℕ) (octets : List ℕ) → IsFree s slot → t ≡ with_contents s slot octets → used_slots t ≡ used_slots s + 1
used_more s t slot octets free stored =
    let before = used_slots-held (finmap.entries s.contents) (held s) in
    let after = used_slots-held ((slot, octets) ∷ finmap.entries s.contents) (Holds-put slot octets (finmap.entries s.contents) free stored (held s)) in
    omega (arith, before, after)

-- one more waits, whose contents were put in a slot that was free
pub comes : {s t : Store} {old new : List QueuedUnit} (u : QueuedUnit) (d : UnitData) → u.service ≡ d.service → u.tei ≡ d.tei → IsFree s u.slot → t ≡ with_contents s u.slot d.contents → new ≡ old ++ u ∷ []
    → UnitComes d old s new t
comes {s} {t} {old} u d service tei free stored is =
    subst (λ l. UnitComes d old s l t) (sym is) (record {
      stand = λ others units st. record {
        addressed = for_newest old units u d st.addressed service tei;
        held = newest_held s t old units u d others st.addressed free stored st.held;
      };
      used = used_more s t u.slot d.contents free stored;
      waiting = omega (arith, length-append old (u ∷ []));
    })

pub unit_read : (n201 : ℕ) → n201 < 65536 → Reads (IsSavedUnit n201) (λ (u v : UnitData). u ≡ v) unit
unit_read n201 few u v r s saved also e = unit-read u v r s (omega (arith, few, saved.size)) (omega (arith, few, also.size)) e

-- Contents that are too long are no unit data's.
pub too_long : {n201 octet : ℕ} {front mid : List ℕ} (octets rest : List ℕ) (u : UnitData) (more : List ℕ) → n201 < 65536 → front ≡ octet ∷ mid → mid ≡ contents octets ++ rest → length octets < 65536
    → n201 < length octets → IsSavedUnit n201 u → front ≡ unit u ++ more → ⊥
too_long octets rest u more few first then small long saved e =
    let size = ap (λ (l : List ℕ). length l) (contents-read octets u.contents rest more small (omega (arith, few, saved.size)) (sym then ∙ tails (sym first ∙ e))).0 in
    omega (arith, size, long, saved.size)

-- Unit data that may be saved, for whose contents there is room.
pub record AreGood (n201 most slots used : ℕ) (units : List UnitData) : Type 0 where
  pub saved : AreSavedUnits n201 most units
  pub room : used + length units ≤ slots

all_front : (n201 : ℕ) (xs ys : List UnitData) → All (IsSavedUnit n201) (xs ++ ys) → All (IsSavedUnit n201) xs
all_front n201 [] ys all = All-nil (IsSavedUnit n201)
all_front n201 (x ∷ xs) ys all =
    All-cons (IsSavedUnit n201) x xs (All-head (IsSavedUnit n201) x (xs ++ ys) all) (all_front n201 xs ys (All-tail (IsSavedUnit n201) x (xs ++ ys) all))

good_front : (n201 most slots used : ℕ) (xs ys : List UnitData) → AreGood n201 most slots used (xs ++ ys) → AreGood n201 most slots used xs
good_front n201 most slots used xs ys good =
    let size = length-append xs ys in
    record {
      saved = record { each = all_front n201 xs ys good.saved.each; few = omega (arith, size, good.saved.few) };
      room = omega (arith, size, good.room);
    }

kept : (n201 most slots used : ℕ) → IsKept (IsSavedUnit n201) (AreGood n201 most slots used)
kept n201 most slots used = record { each = λ all good. good.saved.each; front = good_front n201 most slots used }

last_saved : {n201 : ℕ} (u : UnitData) (units : List UnitData) → All (IsSavedUnit n201) (units ++ u ∷ []) → IsSavedUnit n201 u
last_saved {n201} u [] all = All-head (IsSavedUnit n201) u [] all
last_saved {n201} u (x ∷ units) all = last_saved u units (All-tail (IsSavedUnit n201) x (units ++ u ∷ []) all)

-- So many were read, and wait.
pub record UnitsSoFar (n201 slots : ℕ) (front rest : List ℕ) (old : UnitRing) (s : Store) (count : ℕ) (new : UnitRing) (t : Store) : Type 0 where
  pub units : List UnitData
  pub read : IsReadAs (flat_map unit) (AreGood n201 old.capacity slots (used_slots s)) units front rest
  pub many : length units ≡ count
  pub stand : (others : List Owned) → Holds s others → UnitsStand new.waiting t others units
  pub waiting : length new.waiting ≡ count
  pub capacity : new.capacity ≡ old.capacity
  pub used : used_slots t ≡ used_slots s + count
  pub within : used_slots t ≤ slots
  pub limits : SameLimits s t

pub none_yet : {n201 slots : ℕ} {front : List ℕ} {ring : UnitRing} {s : Store} → ring.waiting ≡ [] → used_slots s ≤ slots → UnitsSoFar n201 slots front front ring s 0 ring s
none_yet {n201} {ring = ring} {s} empty within = record {
  units = [];
  read = record { saved = record { saved = record { each = All-nil (IsSavedUnit n201); few = omega arith }; room = omega (arith, within) }; octets = refl };
  many = refl;
  stand = λ others holds. subst (λ l. UnitsStand l s others []) (sym empty) (record { addressed = tt; held = holds });
  waiting = ap (λ l. length l) empty;
  capacity = refl;
  used = omega arith;
  within = within;
  limits = record { slots = refl; width = refl };
}

pub one_more : {n201 slots count : ℕ} {front mid rest : List ℕ} {old ring new : UnitRing} {s t u : Store} → n201 < 65536 → UnitsSoFar n201 slots front mid old s count ring t → count < old.capacity
    → RestoresUnit n201 mid rest ring.waiting t new.waiting u → new.capacity ≡ ring.capacity → SameLimits t u → used_slots u ≤ slots
    → UnitsSoFar n201 slots front rest old s (count + 1) new u
one_more {n201} {slots} {old = old} {s = s} low before few (x, read, comes) capacity limits within =
    let size = length-append before.units (x ∷ []) in
    let good : AreGood n201 old.capacity slots (used_slots s) (before.units ++ x ∷ []) = record {
      saved = record { each = All-push (IsSavedUnit n201) before.units x before.read.saved.saved.each read.saved; few = omega (arith, size, before.many, few) };
      room = omega (arith, size, before.used, before.many, comes.used, within);
    } in
    record {
      units = before.units ++ x ∷ [];
      read = read-more unit (IsSavedUnit n201) (unit_read n201 low) (AreGood n201 old.capacity slots (used_slots s)) (kept n201 old.capacity slots (used_slots s)) before.units before.read (record { saved = good; octets = read.octets });
      many = omega (arith, size, before.many);
      stand = λ others holds. comes.stand others before.units (before.stand others holds);
      waiting = omega (arith, comes.waiting, before.waiting);
      capacity = capacity ∙ before.capacity;
      used = omega (arith, comes.used, before.used);
      within = within;
      limits = record { slots = limits.slots ∙ before.limits.slots; width = limits.width ∙ before.limits.width };
    }

-- No more is read.
pub no_more : {n201 slots count total : ℕ} {all front mid : List ℕ} {old ring : UnitRing} {s t : Store} → n201 < 65536 → all ≡ total ∷ front → UnitsSoFar n201 slots front mid old s count ring t → count < total
    → HasNoUnit n201 slots mid t → HasNoUnits n201 old.capacity slots all s
no_more {n201} {slots} {old = old} {s = s} low counted so_far more none = λ units rest saved room e.
    list-none unit (IsSavedUnit n201) (unit_read n201 low) (AreGood n201 old.capacity slots (used_slots s)) (kept n201 old.capacity slots (used_slots s)) so_far.units counted (omega (arith, so_far.many, more)) so_far.read
    (λ u others good here.
    let size = length-append so_far.units (u ∷ []) in
    none u others (last_saved u so_far.units good.saved.each) (omega (arith, size, good.room, so_far.used, so_far.many)) here)
    units rest (record { saved = saved; room = room }) e

-- All are read.
pub all_read : {n201 slots count total : ℕ} {all front rest : List ℕ} {old ring : UnitRing} {s t : Store} → all ≡ total ∷ front → UnitsSoFar n201 slots front rest old s count ring t → count ≡ total
    → RestoresUnits n201 old.capacity all rest s ring.waiting t
all_read counted so_far same = (
  so_far.units,
  record { saved = so_far.read.saved.saved; octets = counted ∙ (λ i. (sym same ∙ sym so_far.many) i ∷ so_far.read.octets i) },
  so_far.stand,
)
