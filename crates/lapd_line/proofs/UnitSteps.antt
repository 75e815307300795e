-- Unit data that is asked to be sent: why it is refused, and where it waits.
use Rattle.lapd_line.proofs.Vocabulary.{places_of, ◌≡◌, ℕ, ◌≤◌, ◌<◌, ◌==◌, ◌&&◌, ◌||◌, Bool, true, false, not, nat_lt, nat_le, cond, List, [], ◌∷◌, ◌++◌, length, Option, Some, None, refl, sym, ap, subst, ◌∙◌, arith, ltb-false, leb-false, map-append, length-map, Refusal, BadTei, NoLink, TooLong, QueueFull, PoolFull, Service, Owned, Holds, pairs_of, Store, SameLimits, with_contents, used_slots}
use Rattle.lapd_line.proofs.Vocabulary.{Keeps-put}
use Rattle.lapd_line.proofs.Vocabulary.{Places, is_on, place_of, place_of-is, is_on-at, Config, nothing, Line, UnitData, at_units, of_aim, refusal, unit_contents, last_unit_tei, IsProper, aim_sound, unit_tei, LinkLayer, BareReport, QueuedUnit, LayerStands, Standing, Serves, always, told_in, UnitRing, AreFor, messages_of, unit_pairs, slot_of, with_newest}
use Rattle.std.specs.Option.{is_some}
use Rattle.lapd_store.specs.Store.{IsFree}
use Rattle.model_line.specs.Request as asked
use Rattle.lapd_line.specs.Units.{slots_of}
use Rattle.lapd_line.proofs.LayerRequests.{off_line}
use Rattle.lapd_line.proofs.LayerSteps.{stands_as}
use Rattle.lapd_line.proofs.PullTakesUnits.{as_many, beside_units}

-- a TEI is on the line exactly where it has a place
pub has_place : (places : Places) (tei : ℕ) → is_some (place_of tei places) ≡ is_on tei places
has_place places tei = go (place_of tei places) refl
  where
    go : (o : Option ℕ) → place_of tei places ≡ o → is_some o ≡ is_on tei places
    go None is = sym (off_line places tei is)
    go (Some place) is = sym (is_on-at places place tei (place_of-is places tei place is).1)

-- a row of refusals that does not hold, and what comes after it
row_passed : (b : Bool) (why : Refusal) (rest : Option Refusal) → cond b (Some why) rest ≡ None → (b ≡ false) × (rest ≡ None)
row_passed b why rest e = grind arith

-- an answer that stands after it is the answer of all
row_passes : {answer rest : Option Refusal} (b : Bool) (why : Refusal) → b ≡ false → answer ≡ rest → answer ≡ cond b (Some why) rest
row_passes {answer} {rest} b why is same = same ∙ sym (ap (λ t. cond t (Some why) rest) is)

-- neither of two is that not one of them is
neither : (a b : Bool) → (not a && not b) ≡ not (a || b)
neither a b = grind arith

-- as many wait as the machine has
pub waiting : (e : LinkLayer) (s : Store) (others : List Owned) (m : Line) → LayerStands e s others m → length e.units.waiting ≡ length m.units
waiting e s others m st = sym (length-map e.units.waiting slot_of) ∙ as_many e.units.waiting m.units st.addressed ∙ length-map m.units unit_contents

-- No row before those for room holds: then these two are the answer.
pub room_is_left : (e : LinkLayer) (s : Store) (others : List Owned) (m : Line) (service : Service) (tei octets : ℕ) (contents : List ℕ) (full : Bool) (answer : Option Refusal)
    → LayerStands e s others m → length contents ≡ octets → nat_lt (last_unit_tei e.config.side) tei ≡ false → ((tei == 127) || is_on tei (places_of e.teis)) ≡ true → nat_lt e.config.n201 octets ≡ false
    → answer ≡ cond (nat_le e.config.unit_queue (length e.units.waiting)) (Some QueueFull) (cond full (Some PoolFull) None)
    → answer ≡ refusal e.config full (asked.Unit service tei contents) m
room_is_left e s others m service tei octets contents full answer st size low found short is =
    let nobody : (not (tei == 127) && not (is_on tei m.management.places)) ≡ false =
    neither (tei == 127) (is_on tei m.management.places) ∙ ap (λ t. not ((tei == 127) || is_on tei t.places)) st.management ∙ ap not found in
    row_passes (nat_lt (last_unit_tei e.config.side) tei) BadTei low
    (row_passes (not (tei == 127) && not (is_on tei m.management.places)) NoLink nobody
    (row_passes (nat_lt e.config.n201 (length contents)) TooLong (ap (nat_lt e.config.n201) size ∙ short)
    (is ∙ ap (λ n. cond (nat_le e.config.unit_queue n) (Some QueueFull) (cond full (Some PoolFull) None)) (waiting e s others m st))))

-- A place in the queue and on the shelf for so many octets.
pub record HasPlace (e : LinkLayer) (s : Store) (octets : ℕ) : Type 0 where
  pub size : octets ≤ s.width
  pub ring : length e.units.waiting < e.units.capacity
  pub slot : used_slots s < s.slots

-- unit data that is not refused is proper for the line, and the pool is not full
granted : (c : Config) (full : Bool) (service : Service) (tei : ℕ) (contents : List ℕ) (m : Line) → refusal c full (asked.Unit service tei contents) m ≡ None
    → IsProper c m (at_units (record { service = service; tei = tei; contents = contents })) × (full ≡ false)
granted c full service tei contents m e = grind (arith, row_passed, unit_tei, ltb-false, leb-false)

-- the answer of the code is that of the machine, whatever the contents of this length
pub refused_so : (e : LinkLayer) (s : Store) (service : Service) (tei : ℕ) (contents : List ℕ) (slots used : ℕ) (answer : Option Refusal) → used ≡ used_slots s
    → ((store : Store) (others : List Owned) (m : Line) (service : Service) (info : List ℕ) → LayerStands e store others m → length info ≡ length contents
    → answer ≡ refusal e.config (nat_le slots used) (asked.Unit service tei info) m)
    → (others : List Owned) (m : Line) → LayerStands e s others m → refusal e.config (nat_le slots (used_slots s)) (asked.Unit service tei contents) m ≡ answer
refused_so e s service tei contents slots used answer count h = λ others m st.
    ap (λ n. refusal e.config (nat_le slots n) (asked.Unit service tei contents) m) (sym count) ∙ sym (h s others m service contents st refl)

-- so there is a place for it
pub placed : (e : LinkLayer) (s : Store) (slots : ℕ) (service : Service) (tei : ℕ) (contents : List ℕ) → Standing e s → slots ≤ s.slots
    → ((others : List Owned) (m : Line) → LayerStands e s others m → refusal e.config (nat_le slots (used_slots s)) (asked.Unit service tei contents) m ≡ None)
    → HasPlace e s (length contents)
placed e s slots service tei contents (others, m, st) within none =
    let (proper, free) = granted e.config (nat_le slots (used_slots s)) service tei contents m (none others m st) in
    record {
      size = omega (arith, proper.0.size, st.wide);
      ring = omega (arith, proper.1, waiting e s others m st, st.capacity);
      slot = omega (arith, leb-false slots (used_slots s) free, within);
    }

-- one more at the end, for the same terminals
pub for_newest : (us : List QueuedUnit) (ds : List UnitData) (u : QueuedUnit) (d : UnitData) → AreFor us ds → u.service ≡ d.service → u.tei ≡ d.tei → AreFor (us ++ u ∷ []) (ds ++ d ∷ [])
for_newest [] [] u d same service tei = (service, tei, tt)
for_newest [] (x ∷ ds) u d same service tei = absurd same
for_newest (x ∷ us) [] u d same service tei = absurd same
for_newest (x ∷ us) (y ∷ ds) u d same service tei = (same.0, same.1, for_newest us ds u d same.2 service tei)

-- its contents were put in a slot that was free
pub newest_held : (s t : Store) (us : List QueuedUnit) (ds : List UnitData) (u : QueuedUnit) (d : UnitData) (rest : List Owned) → AreFor us ds → IsFree s u.slot → t ≡ with_contents s u.slot d.contents
    → Holds s (unit_pairs us ds ++ rest) → Holds t (unit_pairs (us ++ u ∷ []) (ds ++ d ∷ []) ++ rest)
newest_held s t us ds u d rest same free stored held =
    let kept = Keeps-put (slots_of us) (messages_of ds) rest u.slot d.contents free stored (record { lengths = as_many us ds same; held = held }) in
    subst (λ l. Holds t (pairs_of l (messages_of (ds ++ d ∷ [])) ++ rest)) (sym (map-append slot_of us (u ∷ [])))
    (subst (λ l. Holds t (pairs_of (slots_of us ++ u.slot ∷ []) l ++ rest)) (sym (map-append unit_contents ds (d ∷ []))) kept.held)

-- with one more that waits
with_unit : (e : LinkLayer) (s t : Store) (others : List Owned) (m : Line) (u : QueuedUnit) (d : UnitData) → LayerStands e s others m → u.service ≡ d.service → u.tei ≡ d.tei
    → IsFree s u.slot → t ≡ with_contents s u.slot d.contents → IsProper e.config m (at_units d)
    → LayerStands (record e { units = with_newest u e.units }) t others (of_aim e.config (at_units d) m).line
with_unit e s t others m u d st service tei free stored proper =
    let part = beside_units e s others m st in
    stands_as st e.teis (with_newest u e.units) t others (of_aim e.config (at_units d) m).line (refl, refl, refl, refl) (subst (λ x. e.config.n201 ≤ x.width) (sym stored) st.wide)
    (aim_sound e.config st.range m (at_units d) st.sound proper) (st.management, st.own, st.kind) (for_newest e.units.waiting m.units u d st.addressed service tei)
    (part.back t (unit_pairs (e.units.waiting ++ u ∷ []) (m.units ++ d ∷ [])) (newest_held s t e.units.waiting m.units u d part.rest st.addressed free stored part.held))

-- and the entities have served it
pub unit_serves : (e : LinkLayer) (s t : Store) (ring : UnitRing) (slots : ℕ) (service : Service) (tei slot : ℕ) (contents : List ℕ) (outcome : BareReport)
    → ((others : List Owned) (m : Line) → LayerStands e s others m → refusal e.config (nat_le slots (used_slots s)) (asked.Unit service tei contents) m ≡ None)
    → IsFree s slot → t ≡ with_contents s slot contents → SameLimits s t → ring ≡ with_newest (record { service = service; tei = tei; slot = slot }) e.units → told_in [] outcome ≡ nothing
    → Serves (always (at_units (record { service = service; tei = tei; contents = contents }))) [] e s (record e { units = ring }) t outcome
unit_serves e s t ring slots service tei slot contents outcome none free stored limits pushed told =
    let d : UnitData = record { service = service; tei = tei; contents = contents } in
    let u : QueuedUnit = record { service = service; tei = tei; slot = slot } in
    record {
      config = refl;
      limits = limits;
      stands = λ others m st.
          subst (λ r. LayerStands (record e { units = r }) t others (of_aim e.config (at_units d) m).line) (sym pushed)
          (with_unit e s t others m u d st refl refl free stored (granted e.config (nat_le slots (used_slots s)) service tei contents m (none others m st)).0);
      told = λ others m st. told;
    }
