-- What a pull takes of the unit data that waits.
use Rattle.lapd_line.proofs.Vocabulary.{◌≡◌, ℕ, ◌≤◌, ◌<◌, List, [], ◌∷◌, ◌++◌, length, drop, slice_get, Some, None, option_map, true, false, refl, ap, sym, ◌∙◌, subst, arith, length-drop, All-head, All-drop, none-some, same_Some, Ui, Service, IsFrame, spelling, sapi_of, Owned, Holds, Keeps, Store, SameLimits, IsUsed, without, Part, second_part, Keeps-used, Keeps-at, Keeps-release, Config, Line}
use Rattle.lapd_line.proofs.Vocabulary.{UnitData, with_unit, unit_taken, IsUnitData, LinkLayer, QueuedUnit, LayerStands, links_pairs, AreFor, messages_of, unit_pairs, without_oldest, Loading, Loads, room_in, reference_in, HasTaken, Took, Takes, contents_of, own_side}
use Rattle.std.specs.Prelude.{All}
use Rattle.lapd_line.specs.Units.{slots_of}
use Rattle.lapd_line.proofs.LayerSteps.{stands_as}

-- as many wait as the machine has
pub as_many : (us : List QueuedUnit) (ds : List UnitData) → AreFor us ds → length (slots_of us) ≡ length (messages_of ds)
as_many [] [] h = refl
as_many [] (d ∷ ds) h = absurd h
as_many (u ∷ us) [] h = absurd h
as_many (u ∷ us) (d ∷ ds) (service, tei, rest) = omega (arith, as_many us ds rest)

-- The oldest, and that of the machine: its contents lie in its slot. And what is left, once the slot is free.
pub record Oldest (c : Config) (s : Store) (us : List QueuedUnit) (ds : List UnitData) (rest : List Owned) (u : QueuedUnit) : Type 0 where
  pub unit : UnitData
  pub is : slice_get ds 0 ≡ Some unit
  pub service : u.service ≡ unit.service
  pub tei : u.tei ≡ unit.tei
  pub fits : IsUnitData c unit
  pub used : IsUsed s u.slot
  pub contents : contents_of s u.slot ≡ Some unit.contents
  pub addressed : AreFor (drop 1 us) (drop 1 ds)
  pub released : (t : Store) → t ≡ without s u.slot → Holds t (unit_pairs (drop 1 us) (drop 1 ds) ++ rest)

oldest_of : (c : Config) (s : Store) (us : List QueuedUnit) (ds : List UnitData) (rest : List Owned) (u : QueuedUnit) → slice_get us 0 ≡ Some u
    → AreFor us ds → All (IsUnitData c) ds → Holds s (unit_pairs us ds ++ rest) → Oldest c s us ds rest u
oldest_of c s [] ds rest u is same all held = absurd (none-some u is)
oldest_of c s (x ∷ us) [] rest u is same all held = absurd same
oldest_of c s (x ∷ us) (d ∷ ds) rest u is (service, tei, same) all held =
    let kept : Keeps s (slots_of (x ∷ us)) (messages_of (d ∷ ds)) rest = record { lengths = omega (arith, as_many us ds same); held = held } in
    subst (Oldest c s (x ∷ us) (d ∷ ds) rest) (same_Some x u is) (record {
      unit = d;
      is = refl;
      service = service;
      tei = tei;
      fits = All-head (IsUnitData c) d ds all;
      used = Keeps-used (slots_of (x ∷ us)) (messages_of (d ∷ ds)) rest 0 x.slot refl kept;
      contents = Keeps-at (slots_of (x ∷ us)) (messages_of (d ∷ ds)) rest 0 x.slot refl kept;
      addressed = same;
      released = λ t free. (Keeps-release (slots_of (x ∷ us)) (messages_of (d ∷ ds)) rest x.slot refl free kept).held;
    })

-- the units of a line stand beside its links and what others own
abbrev pub beside_units : (e : LinkLayer) (s : Store) (others : List Owned) (m : Line) → LayerStands e s others m
    → Part s (unit_pairs e.units.waiting m.units) (λ new. (links_pairs e.links.items m.links ++ new) ++ others)
beside_units e s others m st = second_part s (links_pairs e.links.items m.links) (unit_pairs e.units.waiting m.units) others st.held

pub oldest : (e : LinkLayer) (s : Store) (others : List Owned) (m : Line) (u : QueuedUnit) (st : LayerStands e s others m) → slice_get e.units.waiting 0 ≡ Some u
    → Oldest e.config s e.units.waiting m.units (beside_units e s others m st).rest u
oldest e s others m u st is =
    oldest_of e.config s e.units.waiting m.units (beside_units e s others m st).rest u is st.addressed st.sound.units
    (beside_units e s others m st).held

-- it goes as a UI command
sapi_small : (service : Service) → sapi_of service < 64
sapi_small service = grind arith

pub is_frame : (service : Service) (sapi tei : ℕ) → sapi ≡ sapi_of service → tei ≤ 127 → IsFrame (record { address = record { sapi = sapi; command = true; tei = tei }; control = Ui false; info = [] })
is_frame service sapi tei is fits = record { sapi = omega (arith, is, sapi_small service); tei = omega (arith, fits); kind = refl; size = refl }

-- without the oldest
pub without_unit : (e : LinkLayer) (s t : Store) (others : List Owned) (m : Line) (u : QueuedUnit) → LayerStands e s others m → slice_get e.units.waiting 0 ≡ Some u
    → t ≡ without s u.slot → LayerStands (record e { units = without_oldest e.units }) t others (record m { units = drop 1 m.units })
without_unit e s t others m u st is free =
    let o = oldest e s others m u st is in
    stands_as st e.teis (without_oldest e.units) t others (record m { units = drop 1 m.units }) (refl, refl, refl, refl) (subst (λ x. e.config.n201 ≤ x.width) (sym free) st.wide)
    (record {
      management = st.sound.management;
      reading = st.sound.reading;
      own = st.sound.own;
      places = st.sound.places;
      count = st.sound.count;
      links = st.sound.links;
      units = All-drop (IsUnitData e.config) 1 m.units st.sound.units;
      few_units = omega (arith, st.sound.few_units, length-drop 1 m.units);
      turn = st.sound.turn;
    })
    (st.management, st.own, st.kind) o.addressed ((beside_units e s others m st).back t (unit_pairs (drop 1 e.units.waiting) (drop 1 m.units)) (o.released t free))

pub none_for : (us : List QueuedUnit) (ds : List UnitData) → None ≡ slice_get us 0 → AreFor us ds → slice_get ds 0 ≡ None
none_for [] [] none h = refl
none_for [] (d ∷ ds) none h = absurd h
none_for (u ∷ us) ds none h = absurd (none-some u none)

pub no_unit : (e : LinkLayer) (s : Store) (f : Loading) → None ≡ slice_get e.units.waiting 0 → Takes (λ c m. unit_taken c m) e s f e s f None
no_unit e s f none = grind (arith, option_map, none_for)

pub unit_loaded : (e : LinkLayer) (s t : Store) (f g : Loading) (u : QueuedUnit) (sapi : ℕ) (octets : List ℕ) → slice_get e.units.waiting 0 ≡ Some u
    → sapi ≡ sapi_of u.service → contents_of s u.slot ≡ Some octets → t ≡ without s u.slot → SameLimits s t → room_in g ≡ room_in f → reference_in g ≡ reference_in f
    → Loads (spelling (own_side e.config) (record { address = record { sapi = sapi; command = true; tei = u.tei }; control = Ui false; info = octets })) f g
    → Takes (λ c m. unit_taken c m) e s f (record e { units = without_oldest e.units }) t g (Some [])
unit_loaded e s t f g u sapi octets is sapi_is contents free limits room reference loaded = record {
  config = refl;
  limits = limits;
  room = room;
  reference = reference;
  took = λ others m st.
      let o = oldest e s others m u st is in
      let same : unit_taken e.config m ≡ Some (with_unit e.config m o.unit) = ap (λ x. option_map (with_unit e.config m) x) o.is in
      let info : octets ≡ o.unit.contents = same_Some octets o.unit.contents (sym contents ∙ o.contents) in
      let number : sapi ≡ sapi_of o.unit.service = sapi_is ∙ ap sapi_of o.service in
      let has : HasTaken (with_unit e.config m o.unit) [] (record e { units = without_oldest e.units }) t others f g = record {
        orders = refl;
        stands = without_unit e s t others m u st is free;
        loaded =
            subst (λ x. Loads (spelling (own_side e.config) (record { address = record { sapi = x; command = true; tei = o.unit.tei }; control = Ui false; info = o.unit.contents })) f g) number
            (subst (λ x. Loads (spelling (own_side e.config) (record { address = record { sapi = sapi; command = true; tei = x }; control = Ui false; info = o.unit.contents })) f g) o.tei
            (subst (λ x. Loads (spelling (own_side e.config) (record { address = record { sapi = sapi; command = true; tei = u.tei }; control = Ui false; info = x })) f g) info loaded));
      } in
      subst (λ x. Took x (Some []) m (record e { units = without_oldest e.units }) t others f g) (sym same) has;
}
