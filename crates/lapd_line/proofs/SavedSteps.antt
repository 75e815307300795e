-- What is written of a line, by its parts.
use Rattle.lapd_line.proofs.Vocabulary.{◌≡◌, ℕ, ◌<◌, ◌∷◌, ◌++◌, List, [], length, slice_get, get_or, Some, zero, suc, refl, ap, sym, ◌∙◌, subst, arith, append_assoc, none-some, same_Some, false, false≢true, None, Option, slice_get-map, slice_get-get_or, length-map, Call, option_map, All, All-nil, All-cons, All-head, All-tail, IsUnitData, ranges_of, Owned, Keeps, Store, IsUsed, contents_of}
use Rattle.lapd_line.proofs.Vocabulary.{Keeps-used, Keeps-at, Config, Line, UnitData, is_terminal, link_count, Managing, management_of, own_of, is_terminals, LinkLayer, QueuedUnit, AreFor, messages_of, LayerStands, range_with_len}
use Rattle.std.specs.Prelude.{flat_map, is_some, true, map, take, ◌+◌, ◌≤◌}
use Rattle.std.proofs.Common.{add-one, append-nil, take_all}
use Rattle.std.proofs.Math.Seq.{take-suc}
use Rattle.std.proofs.lemmas.List.Elements.{All-more}
use Rattle.model_bits.specs.StuffingLaws.{AreOctets}
use Rattle.std.proofs.lemmas.Grind.{flat_map-append}
use Rattle.model_link.specs.Image.{link}
use Rattle.model_link.specs.Link.{Link}
use Rattle.lapd_image.specs.Numbers.{list_of}
use Rattle.lapd_image.specs.Puts.{Puts}
use Rattle.lapd_line.specs.ImageParts.{teis_image, UnitsStand}
use Rattle.lapd_line.specs.Units.{slots_of, slot_of}
use Rattle.lapd_line.specs.declared.managing.Managing.TheVariants as kind
use Rattle.model_teis.specs.TableImage.{place}
use Rattle.model_teis.specs.network.Image.{management}
use Rattle.model_teis.specs.network.Machine.{Management}
use Rattle.model_line.specs.Image as image
use Rattle.model_line.specs.Image.{own}
use Rattle.model_line.specs.Stored.{unit_contents}
use Rattle.lapd_image.proofs.Puts.{puts-none, puts-then, puts-same}
use Rattle.lapd_line.proofs.PullTakesUnits.{as_many, beside_units}

-- TEI management, of either kind
pub managed_image : (c : Config) (m : Line) (x : Managing) → m.management ≡ management_of c x → m.own ≡ own_of x → is_terminals x ≡ is_terminal c
    → teis_image x ≡ map place m.management.places ++ image.teis (is_terminal c) m
managed_image c m (kind.Network x) is mine same =
    sym (ap (λ (t : Management). map place t.places ++ management t) is) ∙ ap (λ b. map place m.management.places ++ image.teis b m) same
managed_image c m (kind.Terminal x) is mine same =
    sym (λ i. map place (is i).places ++ own (mine i)) ∙ ap (λ b. map place m.management.places ++ image.teis b m) same

-- as much as the machine has
pub many : (us : List QueuedUnit) (ds : List UnitData) → AreFor us ds → length us ≡ length ds
many us ds same = sym (length-map us slot_of) ∙ as_many us ds same ∙ length-map ds unit_contents

-- unit data at a place, and that of the machine
aligned : (us : List QueuedUnit) (ds : List UnitData) (i : ℕ) (u : QueuedUnit) → slice_get us i ≡ Some u → AreFor us ds
    → (d : UnitData) × (slice_get ds i ≡ Some d) × (u.service ≡ d.service) × (u.tei ≡ d.tei)
aligned [] ds i u is same = absurd (none-some u is)
aligned (x ∷ us) [] i u is same = absurd same
aligned (x ∷ us) (d ∷ ds) zero u is (service, tei, same) =
    subst (λ (y : QueuedUnit). (e : UnitData) × (slice_get (d ∷ ds) 0 ≡ Some e) × (y.service ≡ e.service) × (y.tei ≡ e.tei)) (same_Some x u is) (d, refl, service, tei)
aligned (x ∷ us) (d ∷ ds) (suc i) u is (service, tei, same) = aligned us ds i u is same

pub record UnitAt (s : Store) (ds : List UnitData) (i : ℕ) (u : QueuedUnit) : Type 0 where
  pub unit : UnitData
  pub is : slice_get ds i ≡ Some unit
  pub service : u.service ≡ unit.service
  pub tei : u.tei ≡ unit.tei
  pub used : IsUsed s u.slot
  pub contents : contents_of s u.slot ≡ Some unit.contents

pub unit_at : {s : Store} {others : List Owned} (us : List QueuedUnit) (ds : List UnitData) (i : ℕ) (u : QueuedUnit) → slice_get us i ≡ Some u → UnitsStand us s others ds → UnitAt s ds i u
unit_at {s} {others} us ds i u is st =
    let (d, found, service, tei) = aligned us ds i u is st.addressed in
    let kept : Keeps s (slots_of us) (messages_of ds) others = record { lengths = as_many us ds st.addressed; held = st.held } in
    let here : slice_get (slots_of us) i ≡ Some u.slot = slice_get-map slot_of us i ∙ ap (option_map slot_of) is in
    record {
      unit = d;
      is = found;
      service = service;
      tei = tei;
      used = Keeps-used (slots_of us) (messages_of ds) others i u.slot here kept;
      contents = Keeps-at (slots_of us) (messages_of ds) others i u.slot here kept ∙ slice_get-map unit_contents ds i ∙ ap (option_map unit_contents) found;
    }

-- the units of a line
pub units_stand : (e : LinkLayer) (s : Store) (others : List Owned) (m : Line) (st : LayerStands e s others m) → UnitsStand e.units.waiting s (beside_units e s others m st).rest m.units
units_stand e s others m st = record { addressed = st.addressed; held = (beside_units e s others m st).held }

-- one more of those from a number on
pub images_next : {X : Type 0} (f : ℕ → List X) (a n j : ℕ) → a + n ≡ j → flat_map f (range_with_len a (n + 1)) ≡ flat_map f (range_with_len a n) ++ f j
images_next f a zero j is =
    let here : f a ≡ f j = ap f (omega (arith, is)) in
    append-nil (f a) ∙ here
images_next f a (suc n) j is =
    let next : suc n + 1 ≡ suc (n + 1) = omega arith in
    ap (λ k. flat_map f (range_with_len a k)) next
    ∙ ap (λ l. f a ++ l) (images_next f (a + 1) n j (omega (arith, is)))
    ∙ sym (append_assoc (f a) (flat_map f (range_with_len (a + 1) n)) (f j))

-- the units of a line are few, and their TEIs small
pub few_wait : (e : LinkLayer) (s : Store) (others : List Owned) (m : Line) → LayerStands e s others m → length e.units.waiting ≤ 255
few_wait e s others m st = omega (arith, many e.units.waiting m.units st.addressed, st.sound.few_units, (ranges_of e.config st.range).unit_queue.most)

pub small_teis : (c : Config) (us : List QueuedUnit) (ds : List UnitData) → AreFor us ds → All (IsUnitData c) ds → All (λ u. u.tei ≤ 127) us
small_teis c [] ds same fits = All-nil (λ u. u.tei ≤ 127)
small_teis c (u ∷ us) [] same fits = absurd same
small_teis c (u ∷ us) (d ∷ ds) (service, tei, same) fits =
    All-cons (λ u. u.tei ≤ 127) u us (omega (arith, tei, (All-head (IsUnitData c) d ds fits).tei)) (small_teis c us ds same (All-tail (IsUnitData c) d ds fits))

-- all parts, one after the other
pub line_put : (c : Config) (m : Line) {teis old first second third new : List ℕ} {at a b d end : ℕ}
    → teis ≡ map place m.management.places ++ image.teis (is_terminal c) m → Puts teis at old a first → Puts (list_of image.unit m.units) a first b second → Puts (m.turn ∷ []) b second d third
    → Puts (flat_map (image.link_numbered m) (range_with_len 0 (link_count c))) d third end new
    → Puts (image.line c m) at old end new
line_put c m is teis units turn links =
    puts-same (append_assoc (map place m.management.places) (image.teis (is_terminal c) m) _)
    (puts-then (puts-same is teis) (puts-then units (puts-then turn links)))

-- a link where there is a TEI
pub link_put : {told o : Option ℕ} {old new : List ℕ} {at end : ℕ} → told ≡ o → (l : Link) → is_some told ≡ true → Puts (link l) at old end new → Puts (image.link_if o l) at old end new
link_put {told} {o} {old} {new} {at} {end} is l some puts = subst (λ x. Puts (image.link_if x l) at old end new) is (go told some)
  where
    go : (x : Option ℕ) → is_some x ≡ true → Puts (image.link_if x l) at old end new
    go None none = absurd (false≢true none)
    go (Some tei) none = puts

-- and nothing where there is none
pub none_there : {told : Option ℕ} (o : Option ℕ) → told ≡ o → is_some told ≡ false → o ≡ None
none_there None is none = refl
none_there (Some tei) is none = absurd (false≢true (sym none ∙ ap is_some is))

pub nothing_put : {told : Option ℕ} {old : List ℕ} {at : ℕ} (o : Option ℕ) (l : Link) → told ≡ o → is_some told ≡ false → at ≤ length old → Puts (image.link_if o l) at old at old
nothing_put {old = old} {at} o l is none within = subst (λ x. Puts (image.link_if x l) at old at old) (sym (none_there o is none)) (puts-none within)

-- it is what the shelf has in its slot
pub unit_found : {s : Store} {others : List Owned} {waiting : List QueuedUnit} {units : List UnitData} (index : ℕ) (u : QueuedUnit) (d : UnitData) (octets : List ℕ) → slice_get waiting index ≡ Some u
    → UnitsStand waiting s others units → slice_get units index ≡ Some d → contents_of s u.slot ≡ Some octets → record { service = u.service; tei = u.tei; contents = octets } ≡ d
unit_found {waiting = waiting} {units} index u d octets is st found lies =
    let here = unit_at waiting units index u is st in
    let told : octets ≡ here.unit.contents = same_Some octets here.unit.contents (sym lies ∙ here.contents) in
    (λ i. record { service = here.service i; tei = here.tei i; contents = told i }) ∙ same_Some here.unit d (sym here.is ∙ found)

-- one more of a list
next_image : {X : Type 0} (f : X → List ℕ) (xs : List X) (i : ℕ) (d : X) → i < length xs → flat_map f (take (i + 1) xs) ≡ flat_map f (take i xs) ++ f (get_or xs i d)
next_image f xs i d within =
    ap (λ n. flat_map f (take n xs)) (add-one i) ∙ ap (flat_map f) (take-suc xs i d within) ∙ flat_map-append f (take i xs) (get_or xs i d ∷ []) ∙ ap (λ l. flat_map f (take i xs) ++ l) (append-nil (f (get_or xs i d)))

-- Of the units so many were put, after how many they are; and these may be saved.
pub record UnitsPut (s : Store) (waiting : List QueuedUnit) (at : ℕ) (old : List ℕ) (index end : ℕ) (new : List ℕ) : Type 0 where
  pub put : (others : List Owned) (units : List UnitData) → UnitsStand waiting s others units
      → Puts (length units ∷ flat_map image.unit (take index units)) at old end new
  pub saved : (others : List Owned) (units : List UnitData) → UnitsStand waiting s others units → All (λ u. AreOctets u.contents) (take index units)

pub none_put : {s : Store} {waiting : List QueuedUnit} {at count end : ℕ} {old new : List ℕ} → count ≡ length waiting → Puts (count ∷ []) at old end new → UnitsPut s waiting at old 0 end new
none_put {waiting = waiting} is puts = record {
  put = λ others units st. puts-same (ap (λ n. n ∷ []) (is ∙ many waiting units st.addressed)) puts;
  saved = λ others units st. All-nil (λ u. AreOctets u.contents);
}

pub unit_put : {s : Store} {waiting : List QueuedUnit} {at index end end' : ℕ} {old mid new : List ℕ} → UnitsPut s waiting at old index end mid → index < length waiting
    → ((others : List Owned) (units : List UnitData) (u : UnitData) → UnitsStand waiting s others units → slice_get units index ≡ Some u → Puts (image.unit u) end mid end' new)
    → ((others : List Owned) (units : List UnitData) (u : UnitData) → UnitsStand waiting s others units → slice_get units index ≡ Some u → AreOctets u.contents)
    → UnitsPut s waiting at old (index + 1) end' new
unit_put {s} {waiting} {index = index} before within one octets = record {
  put = λ others units st.
      puts-same (ap (λ l. length units ∷ l) (sym (next_image image.unit units index none (there others units st))))
      (puts-then (before.put others units st) (one others units (get_or units index none) st (slice_get-get_or units index none (there others units st))));
  saved = λ others units st.
      All-more (λ u. AreOctets u.contents) units index none (there others units st) (before.saved others units st)
      (octets others units (get_or units index none) st (slice_get-get_or units index none (there others units st)));
}
  where
    none : UnitData
    none = record { service = Call; tei = 0; contents = [] }

    there : (others : List Owned) (units : List UnitData) → UnitsStand waiting s others units → index < length units
    there others units st = omega (arith, within, many waiting units st.addressed)

pub units_put : {s : Store} {waiting : List QueuedUnit} {at index end : ℕ} {old new : List ℕ} → UnitsPut s waiting at old index end new → length waiting ≤ index
    → (others : List Owned) (units : List UnitData) → UnitsStand waiting s others units → Puts (list_of image.unit units) at old end new × All (λ u. AreOctets u.contents) units
units_put {waiting = waiting} {index = index} before all others units st =
    let whole = take_all index units (omega (arith, all, many waiting units st.addressed)) in
    (puts-same (ap (λ l. length units ∷ flat_map image.unit l) whole) (before.put others units st), subst (All (λ u. AreOctets u.contents)) whole (before.saved others units st))
