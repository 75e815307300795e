-- A line is read, part by part.
use Rattle.lapd_line.proofs.Vocabulary.{◌≡◌, ℕ, ◌+◌, ◌<◌, List, ◌∷◌, ◌++◌, length, Option, None, Some, sym, ap, subst, ◌∙◌, arith, append_assoc, length-append, Config, Line, UnitData, LinkLayer, Managing, LayerStands, IsSoundAt, fresh_line, is_terminal, link_count, link_at, places_of, range_with_len, ranges_of, Owned, Holds, Store, used_slots, unit_pairs, QueuedUnit}
use Rattle.std.specs.Prelude.{flat_map, map}
use Rattle.std.specs.FinMap as finmap
use Rattle.lapd_image.specs.Numbers.{list_of}
use Rattle.lapd_image.specs.Reads.{IsReadAs, HasNone}
use Rattle.lapd_line.specs.ImageParts.{AreSavedLinks, AreSavedTeis, AreSavedUnits, HasNoLayer, HasNoLinks, HasNoTurn, HasNoUnits, IsSavedAt, IsSavedUnit, RestoresUnits, UnitsStand, tei_in, teis_image}
use Rattle.lapd_link.specs.Image as links
use Rattle.model_teis.specs.TableImage.{place}
use Rattle.model_teis.specs.network.Image as network
use Rattle.model_line.specs.Image as image
use Rattle.model_link.specs.Image.{IsSavedLink}
use Rattle.model_line.specs.Image.{IsWhole}
use Rattle.model_line.proofs.ImageRead.{at-number}
use Rattle.lapd_image.proofs.Reading.{tails, list-read}
use Rattle.lapd_store.proofs.Ownership.{used_slots-held}
use Rattle.lapd_line.proofs.RestoredTeis.{held_in, image_in, places_in, saved_in, teis_read}
use Rattle.lapd_line.proofs.RestoredUnits.{held, unit_read}
use Rattle.lapd_line.proofs.Stood.{slots_of_units}

-- its parts, of a line of this kind
abbrev pub links_of : Config → Line → List ℕ
links_of c m = flat_map (image.link_numbered m) (range_with_len 0 (link_count c))

abbrev pub beside_teis : Config → Line → List ℕ → List ℕ
beside_teis c m more = list_of image.unit m.units ++ (m.turn ∷ (links_of c m ++ more))

pub parts : (c : Config) (m : Line) (teis more : List ℕ) → teis ≡ map place m.management.places ++ image.teis (is_terminal c) m → image.line c m ++ more ≡ teis ++ beside_teis c m more
parts c m teis more is =
    let table = map place m.management.places in
    let own = image.teis (is_terminal c) m in
    let units = list_of image.unit m.units in
    let rest = m.turn ∷ links_of c m in
    append_assoc table (own ++ (units ++ rest)) more
    ∙ ap (λ l. table ++ l) (append_assoc own (units ++ rest) more ∙ ap (λ l. own ++ l) (append_assoc units rest more))
    ∙ sym (append_assoc table own (beside_teis c m more)) ∙ ap (λ l. l ++ beside_teis c m more) (sym is)

-- what may be saved of it
units_saved : (c : Config) (m : Line) → IsWhole c m → AreSavedUnits c.n201 c.unit_queue m.units
units_saved c m whole = record {
  each = λ k d h. record { tei = (whole.sound.units k d h).tei; size = (whole.sound.units k d h).size; octets = whole.saved.units k d h };
  few = whole.sound.few_units;
}

links_saved : (c : Config) (m : Line) → IsWhole c m → AreSavedLinks c m.management.places m.links
links_saved c m whole = record {
  count = whole.sound.count;
  each = λ number few. go number (tei_in m.management.places number) (whole.sound.links number few) (at-number c m whole.sound.count whole.saved number few);
}
  where
    go : (number : ℕ) (o : Option ℕ) → IsSoundAt c number (link_at number m) o → IsSavedLink (link_at number m) → IsSavedAt c number o (link_at number m)
    go number None sound saved = sound
    go number (Some tei) sound saved = record { sound = sound; timed = whole.timed number; counts = saved.counts; octets = saved.octets }

-- as many slots are in use
units_used : {s t : Store} {waiting : List QueuedUnit} (units : List UnitData) → ((others : List Owned) → Holds s others → UnitsStand waiting t others units) → used_slots t ≡ used_slots s + length units
units_used {s} {t} {waiting} units stand =
    let st = stand (finmap.entries s.contents) (held s) in
    omega (arith, used_slots-held (finmap.entries s.contents) (held s), used_slots-held (unit_pairs waiting units ++ finmap.entries s.contents) st.held, length-append (unit_pairs waiting units) (finmap.entries s.contents), slots_of_units waiting units st.addressed)

module _ (e : LinkLayer) (s : Store) (others : List Owned) (begun : LayerStands e s others (fresh_line e.config)) where
  abbrev c : Config
  c = e.config

  low : c.n201 < 65536
  low = omega (arith, (ranges_of c begun.range).n201.most)

  whole_parts : (m : Line) (more : List ℕ) → image.line c m ++ more ≡ teis_image (held_in e.teis m) ++ beside_teis c m more
  whole_parts m more = parts c m (teis_image (held_in e.teis m)) more (image_in c e.teis m begun.kind)

  pub no_teis : {slots : ℕ} {front : List ℕ} → HasNone teis_image (AreSavedTeis e.teis) front → HasNoLayer slots front e s
  no_teis none = λ m rest whole room at. none (held_in e.teis m) (beside_teis c m rest) (saved_in c e.teis m begun.kind begun.management whole) (at ∙ whole_parts m rest)

  module _ {front first : List ℕ} (x : Managing) (read : IsReadAs teis_image (AreSavedTeis e.teis) x front first) where
    teis_meant : (m : Line) (more : List ℕ) → IsWhole c m → front ≡ image.line c m ++ more → (x ≡ held_in e.teis m) × (first ≡ beside_teis c m more)
    teis_meant m more whole at =
        teis_read e.teis x (held_in e.teis m) first (beside_teis c m more) read.saved (saved_in c e.teis m begun.kind begun.management whole) (sym read.octets ∙ at ∙ whole_parts m more)

    pub no_units : {slots : ℕ} → HasNoUnits c.n201 e.units.capacity slots first s → HasNoLayer slots front e s
    no_units {slots} none = λ m rest whole room at.
        subst (λ n. HasNoUnits c.n201 n slots first s) begun.capacity none m.units (m.turn ∷ (links_of c m ++ rest)) (units_saved c m whole) (omega (arith, room)) (teis_meant m rest whole at).1

    module _ {second : List ℕ} {waiting : List QueuedUnit} {t : Store} (restored : RestoresUnits c.n201 e.units.capacity first second s waiting t) where
      abbrev units : List UnitData
      units = restored.0

      units_meant : (m : Line) (more : List ℕ) → IsWhole c m → front ≡ image.line c m ++ more → (units ≡ m.units) × (second ≡ m.turn ∷ (links_of c m ++ more))
      units_meant m more whole at =
          list-read (IsSavedUnit c.n201) image.unit (unit_read c.n201 low) units m.units second (m.turn ∷ (links_of c m ++ more)) restored.1.saved.each (units_saved c m whole).each
          (sym restored.1.octets ∙ (teis_meant m more whole at).1)

      pub no_turn : (slots : ℕ) → HasNoTurn second c → HasNoLayer slots front e s
      no_turn slots none = λ m rest whole room at. none m.turn (links_of c m ++ rest) whole.sound.turn (units_meant m rest whole at).1

      pub no_links : {slots turn : ℕ} {third : List ℕ} → second ≡ turn ∷ third → HasNoLinks slots third c (places_of x) t → HasNoLayer slots front e s
      no_links {slots} {third = third} is none = λ m rest whole room at.
          let places : places_of x ≡ m.management.places = ap places_of (teis_meant m rest whole at).0 ∙ places_in e.teis m in
          let read = units_meant m rest whole at in
          subst (λ p. HasNoLinks slots third c p t) places none m.links rest (links_saved c m whole) (omega (arith, room, units_used units restored.2, ap length read.0)) (tails (sym is ∙ read.1))
