-- A line was read: it is whole, and the entities stand for it.
use Rattle.lapd_line.proofs.Vocabulary.{◌≡◌, ℕ, ◌<◌, ◌≤◌, List, [], ◌∷◌, ◌++◌, replicate, Option, None, Some, refl, sym, ap, subst, ◌∙◌, arith, append_assoc, ⊎_elim, cases_lt, Config, Line, UnitData, LinkLayer, Managing, Marks, LayerStands, IsSound, IsSoundAt, IsOfSide, fresh_line, is_terminal, link_count, management_of, own_of, places_of, is_terminals, Owned, Holds, Store, SameLimits}
use Rattle.lapd_line.proofs.Vocabulary.{FrameLine, links_pairs, unit_pairs, machine_at, AreFor, UnitRing, All-nil, QueuedUnit, Link, HasTerms, terms, service_at}
use Rattle.std.proofs.Common.{Vec, Global}
use Rattle.std.proofs.Common.{append-nil}
use Rattle.std.proofs.lemmas.List.{get_or_past, length-replicate}
use Rattle.std.proofs.lemmas.List.Elements.{All-from_get_or, All-replicate}
use Rattle.lapd_image.specs.Numbers.{list_of}
use Rattle.lapd_image.specs.Reads.{IsReadAs}
use Rattle.lapd_line.specs.Image.{Restores}
use Rattle.lapd_line.specs.ImageParts.{AreSavedLinks, AreSavedTeis, AreSavedUnits, IsSavedAt, LinksAwake, RestoresLayer, RestoresLinks, RestoresUnits, SameButLinks, UnitsStand, tei_in, teis_image}
use Rattle.lapd_store.proofs.Ownership.{Holds-second}
use Rattle.model_bits.specs.StuffingLaws.{AreOctets}
use Rattle.model_line.specs.Image as image
use Rattle.model_link.specs.Image.{IsSavedLink}
use Rattle.model_line.specs.Image.{IsWhole}
use Rattle.model_link.specs.Link as machine
use Rattle.model_link.specs.Timed.{IsTimed}
use Rattle.lapd_line.proofs.SavedSteps.{managed_image}
use Rattle.lapd_line.proofs.RestoredLayer.{parts}
use Rattle.lapd_line.proofs.RestoredRounds.{but_links}
use Rattle.lapd_line.proofs.RestoredTeis.{IsSoundTeis, same_kind, sound_teis}

no_units : (us : List QueuedUnit) → AreFor us [] → us ≡ []
no_units [] same = refl
no_units (u ∷ us) same = absurd same

-- no unit data waits yet
pub none_wait : (e : LinkLayer) (s : Store) (others : List Owned) → LayerStands e s others (fresh_line e.config) → e.units.waiting ≡ []
none_wait e s others st = no_units e.units.waiting st.addressed

-- what the links own, beside others
links_own : (e : LinkLayer) (s : Store) (others : List Owned) → LayerStands e s others (fresh_line e.config) → Holds s (links_pairs e.links.items (fresh_line e.config).links ++ others)
links_own e s others st =
    let pairs = links_pairs e.links.items (fresh_line e.config).links in
    subst (λ l. Holds s (l ++ others)) (append-nil pairs) (subst (λ us. Holds s ((pairs ++ unit_pairs us []) ++ others)) (none_wait e s others st) st.held)

-- The links begin, where unit data was read.
pub links_begun : {t : Store} {units : List UnitData} (e : LinkLayer) (s : Store) (others : List Owned) → LayerStands e s others (fresh_line e.config) → (x : Managing) (ring : UnitRing) (turn : ℕ) → SameLimits s t
    → ((others : List Owned) → Holds s others → UnitsStand ring.waiting t others units)
    → LinksAwake (record e { teis = x; units = ring; turn = turn }) t (unit_pairs ring.waiting units ++ others) (replicate (link_count e.config) machine.fresh)
links_begun {t} {units} e s others st x ring turn limits stand =
    let pairs = links_pairs e.links.items (fresh_line e.config).links in
    record {
      stand = record {
        wide = subst (λ w. e.config.n201 ≤ w) (sym limits.width) st.wide;
        same = st.count ∙ sym (length-replicate (link_count e.config) machine.fresh);
        fits = st.links;
        held = Holds-second (unit_pairs ring.waiting units) pairs others (stand (pairs ++ others) (links_own e s others st)).held;
      };
      awake = st.has_frame;
    }

-- a link that may be saved is sound, and its timer is that of its state
sound_at : (c : Config) (number : ℕ) (o : Option ℕ) (l : machine.Link) → IsSavedAt c number o l → IsSoundAt c number l o
sound_at c number None l saved = saved
sound_at c number (Some tei) l saved = saved.sound

fresh_timed : IsTimed machine.fresh
fresh_timed = record { timer = refl }

timed_at : (c : Config) (number : ℕ) (o : Option ℕ) (l : machine.Link) → IsSavedAt c number o l → IsTimed l
timed_at c number None l saved = subst IsTimed (sym saved) fresh_timed
timed_at c number (Some tei) l saved = saved.timed

pub saved_at : (c : Config) (number : ℕ) (o : Option ℕ) (l : machine.Link) → IsSavedAt c number o l → IsSavedLink l
saved_at c number None l saved =
    subst IsSavedLink (sym saved) (record { counts = All-replicate (λ n. n ≤ 65535) 5 0 (omega arith); octets = All-nil AreOctets })
saved_at c number (Some tei) l saved = record { counts = saved.counts; octets = saved.octets }

-- A line of parts that may be saved.
abbrev line_of : Config → Managing → List machine.Link → List UnitData → ℕ → Line
line_of c x ms units turn = record { management = management_of c x; own = own_of x; links = ms; units = units; turn = turn }

whole_line : (c : Config) (x : Managing) (ms : List machine.Link) (units : List UnitData) (turn : ℕ) → IsSoundTeis c x → is_terminals x ≡ is_terminal c → AreSavedUnits c.n201 c.unit_queue units → turn ≤ link_count c
    → AreSavedLinks c (places_of x) ms → IsWhole c (line_of c x ms units turn)
whole_line c x ms units turn teis kind waiting few links = record {
  sound = record {
    management = teis.management;
    reading = teis.reading;
    own = subst (λ b. IsOfSide b (management_of c x) (own_of x)) kind teis.own;
    places = teis.places;
    count = links.count;
    links = λ number h. sound_at c number (tei_in (places_of x) number) (machine_at ms number) (links.each number h);
    units = λ k d h. record { tei = (waiting.each k d h).tei; size = (waiting.each k d h).size };
    few_units = waiting.few;
    turn = few;
  };
  timed = λ number. ⊎_elim
      (λ h. timed_at c number (tei_in (places_of x) number) (machine_at ms number) (links.each number h))
      (λ h. subst IsTimed (sym (get_or_past ms number machine.fresh (omega (arith, h, links.count)))) fresh_timed)
      (cases_lt number (link_count c));
  saved = record {
    remembered = teis.sized.remembered;
    messages = teis.sized.messages;
    own = teis.sized.own;
    unused = λ e. teis.sized.unused (kind ∙ e);
    links = All-from_get_or IsSavedLink ms machine.fresh (λ number h. saved_at c number (tei_in (places_of x) number) (machine_at ms number) (links.each number (omega (arith, h, links.count))));
    units = λ k d h. (waiting.each k d h).octets;
  };
}

module _ (e : LinkLayer) (s : Store) (others : List Owned) (begun : LayerStands e s others (fresh_line e.config)) (x : Managing) (ring : UnitRing) (turn : ℕ) where
  abbrev before : LinkLayer
  before = record e { teis = x; units = ring; turn = turn }

  -- The entities stand for it.
  layer_stands : {u : Store} {units : List UnitData} {ms : List machine.Link} {rest : List Owned} (links : Vec Link Global) (marks : Marks) → IsSound e.config (line_of e.config x ms units turn) → is_terminals x ≡ is_terminal e.config
      → AreFor ring.waiting units → ring.capacity ≡ e.units.capacity
      → ((number tei : ℕ) → number < link_count e.config → tei_in (places_of x) number ≡ Some tei → HasTerms links.items number (terms e.config (service_at number) tei))
      → LinksAwake (record before { links = links; has_frame = marks }) u (unit_pairs ring.waiting units ++ rest) ms
      → LayerStands (record before { links = links; has_frame = marks }) u rest (line_of e.config x ms units turn)
  layer_stands {u = u} {units} {ms} {rest} links marks sound kind addressed capacity has awake = record {
    range = begun.range;
    wide = awake.stand.wide;
    sound = sound;
    management = refl;
    own = refl;
    kind = kind;
    count = awake.stand.same ∙ sound.count;
    links = awake.stand.fits;
    terms = has;
    addressed = addressed;
    capacity = capacity ∙ begun.capacity;
    turn = refl;
    has_frame = awake.awake;
    held = subst (Holds u) (sym (append_assoc (links_pairs links.items ms) (unit_pairs ring.waiting units) rest)) awake.stand.held;
  }

  pub restored : {front first second third rest : List ℕ} {t u : Store} (now : LinkLayer) → IsReadAs teis_image (AreSavedTeis e.teis) x front first → RestoresUnits e.config.n201 e.units.capacity first second s ring.waiting t
      → ring.capacity ≡ e.units.capacity → SameLimits s t → turn ≤ link_count e.config → second ≡ turn ∷ third → SameButLinks before now → RestoresLinks third rest before t now u → RestoresLayer front rest e s now u
  restored {rest = rest} {t} {u} now teis (units, waiting, stand) capacity limits few is same (ms, saved, octets, becomes) =
      let c = e.config in
      let m = line_of c x ms units turn in
      let kind : is_terminals x ≡ is_terminal c = same_kind e.teis x teis.saved ∙ begun.kind in
      let fit : AreSavedUnits c.n201 c.unit_queue units = subst (λ n. AreSavedUnits c.n201 n units) begun.capacity waiting.saved in
      let whole = whole_line c x ms units turn (sound_teis c e.teis x begun.management teis.saved) kind fit few saved in
      let changed = but_links before now same in (
        m,
        record {
          saved = whole;
          octets =
              teis.octets ∙ ap (λ l. teis_image x ++ l) (waiting.octets ∙ ap (λ l. list_of image.unit units ++ l) (is ∙ ap (λ l. turn ∷ l) octets))
              ∙ sym (parts c m (teis_image x) rest (managed_image c m x refl refl kind));
        },
        record {
          stands = λ rest st.
              let awake = subst (λ y. LinksAwake y u (unit_pairs ring.waiting units ++ rest) ms) changed (becomes.stand (unit_pairs ring.waiting units ++ rest) (links_begun e s rest st x ring turn limits stand)) in
              let addressed = (stand _ (links_own e s rest st)).addressed in
              subst (λ y. LayerStands y u rest m) (sym changed) (layer_stands now.links now.has_frame whole.sound kind addressed capacity becomes.terms awake);
        },
      )

-- and so does the line of which they are
pub line_restored : {front rest : List ℕ} (old : FrameLine) (s : Store) (now : LinkLayer) (t : Store) → RestoresLayer front rest old.layer s now t → Restores front rest old s (record old { layer = now }) t
line_restored old s now t (m, read, becomes) = (m, read, record { stands = λ others st. record { layer = becomes.stands others st.layer } })
