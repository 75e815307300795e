-- The parts of a line in an image: what may be saved of each, and what it is that one was read.
use Rattle.std.specs.Prelude.{◌≡◌, ◌≢◌, ℕ, ◌+◌, ◌≤◌, ◌<◌, All, List, [], ◌∷◌, ◌++◌, length, flat_map, get_or, replicate, set, slice_get, Option, Some, None}
use Rattle.std.specs.List.{range_with_len, sum_by}
use Rattle.lapd_image.specs.Numbers.{list_of}
use Rattle.lapd_image.specs.Reads.{IsReadAs}
use Rattle.lapd_line.specs.Awake.{AreAwake}
use Rattle.lapd_line.specs.Links.{HasTerms, LinksStand, machine_at, terms_in}
use Rattle.lapd_line.specs.LinkLayer.{LayerStands}
use Rattle.lapd_line.specs.Managing.{places_of}
use Rattle.lapd_line.specs.Units.{AreFor, unit_pairs}
use Rattle.lapd_line.specs.declared.link_layer.LinkLayer.{LinkLayer}
use Rattle.lapd_line.specs.declared.managing.Managing.{Managing}
use Rattle.lapd_line.specs.declared.managing.Managing.TheVariants as kind
use Rattle.lapd_line.specs.declared.units.QueuedUnit.{QueuedUnit}
use Rattle.lapd_link.specs.Image as links
use Rattle.lapd_link.specs.declared.link.Link.{Link as LinkOf}
use Rattle.lapd_store.specs.Ownership.{Owned, Holds}
use Rattle.lapd_store.specs.Store.{Store, used_slots}
use Rattle.model_teis.specs.network.Image as network
use Rattle.model_teis.specs.Table.{Places}
use Rattle.model_teis.specs.terminal.Image as terminal
use Rattle.model_bits.specs.StuffingLaws.{AreOctets}
use Rattle.model_line.specs.Image.{line, link_if, unit, IsWhole}
use Rattle.model_link.specs.Image.{link}
use Rattle.model_line.specs.declared.config.Config.{Config}
use Rattle.model_line.specs.Line.{Line, UnitData, fresh_line, link_count, place_at, service_at, terms}
use Rattle.model_line.specs.Stored.{slots_of}
use Rattle.model_link.specs.Link.{Link, fresh, queue_of}
use Rattle.model_link.specs.declared.terms.Terms.{Terms}

-- TEI management, of either kind.
abbrev pub teis_image : Managing → List ℕ
teis_image (kind.Network m) = network.image m
teis_image (kind.Terminal t) = terminal.image t

-- What may be saved of one of the same kind, with as many places and the same reading of the rows.
abbrev pub AreSavedTeis : Managing → Managing → Type 0
AreSavedTeis (kind.Network like) (kind.Network m) = network.IsSavedOf like m
AreSavedTeis (kind.Network like) (kind.Terminal t) = ⊥
AreSavedTeis (kind.Terminal like) (kind.Network m) = ⊥
AreSavedTeis (kind.Terminal like) (kind.Terminal t) = terminal.IsSavedOf like t

-- The unit data that waits is that of the machine, and the shelf holds exactly its contents and what others own.
pub record UnitsStand (waiting : List QueuedUnit) (store : Store) (others : List Owned) (units : List UnitData) : Type 0 where
  pub addressed : AreFor waiting units
  pub held : Holds store (unit_pairs waiting units ++ others)

-- Unit data that may be saved: it is for a terminal or the group, and has at most N201 octets.
pub record IsSavedUnit (n201 : ℕ) (u : UnitData) : Type 0 where
  pub tei : u.tei ≤ 127
  pub size : length u.contents ≤ n201
  pub octets : AreOctets u.contents

pub record AreSavedUnits (n201 most : ℕ) (units : List UnitData) : Type 0 where
  pub each : All (IsSavedUnit n201) units
  pub few : length units ≤ most

-- One more waits, the newest.
pub record UnitComes (u : UnitData) (old : List QueuedUnit) (s : Store) (new : List QueuedUnit) (t : Store) : Type 0 where
  pub stand : (others : List Owned) (units : List UnitData) → UnitsStand old s others units → UnitsStand new t others (units ++ u ∷ [])
  pub used : used_slots t ≡ used_slots s + 1
  pub waiting : length new ≡ length old + 1

-- Unit data of these octets was read: one more; and all, where none waited.
abbrev pub RestoresUnit : ℕ → List ℕ → List ℕ → List QueuedUnit → Store → List QueuedUnit → Store → Type 0
RestoresUnit n201 front rest old s new t = (u : UnitData) × IsReadAs unit (IsSavedUnit n201) u front rest × UnitComes u old s new t

abbrev pub RestoresUnits : ℕ → ℕ → List ℕ → List ℕ → Store → List QueuedUnit → Store → Type 0
RestoresUnits n201 most front rest s new t =
    (units : List UnitData) × IsReadAs (list_of unit) (AreSavedUnits n201 most) units front rest
    × ((others : List Owned) → Holds s others → UnitsStand new t others units)

-- None whose contents find room in so many slots stand at the front.
abbrev pub HasNoUnit : ℕ → ℕ → List ℕ → Store → Type 0
HasNoUnit n201 slots front s = (u : UnitData) (rest : List ℕ) → IsSavedUnit n201 u → used_slots s < slots → front ≡ unit u ++ rest → ⊥

abbrev pub HasNoUnits : ℕ → ℕ → ℕ → List ℕ → Store → Type 0
HasNoUnits n201 most slots front s =
    (units : List UnitData) (rest : List ℕ) → AreSavedUnits n201 most units → used_slots s + length units ≤ slots
    → front ≡ list_of unit units ++ rest → ⊥

-- The TEI at the place of a link. A link may be saved where it is one of a TEI; elsewhere it is as one that begins.
abbrev pub tei_in : Places → ℕ → Option ℕ
tei_in places number = get_or places (place_at number) None

abbrev pub IsSavedAt : Config → ℕ → Option ℕ → Link → Type 0
IsSavedAt c number None l = l ≡ fresh
IsSavedAt c number (Some tei) l = links.IsSaved (terms c (service_at number) tei) l

pub record AreSavedLinks (c : Config) (places : Places) (ms : List Link) : Type 0 where
  pub count : length ms ≡ link_count c
  pub each : (number : ℕ) → number < link_count c → IsSavedAt c number (tei_in places number) (machine_at ms number)

-- Their images, of so many from one on; and the slots that their contents need.
abbrev pub image_at : Places → List Link → ℕ → List ℕ
image_at places ms number = link_if (tei_in places number) (machine_at ms number)

abbrev pub images_from : Places → List Link → ℕ → ℕ → List ℕ
images_from places ms first count = flat_map (image_at places ms) (range_with_len first count)

abbrev pub slots_at : List Link → ℕ → ℕ
slots_at ms number = length (queue_of (machine_at ms number))

abbrev pub slots_from : List Link → ℕ → ℕ → ℕ
slots_from ms first count = sum_by (slots_at ms) (range_with_len first count)

-- The link at a place was read, where it was as one that begins; or no link that may be there stands at the front.
abbrev pub RestoresIn : ℕ → List ℕ → List ℕ → List LinkOf → Store → List LinkOf → Store → Type 0
RestoresIn number front rest old s new t =
    (terms : Terms) → HasTerms old number terms
    → (l : Link) × IsReadAs link (links.IsSaved terms) l front rest × (used_slots t ≡ used_slots s + length (queue_of l))
    × ((c : Config) (others : List Owned) (ms : List Link) → machine_at ms number ≡ fresh → LinksStand c old s others ms → LinksStand c new t others (set ms number l))

abbrev pub HasNoLinkIn : ℕ → ℕ → List ℕ → List LinkOf → Store → Type 0
HasNoLinkIn number slots front old s =
    (terms : Terms) (l : Link) (rest : List ℕ) → HasTerms old number terms → links.IsSaved terms l → used_slots s + length (queue_of l) ≤ slots
    → front ≡ link l ++ rest → ⊥

-- The links stand, and those are marked that have a frame to give.
pub record LinksAwake (e : LinkLayer) (store : Store) (others : List Owned) (ms : List Link) : Type 0 where
  pub stand : LinksStand e.config e.links.items store others ms
  pub awake : AreAwake e.has_frame e.links.items ms

-- Nothing has changed but the links and their marks.
pub record SameButLinks (old new : LinkLayer) : Type 0 where
  pub config : new.config ≡ old.config
  pub teis : new.teis ≡ old.teis
  pub units : new.units ≡ old.units
  pub turn : new.turn ≡ old.turn

-- A link that began has become this one, and all others are as they were.
pub record LinkBecomes (number : ℕ) (o : Option ℕ) (l : Link) (old : LinkLayer) (s : Store) (new : LinkLayer) (t : Store) : Type 0 where
  pub stand : (others : List Owned) (ms : List Link) → machine_at ms number ≡ fresh → LinksAwake old s others ms → LinksAwake new t others (set ms number l)
  pub here : (tei : ℕ) → o ≡ Some tei → HasTerms new.links.items number (terms old.config (service_at number) tei)
  pub there : (other : ℕ) → other ≢ number → slice_get (terms_in new.links.items) other ≡ slice_get (terms_in old.links.items) other
  pub used : used_slots t ≡ used_slots s + length (queue_of l)

abbrev pub RestoresLink : ℕ → Option ℕ → List ℕ → List ℕ → LinkLayer → Store → LinkLayer → Store → Type 0
RestoresLink number o front rest old s new t =
    (l : Link) × IsReadAs (link_if o) (IsSavedAt old.config number o) l front rest × LinkBecomes number o l old s new t

abbrev pub HasNoLinkAt : ℕ → ℕ → Option ℕ → List ℕ → LinkLayer → Store → Type 0
HasNoLinkAt slots number o front e s =
    (l : Link) (rest : List ℕ) → IsSavedAt e.config number o l → used_slots s + length (queue_of l) ≤ slots → front ≡ link_if o l ++ rest → ⊥

-- All were read.
pub record LinksBecome (ms : List Link) (old : LinkLayer) (s : Store) (new : LinkLayer) (t : Store) : Type 0 where
  pub stand : (others : List Owned) → LinksAwake old s others (replicate (link_count old.config) fresh) → LinksAwake new t others ms
  pub terms : (number tei : ℕ) → number < link_count old.config → tei_in (places_of old.teis) number ≡ Some tei
      → HasTerms new.links.items number (terms old.config (service_at number) tei)

abbrev pub RestoresLinks : List ℕ → List ℕ → LinkLayer → Store → LinkLayer → Store → Type 0
RestoresLinks front rest old s new t =
    (ms : List Link) × AreSavedLinks old.config (places_of old.teis) ms
    × (front ≡ images_from (places_of old.teis) ms 0 (link_count old.config) ++ rest) × LinksBecome ms old s new t

abbrev pub HasNoLinks : ℕ → List ℕ → Config → Places → Store → Type 0
HasNoLinks slots front c places s =
    (ms : List Link) (rest : List ℕ) → AreSavedLinks c places ms → used_slots s + slots_from ms 0 (link_count c) ≤ slots
    → front ≡ images_from places ms 0 (link_count c) ++ rest → ⊥

-- At no link that a line has does the next round begin, by the octet at the front.
abbrev pub HasNoTurn : List ℕ → Config → Type 0
HasNoTurn front c = (turn : ℕ) (rest : List ℕ) → turn ≤ link_count c → front ≡ turn ∷ rest → ⊥

-- Entities that began have become those of this machine.
pub record LayerBecomes (m : Line) (old : LinkLayer) (s : Store) (new : LinkLayer) (t : Store) : Type 0 where
  pub stands : (others : List Owned) → LayerStands old s others (fresh_line old.config) → LayerStands new t others m

abbrev pub RestoresLayer : List ℕ → List ℕ → LinkLayer → Store → LinkLayer → Store → Type 0
RestoresLayer front rest old s new t =
    (m : Line) × IsReadAs (line old.config) (IsWhole old.config) m front rest × LayerBecomes m old s new t

abbrev pub HasNoLayer : ℕ → List ℕ → LinkLayer → Store → Type 0
HasNoLayer slots front e s =
    (m : Line) (rest : List ℕ) → IsWhole e.config m → used_slots s + slots_of e.config m ≤ slots → front ≡ line e.config m ++ rest → ⊥
