-- What the data link layer entities of a line stand for: TEI management, the links, and the unit data that waits.
use Rattle.std.specs.Prelude.{◌≡◌, ℕ, ◌≤◌, ◌<◌, ◌++◌, List, length, Option, Some}
use Rattle.std.specs.List.{All, zip}
use Rattle.std.specs.Option.{option_map_or}
use Rattle.model_bits.specs.Stream as stream
use Rattle.lapd_store.specs.Ownership.{Owned, Holds}
use Rattle.lapd_store.specs.Store.{Store, SameLimits}
use Rattle.model_line.specs.declared.config.Config.{Config}
use Rattle.model_line.specs.Event.{nothing}
use Rattle.model_line.specs.Line.{Line, is_terminal, link_count, place_at, service_at, tei_at, terms}
use Rattle.model_line.specs.Heard.{aim_of_heard}
use Rattle.model_line.specs.Effect.{Aim, at_none, of_aim}
use Rattle.model_line.specs.Sound.{IsInRange, IsSound}
use Rattle.lapd_line.specs.declared.link_layer.LinkLayer.{LinkLayer}
use Rattle.lapd_link_steps.specs.declared.report.BareReport.{BareReport}
use Rattle.lapd_line.specs.Awake.{AreAwake}
use Rattle.lapd_line.specs.Links.{LinkFits, HasTerms, links_pairs}
use Rattle.lapd_line.specs.Managing.{management_of, own_of, is_terminals}
use Rattle.lapd_line.specs.Units.{AreFor, unit_pairs}
use Rattle.lapd_line.specs.Reports.{told_in}

-- The entities agree with the machine of a line, which is sound; and the shelf holds exactly what they and others own.
pub record LayerStands (e : LinkLayer) (store : Store) (others : List Owned) (m : Line) : Type 0 where
  pub range : IsInRange e.config
  pub wide : e.config.n201 ≤ store.width
  pub sound : IsSound e.config m
  -- TEI management is of the kind that the configuration says
  pub management : m.management ≡ management_of e.config e.teis
  pub own : m.own ≡ own_of e.teis
  pub kind : is_terminals e.teis ≡ is_terminal e.config
  pub count : length e.links.items ≡ link_count e.config
  pub links : All (LinkFits e.config) (zip e.links.items m.links)
  -- the links of a TEI on the line have its parameters
  pub terms : (number tei : ℕ) → number < link_count e.config → tei_at (place_at number) m ≡ Some tei
      → HasTerms e.links.items number (terms e.config (service_at number) tei)
  pub addressed : AreFor e.units.waiting m.units
  pub capacity : e.units.capacity ≡ e.config.unit_queue
  pub turn : m.turn ≡ e.turn
  -- the links that have a frame to give
  pub has_frame : AreAwake e.has_frame e.links.items m.links
  pub held : Holds store ((links_pairs e.links.items m.links ++ unit_pairs e.units.waiting m.units) ++ others)

-- There is a past that they stand for.
abbrev pub Standing : LinkLayer → Store → Type 0
Standing e store = (others : List Owned) × (m : Line) × LayerStands e store others m

-- The entities have served what an event is to them, and tell what the machine tells. What is delivered lies in these
-- octets.
pub record Serves (aim : Line → Aim) (octets : List ℕ) (old : LinkLayer) (s : Store) (new : LinkLayer) (t : Store) (outcome : BareReport) : Type 0 where
  pub config : new.config ≡ old.config
  pub limits : SameLimits s t
  pub stands : (others : List Owned) (m : Line) → LayerStands old s others m → LayerStands new t others (of_aim old.config (aim m) m).line
  pub told : (others : List Owned) (m : Line) → LayerStands old s others m → told_in octets outcome ≡ (of_aim old.config (aim m) m).told

-- the same aim, whatever the past
abbrev pub always : Aim → Line → Aim
always aim m = aim

-- what is heard, or nothing
abbrev pub aim_of_event : Config → Option stream.Event → Line → Aim
aim_of_event c heard m = option_map_or (aim_of_heard c m) heard (at_none nothing)
