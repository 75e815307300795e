-- What a line holds of its past.
--
-- A call comes to its clauses so. What is heard: `serve` takes it to whom it is for, by one small function for each row. One
-- link of many: a call takes the link out of the list; what the other links, the units and the other lines own are then its
-- `others`, which its own contract keeps (`proofs/LinkSteps.antt`). A TEI that comes or leaves: `lapd_tei` tells the change,
-- and the two links of that place begin or are cleared, that of call control first. A call for the next frame: the first that
-- has one gives it: TEI management, the unit data, then the links in turn. It is copied before its slot can be freed, so no
-- later acknowledgement changes a frame that is on its way.
use Rattle.std.specs.Prelude.{◌≡◌, List, ◌++◌, Option, Some, None}
use Rattle.model_bits.specs.Stream as stream
use Rattle.lapd_store.specs.Ownership.{Owned}
use Rattle.lapd_store.specs.Store.{Store, SameLimits}
use Rattle.model_line.specs.declared.config.Config.{Config}
use Rattle.model_line.specs.Counted.{counted}
use Rattle.model_line.specs.Event.{Event, Answer, hears, told, nothing}
use Rattle.model_line.specs.Line as machine
use Rattle.model_line.specs.Machine.{after, answer}
use Rattle.lapd_line.specs.declared.frame_line.FrameLine.{FrameLine}
use Rattle.lapd_line.specs.LinkLayer.{LayerStands}
use Rattle.lapd_line.specs.Links.{links_pairs}
use Rattle.lapd_line.specs.Units.{unit_pairs}

abbrev pub config_of : FrameLine → Config
config_of line = line.layer.config

-- What a line owns on the shelf: the slots of its links and of the unit data that waits, with their contents.
abbrev pub pairs_of : FrameLine → machine.Line → List Owned
pairs_of line m = links_pairs line.layer.links.items m.links ++ unit_pairs line.layer.units.waiting m.units

-- A line stands for a past beside others on its shelf: its entities do, and the shelf holds exactly what the line and the
-- others own.
pub record LineStands (line : FrameLine) (store : Store) (others : List Owned) (m : machine.Line) : Type 0 where
  pub layer : LayerStands line.layer store others m

-- An event leads a line and its shelf from one value to another: for every past, and every list of what others own, for
-- which they stood, they stand for that past with the event, and for the same others; and its counters count what the event
-- and its answer show.
pub record Leads (event : Event) (old : FrameLine) (s : Store) (new : FrameLine) (t : Store) : Type 0 where
  pub config : config_of new ≡ config_of old
  pub limits : SameLimits s t
  pub stands : (others : List Owned) (m : machine.Line) → LineStands old s others m → LineStands new t others (after (config_of old) event m)
  pub counted : (others : List Owned) (m : machine.Line) → LineStands old s others m → new.counters ≡ counted (config_of old) event m old.counters

-- What is heard, if anything is, leads a line on; else all stays.
abbrev pub LeadsIfHeard : Option stream.Event → FrameLine → Store → FrameLine → Store → Type 0
LeadsIfHeard None old s new t = (new ≡ old) × (t ≡ s)
LeadsIfHeard (Some e) old s new t = Leads (hears e) old s new t

-- And it is answered; where nothing is heard, nothing is told.
abbrev pub answer_if_heard : Config → Option stream.Event → machine.Line → Answer
answer_if_heard c None m = told nothing
answer_if_heard c (Some e) m = answer c (hears e) m
