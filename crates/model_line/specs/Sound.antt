-- What holds of every line between two events.
use Rattle.std.specs.Prelude.{◌≡◌, ℕ, ◌≤◌, ◌<◌, length, replicate, All, Bool, true, false, [], Option, Some, None}
use Rattle.model_link.specs.Link.{Link, fresh}
use Rattle.model_link.specs.Sound as links
use Rattle.model_teis.specs.network.Machine.{Management}
use Rattle.model_teis.specs.network.Sound as tei
use Rattle.model_teis.specs.terminal.Sound as terminals
use Rattle.model_line.specs.declared.config.Config.{Config}
use Rattle.model_line.specs.Config.{first_fault}
use Rattle.model_line.specs.Line.{Line, Own, is_terminal, terminal_with, UnitData, link_count, service_at, place_at, tei_at, terms, link_at}

-- The configuration is one with which a card can be started.
abbrev pub IsInRange : Config → Type 0
IsInRange c = first_fault c ≡ None

-- A link of a free place is as it begins; that of a TEI is sound.
abbrev pub IsSoundAt : Config → ℕ → Link → Option ℕ → Type 0
IsSoundAt c number link None = link ≡ fresh
IsSoundAt c number link (Some tei) = links.IsSound (terms c (service_at number) tei) link

-- Unit data that waits is for a terminal or the group, and has at most N201 octets.
pub record IsUnitData (c : Config) (unit : UnitData) : Type 0 where
  pub tei : unit.tei ≤ 127
  pub size : length unit.contents ≤ c.n201

-- What the network's side has of TEI management beside the table of the TEIs is as it began.
pub record IsUnused (m : Management) : Type 0 where
  pub remembered : m.remembered ≡ []
  pub check : m.check ≡ None
  pub to_check : m.to_check ≡ replicate (length m.places) false
  pub waiting : m.waiting ≡ []

-- So it is at a terminal, whose own TEI management is sound; at the other sides nothing of a terminal is under way.
abbrev pub IsOfSide : Bool → Management → Own → Type 0
IsOfSide true m own = terminals.IsSound (terminal_with m own) × IsUnused m
IsOfSide false m own = (own.procedure ≡ None) × (own.waiting ≡ [])

pub record IsSound (c : Config) (l : Line) : Type 0 where
  pub management : tei.IsSound l.management
  pub reading : l.management.reading ≡ c.reading
  pub own : IsOfSide (is_terminal c) l.management l.own
  pub places : length l.management.places ≡ c.terminals
  pub count : length l.links ≡ link_count c
  pub links : (number : ℕ) → number < link_count c → IsSoundAt c number (link_at number l) (tei_at (place_at number) l)
  pub units : All (IsUnitData c) l.units
  pub few_units : length l.units ≤ c.unit_queue
  pub turn : l.turn ≤ link_count c
