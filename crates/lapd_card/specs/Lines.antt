-- The lines of a card and those of its machine, over one shelf.
use Rattle.std.specs.Prelude.{◌≡◌, ◌≤◌, List, [], ◌++◌, length}
use Rattle.std.specs.List.{All, AllByRecursion, flat_map, zip}
use Rattle.lapd_line.specs.declared.frame_line.FrameLine.{FrameLine}
use Rattle.lapd_line.specs.Stands as line
use Rattle.lapd_line.specs.Stands.{config_of, pairs_of}
use Rattle.model_line.specs.declared.config.Config.{Config}
use Rattle.model_line.specs.Line as machine
use Rattle.lapd_count.specs.Counters.{none_counted}
use Rattle.lapd_store.specs.Ownership.{Owned, Holds}
use Rattle.lapd_store.specs.Store.{Store}

-- A line that has the card's configuration, and stands for a line of the machine on some shelf, beside some others.
pub record IsFit (c : Config) (p : FrameLine × machine.Line) : Type 0 where
  pub config : config_of p.0 ≡ c
  pub store : Store
  pub others : List Owned
  pub stands : line.LineStands p.0 store others p.1

-- The slots that it owns there, with their contents.
abbrev pub owned : FrameLine × machine.Line → List Owned
owned p = pairs_of p.0 p.1

-- Each line stands for that of the machine at its place, on this shelf, which holds what the lines own, and nothing
-- else.
pub record LinesStand (c : Config) (lines : List FrameLine) (store : Store) (ms : List machine.Line) : Type 0 where
  pub width : c.n201 ≤ store.width
  pub count : length lines ≡ length ms
  pub fit : All (IsFit c) (zip lines ms)
  pub held : Holds store (flat_map owned (zip lines ms) ++ [])

-- Lines as they begin.
pub record IsFresh (c : Config) (l : FrameLine) : Type 0 where
  pub config : config_of l ≡ c
  pub stands : (store : Store) (others : List Owned) → c.n201 ≤ store.width → Holds store others → line.LineStands l store others (machine.fresh_line c)
  pub counters : l.counters ≡ none_counted

pub record AreFresh (c : Config) (lines : List FrameLine) : Type 0 where
  pub count : length lines ≡ c.lines
  pub each : AllByRecursion (IsFresh c) lines
