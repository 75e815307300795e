-- An event that TEI management has served, and whose changes the links have still to follow.
use Rattle.std.specs.Prelude.{◌≡◌}
use Rattle.lapd_store.specs.Store.{Store}
use Rattle.model_teis.specs.Changes.{Moves}
use Rattle.lapd_tei.specs.Outcome.{told_of}
use Rattle.lapd_tei.specs.declared.outcome.TeiOutcome.{TeiOutcome}
use Rattle.model_line.specs.declared.config.Config.{Config}
use Rattle.model_line.specs.Effect.{Aim, of_aim, of_change, told_of_management}
use Rattle.model_line.specs.Line.{Line, is_terminal}
use Rattle.model_line.specs.Sound.{IsInRange, IsSound}
use Rattle.lapd_line.specs.declared.link_layer.LinkLayer.{LinkLayer}
use Rattle.lapd_line.specs.declared.managing.Managing.{Managing}
use Rattle.lapd_line.specs.LinkLayer.{Standing}
use Rattle.lapd_line.specs.Managing.{management_of, places_of, own_of, is_terminals}

-- A line that stands for it, and how the aim leads that line on: the table has moved as is told, and the rest is to follow.
pub record Finds (c : Config) (x : Managing) (m : Line) : Type 0 where
  pub range : IsInRange c
  pub sound : IsSound c m
  pub kind : is_terminals x ≡ is_terminal c
  pub management : m.management ≡ management_of c x
  pub own : m.own ≡ own_of x

pub record Leads (c : Config) (aim : Aim) (now : Managing) (outcome : TeiOutcome) (m : Line) : Type 0 where
  pub effect : of_aim c aim m ≡ of_change c outcome.change (told_of_management (told_of outcome)) (record m { management = management_of c now; own = own_of now })
  pub moves : Moves m.management.places outcome.change (places_of now)
  pub sound : IsSound c (of_aim c aim m).line

-- This was told of the event, which found TEI management so.
pub record IsAnswerTo (c : Config) (aim : Aim) (before now : Managing) (outcome : TeiOutcome) : Type 0 where
  pub kind : is_terminals now ≡ is_terminals before
  pub leads : (m : Line) → Finds c before m → Leads c aim now outcome m

abbrev pub Answers : Aim → Managing → Managing → TeiOutcome → Type 0
Answers aim before now outcome = (c : Config) → IsAnswerTo c aim before now outcome

abbrev pub with_management : Managing → LinkLayer → LinkLayer
with_management before e = record e { teis = before }

abbrev pub Changing : LinkLayer → Store → TeiOutcome → Type 0
Changing e store outcome = (aim : Aim) × (before : Managing) × IsAnswerTo e.config aim before e.teis outcome × Standing (with_management before e) store
