-- When two lines are the same, as far as a card can tell.
use Rattle.std.specs.Prelude.{◌≡◌, ℕ, ◌<◌}
use Rattle.model_link.specs.Same.{IsSameLink}
use Rattle.model_line.specs.declared.config.Config.{Config}
use Rattle.model_line.specs.Line.{Line, link_count, link_at}

pub record IsSameLine (c : Config) (l m : Line) : Type 0 where
  pub management : l.management ≡ m.management
  pub own : l.own ≡ m.own
  pub links : (number : ℕ) → number < link_count c → IsSameLink (link_at number l) (link_at number m)
  pub units : l.units ≡ m.units
  pub turn : l.turn ≡ m.turn
