-- A line that was only pulled, until nothing is left of it that may go.
use Rattle.std.specs.Prelude.{◌≡◌, ◌≤◌, ℕ, List, ◌++◌}
use Rattle.model_line.specs.declared.config.Config.{Config}
use Rattle.laws_line.specs.Drains.{most_frames}
use Rattle.model_card.specs.ports.Event.{Event}
use Rattle.model_card.specs.ports.Pulls.{ArePullsAt, pulls_at, most_pulls_behind}

-- After whatever happened before, a line was only pulled, as often as the configuration says.
pub record EndsInPulls (c : Config) (events : List Event) (number : ℕ) : Type 0 where
  pub before : List Event
  pub pulls : List Event
  pub split : events ≡ before ++ pulls
  pub only : ArePullsAt number pulls
  pub enough : most_pulls_behind c.n201 (most_frames c) ≤ pulls_at number pulls
