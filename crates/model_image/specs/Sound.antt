-- Which cards are saved: sound ones, whose timers are those of their states, and whose numbers have the sizes that they have on
-- a line and in the code.
use Rattle.std.specs.List.{AllByRecursion, AllZip}
use Rattle.std.specs.Prelude.{Bool, false, true, IsSome, get_or, ◌≡◌, ℕ, ◌+◌, ◌≤◌, ◌<◌, ◌^◌, List, [], length, All, Option, None, Some, IfSome}
use Rattle.lapd_clock.specs.InOrder.{IsInOrder}
use Rattle.lapd_clock.specs.Sound.{IsOneEach}
use Rattle.lapd_clock.specs.Timer.{AreInRange}
use Rattle.lapd_clock.specs.Timers.{is_before}
use Rattle.lapd_count.specs.Image.{IsCounted}
use Rattle.model_line.specs.declared.config.Config.{Config}
use Rattle.model_line.specs.Image.{IsSavedLine}
use Rattle.model_line.specs.Line.{Line, link_count, place_at, tei_at}
use Rattle.model_card.specs.Card.{Card}
use Rattle.model_card.specs.Reached.{AreTimed}
use Rattle.model_card.specs.Sound.{IsSound}
use Rattle.model_timed.specs.Clock.{Clock}
use Rattle.model_timed.specs.RunTheSame.{RunAs, as_they_are}
use Rattle.model_image.specs.Images.{Saved}

-- Links wait only where there is a TEI.
pub record AreMarks (c : Config) (l : Line) (waits : List Bool) : Type 0 where
  pub each : length waits ≡ link_count c
  pub there : (number : ℕ) → get_or waits number false ≡ true → IsSome (tei_at (place_at number) l)

-- A clock: the timers of the card run there, each once, and no others; they stand in the order in which they fall due. The moment is
-- before 2^63, and none falls due later than the greatest length, an hour, after it.
pub record IsClockOf (card : Card) (c : Clock) : Type 0 where
  pub lengths : AreInRange c.lengths
  pub now : c.now < 2 ^ 63
  pub moments : All (λ e. e.moment ≤ c.now + 3600000) c.running
  pub in_order : IsInOrder is_before c.running
  pub one_each : IsOneEach c.running
  pub on_lines : AllByRecursion (λ e. e.line < card.config.lines) c.running
  pub running : RunAs as_they_are card c

-- A card that keeps its own timers has a moment for each link of each line, which is not after now; another card has none.
pub record AreMoments (c : Config) (now : ℕ) (moments : List ℕ) : Type 0 where
  pub each : length moments ≡ link_count c
  pub past : All (λ moment. moment ≤ now) moments

abbrev pub AreChanges : Config → Option Clock → List (List ℕ) → Type 0
AreChanges c None changed = changed ≡ []
AreChanges c (Some clock) changed = (length changed ≡ c.lines) × All (AreMoments c clock.now) changed

pub record IsSaved (s : Saved) : Type 0 where
  pub card : IsSound s.card
  pub timed : AreTimed s.card
  pub seed : IfSome s.card.config.seed (λ n. n < 65536)
  pub lines : All (IsSavedLine s.card.config) s.card.lines
  pub each_counted : length s.counted ≡ s.card.config.lines
  pub counted : All IsCounted s.counted
  pub waits : AllZip (AreMarks s.card.config) s.card.lines s.waits
  pub clock : IfSome s.clock (IsClockOf s.card)
  pub changed : AreChanges s.card.config s.clock s.changed
