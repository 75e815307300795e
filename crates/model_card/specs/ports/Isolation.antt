-- What a card of octets does at one line, beside what happens at the others.
use Rattle.std.specs.Prelude.{ℕ, ◌==◌, Bool, false, ◌&&◌, not, List, map, filter}
use Rattle.model_line.specs.Counts.{is_pool}
use Rattle.model_card.specs.ports.Event.{Event}
use Rattle.model_card.specs.ports.Port.{Answer, refused}
use Rattle.model_card.specs.ports.Run.{Moment}

-- A request that finds the card's pool full.
abbrev pub is_pool_full : Answer → Bool
is_pool_full (refused why) = is_pool why
is_pool_full other = false

-- The moments at a line in which no request found the card's pool full.
abbrev pub is_served_at : ℕ → Moment → Bool
is_served_at number m = (m.event.line == number) && not (is_pool_full m.answer)

-- Their events, and their answers, octets pulled among them.
abbrev pub events_at : ℕ → List Moment → List Event
events_at number ms = map (λ (m : Moment). m.event) (filter (is_served_at number) ms)

abbrev pub answers_at : ℕ → List Moment → List Answer
answers_at number ms = map (λ (m : Moment). m.answer) (filter (is_served_at number) ms)
