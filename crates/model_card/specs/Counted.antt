-- What is counted on a card: of each line, what the moments at it show (`shown` of `model_line`).
use Rattle.std.specs.Prelude.{◌≡◌, ℕ, ◌+◌, ◌==◌, ◌≤◌, ◌<◌, List, [], fold, get_or, length, min, set, flat_map, if◌then◌else◌}
use Rattle.lapd_count.specs.declared.counter.Counter.{Counter}
use Rattle.lapd_count.specs.declared.counters.Counters.{Counters}
use Rattle.lapd_count.specs.Counters.{More, count, most, none_counted, value_in, with_all, amount_in}
use Rattle.model_line.specs.declared.config.Config.{Config}
use Rattle.model_line.specs.Counted.{shown}
use Rattle.model_line.specs.Event as line_event
use Rattle.model_card.specs.Card.{Card}
use Rattle.model_card.specs.Event.{Event}
use Rattle.model_card.specs.Machine.{answer}
use Rattle.model_card.specs.Run.{Moment}

-- An event at one line is counted there, and on no other.
abbrev pub one_counted : ℕ → Config → line_event.Event → line_event.Answer → List Counters → List Counters
one_counted number c e a all = set all number (with_all (get_or all number none_counted) (shown c e a))

abbrev pub moment_counted : List Counters → Moment → List Counters
moment_counted all m = one_counted m.event.line m.card.config m.event.what m.answer all

abbrev pub all_counted : List Counters → List Moment → List Counters
all_counted all ms = fold moment_counted all ms

-- The moment of an event at a card.
abbrev pub moment_of : Card → Event → Moment
moment_of card e = record { card = card; event = e; answer = answer e card }

-- What the moments at a line show.
abbrev pub shown_at : ℕ → Moment → List More
shown_at number m =
    if m.event.line == number then shown m.card.config m.event.what m.answer else []

abbrev pub all_shown : ℕ → List Moment → List More
all_shown number ms = flat_map (shown_at number) ms

-- Counters have a value of 64 bits for each name.
pub record AreCounters (counters : Counters) : Type 0 where
  pub whole : length counters.values ≡ count
  pub few : (counter : Counter) → value_in counters counter ≤ most

-- After any moments each counter of a line is what it was before, and so many more as the moments at this line show under its
-- name; or its greatest value, where that is less.
abbrev pub CountersAreNumbers : Type 0
CountersAreNumbers =
    (all : List Counters) (ms : List Moment) (number : ℕ) (counter : Counter) → number < length all → AreCounters (get_or all number none_counted)
    → value_in (get_or (all_counted all ms) number none_counted) counter
    ≡ min (value_in (get_or all number none_counted) counter + amount_in counter (all_shown number ms)) most
