-- A clock beside a card, in an image. Which timers run follows from the card, so only their moments are in it.
use Rattle.std.specs.Prelude.{ℕ, List, [], ◌++◌, flat_map, Option, None, Some}
use Rattle.std.specs.List.{range_with_len}
use Rattle.std.specs.Option.{unwrap_or}
use Rattle.lapd_clock.specs.Moments.{moment_of}
use Rattle.lapd_clock.specs.Timer.{Timer, Lengths}
use Rattle.lapd_image.specs.Numbers.{number}
use Rattle.model_line.specs.Image.{timers}
use Rattle.model_card.specs.Card.{Card, line_at}
use Rattle.model_timed.specs.Clock.{Clock}

-- The moment at which a timer falls due, in eight octets; those of a line, and of all lines in their order.
abbrev pub moment : Clock → ℕ → Timer → List ℕ
moment clock line timer = number 8 (unwrap_or (moment_of line timer clock.running) 0)

abbrev pub moments_at : Card → Clock → ℕ → List ℕ
moments_at card clock line = flat_map (moment clock line) (timers card.config (line_at line card))

abbrev pub moments : Card → Clock → List ℕ
moments card clock = flat_map (moments_at card clock) (range_with_len 0 card.config.lines)

-- How long T200, T203, T201 and T202 run that are started, in four octets each.
abbrev pub lengths : Lengths → List ℕ
lengths l = number 4 l.t200 ++ (number 4 l.t203 ++ (number 4 l.t201 ++ number 4 l.t202))

-- Of a card that keeps its own timers: their lengths, the moment that it is now in eight octets, and their moments.
abbrev pub clock : Card → Option Clock → List ℕ
clock card None = []
clock card (Some c) = lengths c.lengths ++ (number 8 c.now ++ moments card c)
