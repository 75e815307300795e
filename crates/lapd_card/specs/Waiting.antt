-- Which lines of a card have a frame to give (profile).
use Rattle.std.specs.Prelude.{◌≡◌, ℕ, ◌-◌, ◌≤◌, ◌<◌, nat_lt, Bool, true, ◌&&◌, Option, None, IfSome}
use Rattle.std.specs.List.{find, range_with_len}
use Rattle.std.specs.Option.{unwrap_or}
use Rattle.model_line.specs.Counts.{is_given}
use Rattle.model_line.specs.Event.{next, gave}
use Rattle.model_card.specs.Card.{Card}
use Rattle.model_card.specs.Event.{at}
use Rattle.model_card.specs.Machine.{answer}

-- A line has: a call for its next frame gives one. No line has that the card has not.
abbrev pub has_next : ℕ → Card → Bool
has_next number card = nat_lt number card.config.lines && is_given (answer (at number next) card)

-- The first line that has, from one on.
abbrev pub waits_on : Card → ℕ → Bool
waits_on card number = has_next number card

abbrev pub next_waiting : ℕ → Card → Option ℕ
next_waiting from card = find (waits_on card) (range_with_len from (card.config.lines - from))

-- A line of a card that has so many. No card has more than 64 (profile).
pub record IsLineOf (lines number : ℕ) : Type 0 where
  pub within : number < lines
  pub few : number < 64

-- By the answers of the machine: a call for the next frame gives one at that line, and none at those of the card that come
-- before it, from that one on; where no such line is told, at none of these.
pub record IsFirstWaiting (from : ℕ) (card : Card) (first : Option ℕ) : Type 0 where
  pub gives : IfSome first (λ number. (from ≤ number) × (is_given (answer (at number next) card) ≡ true))
  pub others : (number : ℕ) → from ≤ number → number < unwrap_or first card.config.lines → answer (at number next) card ≡ gave None
