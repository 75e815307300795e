-- Pulls of a line are calls for its next frame.
use Rattle.std.specs.Prelude.{◌≡◌, ℕ, ◌==◌, ◌&&◌, ◌+◌, ◌*◌, ◌/◌, ◌<◌, ◌≤◌, Bool, true, false, List, [], ◌∷◌, length, All, if◌then◌else◌}
use Rattle.model_card.specs.Takes.{AreTakesAt, takes_at, takes_of}
use Rattle.model_card.specs.ports.Card.{OctetCard, port_at}
use Rattle.model_card.specs.ports.Event.{Event}
use Rattle.model_card.specs.ports.Port as port
use Rattle.model_card.specs.ports.Port.{Port, pull, left_of}
use Rattle.model_card.specs.ports.Reached.{IsReached}
use Rattle.model_card.specs.ports.Run.{meant_all, AreAtLines}
use Rattle.model_card.specs.ports.Sound.{IsSoundOctetCard}

-- What happens at a line are pulls; at the others anything may. And how many they are.
abbrev pub ArePullsAt : ℕ → List Event → Type 0
ArePullsAt number events = All (λ e. e.line ≡ number → e.what ≡ pull) events

abbrev pub pulls_at : ℕ → List Event → ℕ
pulls_at number [] = 0
pulls_at number (e ∷ events) = (if e.line == number then 1 else 0) + pulls_at number events

-- Or anything happens at the line, too. How many of these events are its pulls.
abbrev pub is_pull : port.Event → Bool
is_pull pull = true
is_pull other = false

abbrev pub pulls_of : ℕ → List Event → ℕ
pulls_of number [] = 0
pulls_of number (e ∷ events) = (if e.line == number && is_pull e.what then 1 else 0) + pulls_of number events

-- The bits of the longest frame at worst: four octets, N201 of information and two of the check, a 0 stuffed after every
-- fifth bit, and the closing flag (Q.921 clauses 2.2, 2.6, 2.7 and 5.9.3).
abbrev pub longest_text : ℕ → ℕ
longest_text n201 = let octets = 8 * (n201 + 6) in octets + octets / 5 + 8

-- So many pulls of a port, which are octets of the line, are enough for the call behind n others: they give more than the
-- bits that are left and those of n items at worst.
abbrev pub pulls_behind : ℕ → Port → ℕ → ℕ
pulls_behind n201 p n = (length (left_of p) + n * longest_text n201) / 8 + 1

-- At most the longest frame is left, whatever happened. So these are at most as many:
abbrev pub most_pulls_behind : ℕ → ℕ → ℕ
most_pulls_behind n201 n = (longest_text n201 + n * longest_text n201) / 8 + 1

abbrev pub HasFewLeft : OctetCard → ℕ → Type 0
HasFewLeft m number = length (left_of (port_at number m)) ≤ longest_text m.card.config.n201

abbrev pub HasFewBehind : OctetCard → ℕ → Type 0
HasFewBehind m number = (n : ℕ) → pulls_behind m.card.config.n201 (port_at number m) n ≤ most_pulls_behind m.card.config.n201 n

-- Of each line of a card that is reached.
abbrev pub OfEachReached : (OctetCard → ℕ → Type 0) → Type 0
OfEachReached P = (m : OctetCard) (number : ℕ) → IsReached m → number < m.card.config.lines → P m number

-- Where a line is only pulled, its card of frames is only called for the next frame there, once a pull at most, and more
-- often than n times once the pulls are enough for that; this also where anything else happens at the line.
pub record PullsAreTakes : Type 0 where
  pub only : (m : OctetCard) (events : List Event) (number : ℕ) → ArePullsAt number events → AreTakesAt number (meant_all m events)
  pub few : (m : OctetCard) (events : List Event) (number : ℕ) → takes_at number (meant_all m events) ≤ pulls_at number events
  pub enough : (m : OctetCard) (events : List Event) (number n : ℕ) → IsSoundOctetCard m → AreAtLines m events → number < m.card.config.lines → ArePullsAt number events →
      pulls_behind m.card.config.n201 (port_at number m) n ≤ pulls_at number events → n < takes_at number (meant_all m events)
  pub meanwhile : (m : OctetCard) (events : List Event) (number n : ℕ) → IsSoundOctetCard m → AreAtLines m events → number < m.card.config.lines →
      pulls_behind m.card.config.n201 (port_at number m) n ≤ pulls_of number events → n < takes_of number (meant_all m events)
  pub left : OfEachReached HasFewLeft
  pub most : OfEachReached HasFewBehind
