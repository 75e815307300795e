-- The links of a line, one after the other.
use Rattle.std.specs.Prelude.{◌≡◌, ◌≤◌, ◌<◌, ◌+◌, ℕ, Option, Some, None}
use Rattle.model_card.specs.Card as machine
use Rattle.lapd_c.specs.declared.plain.links.PlainLink.{PlainLink}
use Rattle.lapd_c.specs.LinkPlaces.{service_at, tei_at, plain_link}

-- The state of the link at a place of a line; none where its TEI is not on the line.
abbrev pub state_at : ℕ → machine.Card → ℕ → Option ℕ
state_at line m place = machine.state line (service_at place) (tei_at place) m

-- From one place up to another there is no link.
abbrev pub AreFree : ℕ → machine.Card → ℕ → ℕ → Type 0
AreFree line m from to = (place : ℕ) → from ≤ place → place < to → state_at line m place ≡ None

-- The first link from a place on is that of a place, in a state.
pub record IsFirst (line : ℕ) (m : machine.Card) (from : ℕ) (found : ℕ × ℕ) : Type 0 where
  pub place : from ≤ found.0
  pub state : state_at line m found.0 ≡ Some found.1
  pub free : AreFree line m from found.0

-- From a place on there is none at all: a line has 254 places.
pub record NoneFrom (line : ℕ) (m : machine.Card) (from : ℕ) : Type 0 where
  pub free : AreFree line m from 254

abbrev pub FirstFrom : ℕ → machine.Card → ℕ → Option (ℕ × ℕ) → Type 0
FirstFrom line m from None = NoneFrom line m from
FirstFrom line m from (Some found) = IsFirst line m from found

-- It is told, with the place behind it.
pub record IsNext (line : ℕ) (m : machine.Card) (from to : ℕ) (link : PlainLink) : Type 0 where
  pub found : ℕ × ℕ
  pub first : IsFirst line m from found
  pub behind : to ≡ found.0 + 1
  pub told : link ≡ plain_link found.0 found.1
