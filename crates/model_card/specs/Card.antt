-- A card: its lines, which share its pool of slots.
use Rattle.std.specs.Prelude.{ℕ, nat_le, nat_lt, Bool, List, get_or, replicate, sum_by, Option, None, if◌then◌else◌}
use Rattle.lapd_frame.specs.declared.services.Service.{Service}
use Rattle.model_line.specs.declared.config.Config.{Config}
use Rattle.model_link.specs.declared.counts.LinkCounts.{LinkCounts}
use Rattle.model_line.specs.Line.{Line, fresh_line, counts_of, state_of}
use Rattle.model_line.specs.Stored.{slots_of}

pub record Card : Type 0 where
  pub config : Config
  pub lines : List Line

-- As a card begins.
abbrev pub fresh : Config → Card
fresh c = record { config = c; lines = replicate c.lines (fresh_line c) }

-- A line, counted from 0.
abbrev pub line_at : ℕ → Card → Line
line_at number card = get_or card.lines number (fresh_line card.config)

-- The slots in use, of all lines together, and whether they are all that there are.
abbrev pub used : Card → ℕ
used card = sum_by (slots_of card.config) card.lines

abbrev pub is_full : Card → Bool
is_full card = nat_le card.config.slots (used card)

-- The state of the link of a service with this TEI, by its number in Q.921; none where the card has no such line, or
-- the TEI is not on it.
abbrev pub state : ℕ → Service → ℕ → Card → Option ℕ
state number service tei card =
    if nat_lt number card.config.lines then state_of service tei (line_at number card) else None

-- What was counted of that link.
abbrev pub counts : ℕ → Service → ℕ → Card → Option LinkCounts
counts number service tei card =
    if nat_lt number card.config.lines then counts_of service tei (line_at number card) else None
