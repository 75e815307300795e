-- How many octets a card of octets stores, and how many it may (profile).
use Rattle.std.specs.Prelude.{ℕ, ◌+◌, ◌*◌, sum_by}
use Rattle.model_bits.specs.OpenGap.{octets_held}
use Rattle.model_bits.specs.Framer.{still_held, last_octets}
use Rattle.model_line.specs.declared.config.Config.{Config}
use Rattle.model_card.specs.Stored as cards
use Rattle.model_card.specs.ports.Port.{Port, left_of}
use Rattle.model_card.specs.ports.Card.{OctetCard}

-- A port: of the frame that is received, its whole octets so far; of the frame that is sent, its octets without check, while
-- eight bits or more are left.
abbrev pub held_received : ℕ → Port → ℕ
held_received n201 p = octets_held n201 p.received

abbrev pub held_sent : Port → ℕ
held_sent p = still_held (left_of p) (last_octets p.items)

abbrev pub held_at : ℕ → Port → ℕ
held_at n201 p = held_received n201 p + held_sent p

abbrev pub stored : OctetCard → ℕ
stored m = cards.stored m.card + sum_by (held_at m.card.config.n201) m.ports

-- For each line what the card of frames may, and a frame that is received, with its check, and one that is sent, without.
abbrev pub limit_of_port : Config → ℕ
limit_of_port c = 2 * c.n201 + 10

abbrev pub limit : Config → ℕ
limit c = cards.limit c + c.lines * limit_of_port c
