-- How many octets a card stores, and how many it may (profile).
use Rattle.std.specs.Prelude.{ℕ, ◌+◌, ◌*◌, sum_by}
use Rattle.model_line.specs.declared.config.Config.{Config}
use Rattle.model_line.specs.Stored.{held_most, stored_in}
use Rattle.model_card.specs.Card.{Card}

abbrev pub stored : Card → ℕ
stored card = sum_by (stored_in card.config) card.lines

-- For each line: four octets for each control frame that waits, of two links for each TEI; eight for each of four management
-- messages; and three for each of four assignments that are remembered. (A terminal remembers none, and has eight for each
-- message of its own.) For each slot: the contents.
abbrev pub limit_in : Config → ℕ
limit_in c = 8 * c.control * c.terminals + held_most c

abbrev pub limit : Config → ℕ
limit c = c.lines * limit_in c + c.slots * c.n201
