-- The octets that a line stores (profile): those of the frames that wait and of assignments that are remembered, and one
-- while any check of a TEI is due; and the contents that wait, which stand in slots of the card.
use Rattle.std.specs.Prelude.{ℕ, ◌+◌, ◌*◌, length, sum_by, List, if◌then◌else◌}
use Rattle.std.specs.List.{range_with_len}
use Rattle.model_link.specs.Link.{queue_of}
use Rattle.model_link.specs.Rises as links
use Rattle.model_teis.specs.network.Machine.{held}
use Rattle.model_teis.specs.terminal.Machine as terminals
use Rattle.model_line.specs.declared.config.Config.{Config}
use Rattle.model_line.specs.Line.{Line, is_terminal, terminal_in, UnitData, link_count, terms_at, link_at}

-- The sum over the links of a line.
abbrev pub sum_of_links : Config → (ℕ → ℕ) → ℕ
sum_of_links c f = sum_by f (range_with_len 0 (link_count c))

-- Of the control frames of a link.
abbrev pub held_by_link : Config → Line → ℕ → ℕ
held_by_link c l number = links.held (terms_at c number l) (link_at number l)

-- What a line holds beside contents in slots.
abbrev pub held_in : Config → Line → ℕ
held_in c l = held l.management + terminals.held (terminal_in l) + sum_of_links c (held_by_link c l)

-- The messages and assignments that a line holds have so many octets at most: at a terminal one message more than it may have
-- TEIs.
abbrev pub held_most : Config → ℕ
held_most c = if is_terminal c then 8 * (c.terminals + 1) else 32 + 12

-- The slots that a line uses: one for each contents that a link keeps until they are acknowledged, and for each unit
-- data.
abbrev pub slots_by_link : Line → ℕ → ℕ
slots_by_link l number = length (queue_of (link_at number l))

abbrev pub slots_of : Config → Line → ℕ
slots_of c l = length l.units + sum_of_links c (slots_by_link l)

-- The octets in them.
abbrev pub total_length : List (List ℕ) → ℕ
total_length contents = sum_by length contents

abbrev pub unit_contents : UnitData → List ℕ
unit_contents unit = unit.contents

abbrev pub unit_length : UnitData → ℕ
unit_length unit = length unit.contents

abbrev pub octets_by_link : Line → ℕ → ℕ
octets_by_link l number = total_length (queue_of (link_at number l))

abbrev pub octets_of : Config → Line → ℕ
octets_of c l = sum_by unit_length l.units + sum_of_links c (octets_by_link l)

abbrev pub stored_in : Config → Line → ℕ
stored_in c l = held_in c l + octets_of c l
