-- How many octets an image has at most.
use Rattle.std.specs.Prelude.{ℕ, ◌+◌, ◌*◌, Bool, if◌then◌else◌}
use Rattle.lapd_count.specs.Counters.{count}
use Rattle.model_line.specs.declared.config.Config.{Config}
use Rattle.model_line.specs.Line.{is_terminal, link_count}

-- TEI management beside the table: a terminal has a message more than it has TEIs.
abbrev pub most_teis : Config → ℕ
most_teis c = if is_terminal c then 7 + 5 * (c.terminals + 1) else 39

-- A link without its contents.
abbrev pub most_link : Config → ℕ
most_link c = 19 + 3 * c.control

-- A line without contents and moments: its places, TEI management, unit data, whose turn it is, the links, the counters, and
-- which links wait.
abbrev pub most_line : Config → ℕ
most_line c = c.terminals + most_teis c + (1 + c.unit_queue) + 1 + link_count c * most_link c + 8 * count + 2

-- Each contents have a slot.
abbrev pub most_contents : Config → ℕ
most_contents c = c.slots * (2 + c.n201)

-- Of a card that keeps its own timers: lengths, the moments of timers, and those at which states changed.
abbrev pub most_clock : Config → ℕ
most_clock c = 24 + c.lines * (8 * (link_count c + 1)) + c.lines * (8 * link_count c)

abbrev pub most_octets : Config → Bool → ℕ
most_octets c timed = 22 + c.lines * most_line c + most_contents c + (if timed then most_clock c else 0)
