-- A link with its shelf, beside TEI management.
use Rattle.std.specs.Prelude.{◌≡◌, []}
use Rattle.model_link.specs.Link as machine
use Rattle.lapd_link.specs.Stands.{LinkStands}
use Rattle.tool_tables.specs.declared.bench.Bench.{Bench}

-- The link stands for some link of the machine, and nobody else uses the shelf of two slots.
abbrev pub Works : Bench → Type 0
Works bench = (m : machine.Link) × LinkStands bench.link bench.shelf [] m × (bench.shelf.slots ≡ 2)
