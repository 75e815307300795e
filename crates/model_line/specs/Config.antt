-- Which configurations a card can be started with (profile).
use Rattle.std.specs.Prelude.{ℕ, nat_le, max, Bool, not, ◌&&◌, List, codes, Option, Some, None, if◌then◌else◌}
use Rattle.model_line.specs.declared.config.Config.{Config}
use Rattle.model_line.specs.declared.config.Field.{Field}
use Rattle.model_line.specs.declared.config.Field.TheVariants.{Lines, Terminals, K, K16, Queue, UnitQueue, Control, Slots, N201, N200, Sapi}

-- `low` to `high`, both included.
abbrev pub is_within : ℕ → ℕ → ℕ → Bool
is_within low high n = nat_le low n && nat_le n high

-- SAPI 0 is that of the first service, and 63 that of layer 2 management (Q.921 clause 3.3.3).
unfoldable pub sapi_fault : Config → Option Field
sapi_fault c = if not (is_within 1 62 c.sapi) then Some Sapi else None

-- The first field that is out of range, in the order of the fields.
abbrev pub first_fault : Config → Option Field
first_fault c =
    if not (is_within 1 64 c.lines) then Some Lines
    else if not (is_within 1 8 c.terminals) then Some Terminals
    else if not (is_within 1 127 c.k) then Some K
    else if not (is_within 1 127 c.k16) then Some K16
    else if not (is_within (max c.k c.k16) 127 c.queue) then Some Queue
    else if not (is_within 1 16 c.unit_queue) then Some UnitQueue
    else if not (is_within 2 16 c.control) then Some Control
    else if not (is_within 1 8192 c.slots) then Some Slots
    else if not (is_within 8 260 c.n201) then Some N201
    else if not (is_within 0 10 c.n200) then Some N200
    else sapi_fault c

-- The name of a field, as a fault prints it.
abbrev pub field_name : Field → List ℕ
field_name Lines = codes "lines"
field_name Terminals = codes "terminals"
field_name K = codes "k"
field_name K16 = codes "k16"
field_name Queue = codes "queue"
field_name UnitQueue = codes "unit_queue"
field_name Control = codes "control"
field_name Slots = codes "slots"
field_name N201 = codes "n201"
field_name N200 = codes "n200"
field_name Sapi = codes "sapi"
