-- Why a card does not begin (profile).
use Rattle.std.specs.Prelude.{nat_lt, Bool, ◌||◌, Option, Some, None, if◌then◌else◌}
use Rattle.model_line.specs.declared.config.Config.{Config}
use Rattle.model_line.specs.declared.config.Field.{Field}
use Rattle.model_line.specs.Config.{first_fault}
use Rattle.lapd_store.specs.Store.{Store, used_slots}
use Rattle.lapd_card.specs.declared.fault.CardFault.{CardFault}
use Rattle.lapd_card.specs.declared.fault.CardFault.TheVariants.{BadConfig, ShelfTooSmall}

-- The shelf has too few slots, or they are too narrow, or one is in use.
abbrev pub is_too_small : Config → Store → Bool
is_too_small c shelf = nat_lt shelf.slots c.slots || nat_lt shelf.width c.n201 || nat_lt 0 (used_slots shelf)

-- The first that holds; for want of memory it may still not begin.
abbrev pub fault_of_shelf : Config → Store → Option CardFault
fault_of_shelf c shelf = if is_too_small c shelf then Some ShelfTooSmall else None

abbrev pub fault_by : Option Field → Config → Store → Option CardFault
fault_by (Some field) c shelf = Some (BadConfig field)
fault_by None c shelf = fault_of_shelf c shelf

abbrev pub start_fault : Config → Store → Option CardFault
start_fault c shelf = fault_by (first_fault c) c shelf
