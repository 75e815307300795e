-- TEI management of a line, of either kind: what it stands for of the machine's.
use Rattle.std.specs.Prelude.{◌≡◌, ℕ, Bool, true, false, List, [], slice_get, Option, None, option_map}
use Rattle.lapd_frame.specs.declared.addresses.Side.{Side}
use Rattle.model_teis.specs.network.Events as teis
use Rattle.model_teis.specs.network.Machine as tei
use Rattle.model_teis.specs.network.Machine.{Management, empty}
use Rattle.model_teis.specs.Table.{Places}
use Rattle.model_teis.specs.network.Messages as messages
use Rattle.model_teis.specs.terminal.Events as terminals
use Rattle.model_teis.specs.terminal.Machine as terminal
use Rattle.model_teis.specs.terminal.Messages as own_messages
use Rattle.model_line.specs.declared.config.Config.{Config}
use Rattle.model_line.specs.Line.{Own, fresh_line, is_terminal}
use Rattle.lapd_line.specs.declared.managing.Managing.{Managing}
use Rattle.lapd_line.specs.declared.managing.Managing.TheVariants as kind

-- The table of the TEIs.
abbrev pub places_of : Managing → Places
places_of (kind.Network m) = m.places
places_of (kind.Terminal t) = t.places

-- The table, with what the network's side has beside it, of which a terminal has what a line begins with; and what a terminal
-- has. The network's side has nothing of it.
abbrev pub beside_table : Config → Managing → Management
beside_table c (kind.Network m) = m
beside_table c (kind.Terminal t) = empty t.reading c.terminals

abbrev pub management_of : Config → Managing → Management
management_of c x = record (beside_table c x) { places = places_of x }

abbrev pub own_of : Managing → Own
own_of (kind.Network m) = record { number = 0; procedure = None; waiting = [] }
own_of (kind.Terminal t) = record { number = t.number; procedure = t.procedure; waiting = t.waiting }

abbrev pub is_terminals : Managing → Bool
is_terminals (kind.Network m) = false
is_terminals (kind.Terminal t) = true

-- As a line begins.
pub record IsBegunBy (c : Config) (x : Managing) : Type 0 where
  pub management : management_of c x ≡ (fresh_line c).management
  pub own : own_of x ≡ (fresh_line c).own
  pub kind : is_terminals x ≡ is_terminal c

-- The message that has waited longest: its frame, and its type.
abbrev pub offered_by : Side → Managing → Option (List ℕ)
offered_by side (kind.Network m) = teis.offered side m
offered_by side (kind.Terminal t) = terminals.offered t

abbrev pub first_type : Managing → Option ℕ
first_type (kind.Network m) = option_map messages.type_of (slice_get m.waiting 0)
first_type (kind.Terminal t) = option_map own_messages.type_of (slice_get t.waiting 0)

-- It is taken.
abbrev pub without_message : Managing → Managing
without_message (kind.Network m) = kind.Network (teis.after_offer m)
without_message (kind.Terminal t) = kind.Terminal (terminals.after_offer t)

pub record Gives (side : Side) (octets : Option (List ℕ)) (old new : Managing) : Type 0 where
  pub offered : octets ≡ offered_by side old
  pub after : new ≡ without_message old

-- The octets that are held.
abbrev pub held_by : Managing → ℕ
held_by (kind.Network m) = tei.held m
held_by (kind.Terminal t) = terminal.held t
