-- What a line runs by its places: the states of links, and the timers of the line itself.
use Rattle.std.specs.Prelude.{ℕ, List, [], ◌∷◌, ◌++◌, Option, Some, None, is_some, if◌then◌else◌}
use Rattle.lapd_frame.specs.declared.services.Service.TheVariants.{Call, Packet}
use Rattle.lapd_frame.specs.declared.timers.Timer.{Timer}
use Rattle.lapd_frame.specs.declared.timers.Timer.TheVariants.{T201, T202}
use Rattle.lapd_line.specs.declared.managing.Managing.{Managing}
use Rattle.lapd_line.specs.declared.managing.Managing.TheVariants as kind
use Rattle.model_line.specs.Line.{Line, state_in, tei_at}

-- The states of the two links of a place, that of call control first, if a TEI is there.
abbrev pub states_at : ℕ → Line → Option (ℕ × ℕ)
states_at place l = if is_some (tei_at place l) then Some (state_in l Call place, state_in l Packet place) else None

-- T201 while a TEI is checked, and T202 while a terminal has a procedure.
abbrev pub own_timers : Line → List Timer
own_timers l = (if is_some l.management.check then T201 ∷ [] else []) ++ (if is_some l.own.procedure then T202 ∷ [] else [])

-- So it is of either kind of TEI management.
abbrev pub timers_of : Managing → List Timer
timers_of (kind.Network m) = if is_some m.check then T201 ∷ [] else []
timers_of (kind.Terminal t) = if is_some t.procedure then T202 ∷ [] else []
