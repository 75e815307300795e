-- A frame that a controller of a line's flags, stuffed 0s and checks brings, and a fault that it tells in place of one: what
-- they are heard as (Q.921 clauses 2.7, 2.9 and 2.10).
use Rattle.std.specs.Prelude.{ℕ, ◌+◌, nat_lt, List, length, take, if◌then◌else◌}
use Rattle.lapd_frame.specs.Faults.{is_short}
use Rattle.model_bits.specs.Stream.{Event, frame, overlong, dropped}
use Rattle.model_bits.specs.declared.heard.Cause.{Cause}
use Rattle.model_bits.specs.declared.heard.Cause.TheVariants as cause
use Rattle.model_line.specs.declared.faults.Fault.{Fault}
use Rattle.model_line.specs.declared.faults.Fault.TheVariants.{Fcs, Abort, Ragged, Short}

-- What it is heard as, where information fields have at most `n201` octets: an address has two octets, and a control
-- field two at most.
abbrev pub came : ℕ → List ℕ → Event
came n201 octets =
    if is_short octets then dropped cause.Short
    else if nat_lt (n201 + 4) (length octets) then overlong (take 4 octets)
    else frame octets

-- A fault is heard as what is dropped for its cause.
abbrev pub cause_of : Fault → Cause
cause_of Fcs = cause.Fcs
cause_of Abort = cause.Abort
cause_of Ragged = cause.Ragged
cause_of Short = cause.Short
