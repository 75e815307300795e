-- Words that stand for what a controller tells in place of a frame.
use Rattle.std.specs.Prelude.{ℕ, if◌then◌else◌, List, codes, bytes_eq, Result, Ok, Err}
use Rattle.model_line.specs.declared.faults.Fault.{Fault}
use Rattle.model_line.specs.declared.faults.Fault.TheVariants.{Fcs, Abort, Ragged, Short}
use Rattle.lapd_script.specs.declared.kind.FaultKind.{FaultKind}
use Rattle.lapd_script.specs.declared.kind.FaultKind.TheVariants.{BadCause}

abbrev pub cause : List ℕ → Result Fault FaultKind
cause word =
    if bytes_eq word (codes "fcs") then Ok Fcs
    else if bytes_eq word (codes "abort") then Ok Abort
    else if bytes_eq word (codes "ragged") then Ok Ragged
    else if bytes_eq word (codes "short") then Ok Short
    else Err BadCause
