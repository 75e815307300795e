-- What a controller tells in place of a frame, as numbers.
use Rattle.std.specs.Prelude.{◌≡◌, ℕ, ◌==◌, Result, Ok, Err, Some, if◌then◌else◌, refl}
use Rattle.model_line.specs.declared.faults.Fault.{Fault}
use Rattle.model_line.specs.declared.faults.Fault.TheVariants.{Abort, Ragged, Short, Fcs}
use Rattle.model_line.specs.Came.{cause_of}
use Rattle.lapd_c.specs.Notes.{cause_number}
use Rattle.lapd_c.specs.Statuses.{wrong_cause}

-- The fault of a number.
abbrev pub fault_in : ℕ → Result Fault ℕ
fault_in cause =
    if cause == 1 then Ok Abort
    else if cause == 2 then Ok Ragged
    else if cause == 3 then Ok Short
    else if cause == 4 then Ok Fcs
    else Err wrong_cause

-- It is the number that a report has where the fault was reported.
worked_abort : fault_in (cause_number (Some (cause_of Abort))) ≡ Ok Abort
worked_abort = refl

worked_ragged : fault_in (cause_number (Some (cause_of Ragged))) ≡ Ok Ragged
worked_ragged = refl

worked_short : fault_in (cause_number (Some (cause_of Short))) ≡ Ok Short
worked_short = refl

worked_check : fault_in (cause_number (Some (cause_of Fcs))) ≡ Ok Fcs
worked_check = refl
