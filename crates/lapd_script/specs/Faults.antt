-- Which faults a source's and a target's counts of failures tell of: a fault of reading comes exactly where the source
-- has counted one failure more (a count that stays at its greatest value), and a fault of writing exactly where the
-- target has.
use Rattle.std.specs.Prelude.{ℕ, Result, Ok, Err}
use Rattle.lapd_transcript.specs.Streams.{one_failure_more}
use Rattle.lapd_script.specs.declared.faults.PlayFault.{PlayFault}
use Rattle.lapd_script.specs.declared.faults.PlayFault.TheVariants.{Read, Write, Script, OutOfMemory}
use Rattle.lapd_script.specs.declared.faults.LineFault.{LineFault}
use Rattle.lapd_script.specs.declared.faults.LineFault.TheVariants as line

-- a source's count after a fault, from the count before
abbrev pub reads_failed : PlayFault → ℕ → ℕ
reads_failed Read count = one_failure_more count
reads_failed _ count = count

-- a target's count after a fault, from the count before
abbrev pub writes_failed : PlayFault → ℕ → ℕ
writes_failed Write count = one_failure_more count
writes_failed _ count = count

-- the fault of a script whose line of this number was stopped
abbrev pub fault_at : LineFault → ℕ → PlayFault
fault_at (line.Faulty kind) number = Script number kind
fault_at line.Write number = Write
fault_at line.OutOfMemory number = OutOfMemory

-- a target's count after what stopped a line, from the count before
abbrev pub line_writes_failed : LineFault → ℕ → ℕ
line_writes_failed line.Write count = one_failure_more count
line_writes_failed _ count = count

-- a source's and a target's count after a script was played
abbrev pub reads_failed_by : {A : Type 0} → Result A PlayFault → ℕ → ℕ
reads_failed_by (Ok _) count = count
reads_failed_by (Err fault) count = reads_failed fault count

abbrev pub writes_failed_by : {A : Type 0} → Result A PlayFault → ℕ → ℕ
writes_failed_by (Ok _) count = count
writes_failed_by (Err fault) count = writes_failed fault count
