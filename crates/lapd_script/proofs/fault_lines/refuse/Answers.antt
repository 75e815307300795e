-- Hand-written answers for `refuse`.
use Rattle.lapd_script.proofs.fault_lines.refuse.Goals as goal

pub returns-clause-told : goal.returns-clause-told
returns-clause-told g c = (c.write_fault.result, c.write_fault.ensures)
