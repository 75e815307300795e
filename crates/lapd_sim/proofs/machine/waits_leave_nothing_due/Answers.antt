-- The law is that of Waits.
use Rattle.lapd_sim.proofs.OfMachine.Waits.{waits_leave_nothing_due}
use Rattle.lapd_sim.proofs.machine.waits_leave_nothing_due.Goals as goal

pub returns : goal.returns
returns c = waits_leave_nothing_due
