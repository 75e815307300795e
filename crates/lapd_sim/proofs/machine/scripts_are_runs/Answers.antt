-- The law is that of Events.
use Rattle.lapd_sim.proofs.OfMachine.Events.{scripts_are_runs}
use Rattle.lapd_sim.proofs.machine.scripts_are_runs.Goals as goal

pub returns : goal.returns
returns c = scripts_are_runs
