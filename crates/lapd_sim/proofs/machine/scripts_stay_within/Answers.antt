-- The law is that of Within.
use Rattle.lapd_sim.proofs.OfMachine.Within.{scripts_stay_within}
use Rattle.lapd_sim.proofs.machine.scripts_stay_within.Goals as goal

pub returns : goal.returns
returns c = scripts_stay_within
