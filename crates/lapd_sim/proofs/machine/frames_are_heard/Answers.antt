-- The law is that of Heard.
use Rattle.lapd_sim.proofs.OfMachine.Heard.{frames_are_heard}
use Rattle.lapd_sim.proofs.machine.frames_are_heard.Goals as goal

pub returns : goal.returns
returns c = frames_are_heard
