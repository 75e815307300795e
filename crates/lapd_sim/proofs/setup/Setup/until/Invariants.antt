-- The invariants of the loops of `Setup::until`.
use Rattle.lapd_sim.proofs.Vocabulary.{◌≤◌, SetupStands, on}
use Rattle.lapd_line.specs.Reports.{IsClear}
use Rattle.lapd_sim.proofs.Waits.{Waits, time_left}
use Rattle.lapd_sim.specs.machine.Setup as machine
use Rattle.lapd_sim.proofs.setup.Setup.until.Given as goal

-- from every setup for which it stood, some timers have expired; and it stands for one
abbrev pub invariant-loop-line : goal.invariant-loop-line
invariant-loop-line g l = record {
  waits : (m : machine.Setup) → SetupStands l.fn.self m → Waits l.self (on g.T.Target.taken l.fn.page) (on g.T.Target.taken l.page) l.end m;
  stands : (m : machine.Setup) × SetupStands l.self m × (m.clock.now ≤ l.end);
  clear : IsClear l.report;
}

-- each expiry lowers the time that is left
abbrev pub decreases-loop-line : goal.decreases-loop-line
decreases-loop-line g l = time_left l.end l.self.timed.timers
