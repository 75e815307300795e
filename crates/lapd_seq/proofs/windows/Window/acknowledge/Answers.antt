-- Hand-written answers for `Window::acknowledge`.
use Rattle.lapd_seq.proofs.Remainders.{first-valid, distance-parts}
use Rattle.lapd_seq.proofs.windows.Window.acknowledge.Goals as goal

pub returns-clause-count : goal.returns-clause-count
returns-clause-count c = distance-parts _ c.args.nr _ c.requires

pub returns-clause-valid : goal.returns-clause-valid
returns-clause-valid c = first-valid c.args.nr c.args.self.now.vs
