-- Hand-written answers for `Window::va`.
use Rattle.lapd_seq.proofs.Remainders.{first-valid}
use Rattle.lapd_seq.proofs.windows.Window.va.Goals as goal

pub returns-clause-valid : goal.returns-clause-valid
returns-clause-valid c = first-valid c.args.self.now.va c.args.self.now.vs
