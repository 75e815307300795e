-- Hand-written answers for `Window::outstanding`.
use Rattle.lapd_seq.proofs.Vocabulary.{◌+◌, subst, sym, arith, AreNumbers}
use Rattle.lapd_seq.proofs.Remainders.{numbers-of}
use Rattle.lapd_seq.proofs.windows.Window.outstanding.Goals as goal

pub returns-clause-stands : goal.returns-clause-stands
returns-clause-stands c =
    let va = c.args.self.now.va in
    let vs = c.args.self.now.vs in
    subst (λ n. AreNumbers va vs va.value (va.value + n)) (sym c.distance.ensures.circle) (numbers-of va vs (omega (arith, c.distance.ensures.bound, c.distance.ensures.circle)))
