-- Hand-written answers for `Window::names_next`.
use Rattle.lapd_seq.proofs.Vocabulary.{◌∙◌, sym, eqb-true, eq-eqb}
use Rattle.lapd_seq.proofs.Remainders.{named-next}
use Rattle.lapd_seq.proofs.windows.Window.names_next.Goals as goal

pub returns-clause-plain : goal.returns-clause-plain
returns-clause-plain c = λ a s n h k.
    let test = named-next _ _ _ a s n h k in
    (λ yes. test.0 (eqb-true _ _ (sym c.eq.ensures ∙ yes)), λ e. c.eq.ensures ∙ eq-eqb _ _ (test.1 e))
