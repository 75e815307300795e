-- Hand-written answers for `Teis::respond`.
use Rattle.lapd_tei.proofs.Vocabulary.{sym, ap, ◌∙◌, Management}
use Rattle.lapd_tei.proofs.Among.{responded}
use Rattle.lapd_tei.proofs.teis.Teis.respond.Goals as goal

pub returns-clause-led : goal.returns-clause-led
returns-clause-led c =
    c.count.ensures.led ∙ sym (responded c.in-Some.own c.args.tei _ _ (ap (λ (m : Management). m.check) (sym c.self.view_is) ∙ c.in-Some.is) c.if-own-tei.false)
