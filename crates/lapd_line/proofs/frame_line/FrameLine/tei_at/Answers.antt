-- Hand-written answers for `FrameLine::tei_at`.
use Rattle.lapd_line.proofs.Vocabulary.{◌<◌, ◌∙◌, sym, ap, subst, get_or, None, IfSome}
use Rattle.lapd_line.proofs.RunningSteps.{small_tei}
use Rattle.lapd_line.proofs.frame_line.FrameLine.tei_at.Goals as goal

pub returns-clause-is : goal.returns-clause-is
returns-clause-is c = λ store others m st. c.tei_at.ensures ∙ sym (ap (λ t. get_or t.places c.args.place None) st.layer.management)

pub returns-clause-few : goal.returns-clause-few
returns-clause-few c = λ store others m st.
    subst (λ o. IfSome o (λ tei. tei < 127)) (sym (c.tei_at.ensures ∙ sym (ap (λ t. get_or t.places c.args.place None) st.layer.management))) (small_tei c.args.self.now.layer.config m c.args.place st.layer.sound)
