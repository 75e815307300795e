-- Hand-written answers for `FrameLine::timer`.
use Rattle.lapd_line.proofs.Vocabulary.{◌∙◌, sym, ap, get_or, None, place_at}
use Rattle.lapd_line.proofs.LinkSteps.{at_place}
use Rattle.lapd_line.proofs.RunningSteps.{timer_there}
use Rattle.lapd_line.proofs.frame_line.FrameLine.timer.Goals as goal

pub returns : goal.returns
returns c = λ store others m st few.
    timer_there c.args.self.now.layer store others m c.args.number _ c.timer.result st.layer few c.in_ok-tei_at.field-0
    (ap (λ t. get_or t.places (place_at c.args.number) None) st.layer.management ∙ sym c.in_ok-tei_at.ensures) (at_place _ c.deref.ensures.value c.in_ok-get.ensures.lookup.1) (c.timer.ensures store)
