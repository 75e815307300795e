-- Hand-written answers for `FrameLine::state`.
use Rattle.lapd_line.proofs.Vocabulary.{sym, state_number}
use Rattle.lapd_line.proofs.LayerSteps.{asked_of_link}
use Rattle.lapd_line.proofs.LinkSteps.{at_place}
use Rattle.lapd_line.proofs.frame_line.FrameLine.state.Goals as goal

pub returns : goal.returns
returns c = λ store others m st.
    asked_of_link (λ l. state_number l.state) c.args.service c.args.tei st.layer (sym c.in_ok-place.ensures.place) c.link_number.ensures (at_place _ c.deref.ensures.value c.in_ok-get.ensures.lookup.1) (c.state.ensures store)
