-- Hand-written answers for `FrameLine::states_at`.
use Rattle.lapd_line.proofs.Vocabulary.{◌∙◌, sym, ap, get_or, None, state_number}
use Rattle.lapd_frame.specs.declared.services.Service.TheVariants.{Call, Packet}
use Rattle.lapd_line.proofs.LayerSteps.{asked_there}
use Rattle.lapd_line.proofs.LinkSteps.{at_place}
use Rattle.lapd_line.proofs.RunningSteps.{states_there}
use Rattle.lapd_line.proofs.frame_line.FrameLine.states_at.Goals as goal

pub returns : goal.returns
returns c = λ store others m st.
    let tei = c.in_ok-tei_at.field-0 in
    let at = sym c.in_ok-tei_at.ensures in
    states_there m c.args.place tei c.state.result c.state-2.result (ap (λ t. get_or t.places c.args.place None) st.layer.management ∙ at)
    (asked_there (λ l. state_number l.state) Call tei st.layer at c.link_number.ensures (at_place _ c.deref.ensures.value c.in_ok-call.ensures.lookup.1) (c.state.ensures store))
    (asked_there (λ l. state_number l.state) Packet tei st.layer at c.link_number-2.ensures (at_place _ c.deref-2.ensures.value c.in_ok-packet.ensures.lookup.1) (c.state-2.ensures store))
