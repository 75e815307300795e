-- Hand-written answers for `Port::held`.
use Rattle.lapd_line.proofs.Vocabulary.{◌∙◌, ap, sym, arith, still_held, last_octets, left_is}
use Rattle.lapd_line.proofs.HeldSteps.{received_few, both}
use Rattle.lapd_line.proofs.port.Port.held.Goals as goal

pub overflow_add-result : goal.overflow_add-result
overflow_add-result c =
    let (n201, low, (p, st)) = c.requires in
    omega (arith, c.held.ensures.held n201 p.received st.received, received_few n201 p.received, c.held-2.ensures.bounded, st.room, low)

pub returns-clause-held : goal.returns-clause-held
returns-clause-held c = λ n201 p st.
    both (c.held.ensures.held n201 p.received st.received)
    (c.held-2.ensures.held ∙ st.sent.held ∙ ap (λ x. still_held x (last_octets p.items)) (sym (left_is p c.args.self.now.framer.left st.sent.text)))

pub returns-clause-few : goal.returns-clause-few
returns-clause-few c = λ n201 p st.
    omega (arith, c.held.ensures.held n201 p.received st.received, received_few n201 p.received, c.held-2.ensures.bounded, st.room)
