-- Hand-written answers for `Line::held`.
use Rattle.lapd_line.proofs.Vocabulary.{arith, ranges_of, config_of}
use Rattle.lapd_line.proofs.HeldSteps.{both, most_few}
use Rattle.lapd_line.proofs.line.Line.held.Goals as goal

pub held-requires : goal.held-requires
held-requires c =
    let (store, others, l, st) = c.requires in
    (store, others, l.line, st.frames)

pub held-requires-2 : goal.held-requires-2
held-requires-2 c =
    let (store, others, l, st) = c.requires in
    let config = config_of c.args.self.now.frames in
    (config.n201, omega (arith, (ranges_of config st.frames.layer.range).n201.most), (l.port, st.port))

pub overflow_add-result : goal.overflow_add-result
overflow_add-result c =
    let (store, others, l, st) = c.requires in
    let config = config_of c.args.self.now.frames in
    omega (arith, c.held.ensures.few, c.held-2.ensures.few config.n201 l.port st.port, most_few config st.frames.layer.range, (ranges_of config st.frames.layer.range).n201.most)

pub returns : goal.returns
returns c = λ store others l st. both (c.held.ensures.held store others l.line st.frames) (c.held-2.ensures.held (config_of c.args.self.now.frames).n201 l.port st.port)
