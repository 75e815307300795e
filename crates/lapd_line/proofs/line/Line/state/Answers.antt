-- Hand-written answers for `Line::state`.
use Rattle.lapd_line.proofs.line.Line.state.Goals as goal

pub returns : goal.returns
returns c = λ store others l st. c.state.ensures store others l.line st.frames
