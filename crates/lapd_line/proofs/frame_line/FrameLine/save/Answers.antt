-- Hand-written answers for `FrameLine::save`.
use Rattle.lapd_line.proofs.frame_line.FrameLine.save.Goals as goal

pub save-requires-clause-stands : goal.save-requires-clause-stands
save-requires-clause-stands g c =
    let (others, m, st) = c.requires.stands in
    (others, m, st.layer)

pub returns-clause-puts : goal.returns-clause-puts
returns-clause-puts g c = λ others m st. c.save.ensures.puts others m st.layer

pub returns-clause-saved : goal.returns-clause-saved
returns-clause-saved g c = λ others m st timed. c.save.ensures.saved others m st.layer timed
