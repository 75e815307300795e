-- Hand-written answers for `Port::begun`.
use Rattle.lapd_line.proofs.Vocabulary.{◌∙◌}
use Rattle.lapd_line.proofs.port.Port.begun.Goals as goal

pub returns-clause-begun : goal.returns-clause-begun
returns-clause-begun c = λ n201 p st. c.begun.ensures ∙ st.sent.begun
