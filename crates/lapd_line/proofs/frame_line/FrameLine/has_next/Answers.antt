-- Hand-written answers for `FrameLine::has_next`.
use Rattle.lapd_line.proofs.Vocabulary.{ap, ◌∙◌, is_some}
use Rattle.lapd_line.proofs.NextLooks.{waits_with_link, waits_with_message, waits_with_unit}
use Rattle.lapd_line.proofs.frame_line.FrameLine.has_next.Goals as goal

pub returns-then-any : goal.returns-then-any
returns-then-any c = λ store others m st.
    waits_with_link c.args.self.now.layer store others m st.layer c.if-any.ensures.none c.if-any.ensures.some

pub returns-then-has_message : goal.returns-then-has_message
returns-then-has_message c = λ store others m st.
    waits_with_message c.args.self.now.layer store others m st.layer c.if-has_message.ensures

pub returns : goal.returns
returns c = λ store others m st.
    waits_with_unit c.args.self.now.layer store others m st.layer c.if-any.ensures.none c.if-any.ensures.some c.if-has_message.ensures (c.is_some.ensures ∙ ap is_some c.oldest.ensures)
