-- Hand-written answers for `FrameLine::own_timer`.
use Rattle.lapd_line.proofs.Vocabulary.{◌∙◌}
use Rattle.lapd_line.proofs.RunningSteps.{timers_are}
use Rattle.lapd_line.proofs.frame_line.FrameLine.own_timer.Goals as goal

pub returns : goal.returns
returns c = λ store others m st. c.timer.ensures ∙ timers_are c.args.self.now.layer store others m st.layer
