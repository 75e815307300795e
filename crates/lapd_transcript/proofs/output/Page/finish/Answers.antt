-- Hand-written answers for `Page::finish`.
use Rattle.lapd_transcript.proofs.Vocabulary.{List, ℕ, Result, subst, WriteFailed, Writes, Puts, on}
use Rattle.lapd_transcript.proofs.Known.{puts_written, puts_unwritten}
use Rattle.lapd_transcript.proofs.output.Page.finish.Goals as goal

pub returns-in-Err : goal.returns-in-Err
returns-in-Err g c = λ before text h.
    puts_unwritten before (on g.T.Target.taken c.args.self) text (subst (λ (put : Result Unit WriteFailed). Puts put before (on g.T.Target.taken c.args.self) text) c.in-Err.is h)

pub returns : goal.returns
returns g c = λ before text h.
    puts_written c.write.result before (on g.T.Target.taken c.args.self) (g.T.Target.taken c.write.new.self) text
    (subst (λ (put : Result Unit WriteFailed). Puts put before (on g.T.Target.taken c.args.self) text) c.in_default.is h)
    (subst (λ (shown : List ℕ). Writes c.write.result (g.T.Target.taken c.args.self.target.now) (g.T.Target.taken c.write.new.self) shown) c.as_slice.ensures.value c.write.ensures)
