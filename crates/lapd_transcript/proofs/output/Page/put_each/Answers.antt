-- Hand-written answers for `Page::put_each`.
use Rattle.lapd_transcript.proofs.Vocabulary.{get_or, subst, IsStuck, row, row_text, value_text, on}
use Rattle.lapd_transcript.proofs.Known.{leaves, puts_stop}
use Rattle.lapd_transcript.proofs.CounterNames.{no_row}
use Rattle.lapd_transcript.proofs.output.Page.put_each.Goals as goal

pub returns-in_err-put_counter : goal.returns-in_err-put_counter
returns-in_err-put_counter g c =
    let name = (get_or c.args.names.now c.loop-counter.counter-index no_row).1.now in
    leaves c.from_residual.result _ _ _ c.from_residual.ensures.0
    (puts_stop (λ name. row_text c.args.line c.args.counters.now (row name)) c.args.names.now c.loop-counter.counter-index no_row
    (on g.T.Target.taken c.args.self.now) (on g.T.Target.taken c.loop-counter.self) (on g.T.Target.taken c.put_counter.new.self)
    c.loop-counter-test.true c.loop-counter.invariant
    (subst (λ value. IsStuck (on g.T.Target.taken c.loop-counter.self) (on g.T.Target.taken c.put_counter.new.self) (value_text c.args.line name value)) c.value.ensures c.in_err-put_counter.ensures))
