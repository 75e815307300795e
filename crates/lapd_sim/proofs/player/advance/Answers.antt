-- Hand-written answers for `advance`.
use Rattle.lapd_sim.proofs.Vocabulary.{Ok, sym, subst, on, IsReady, AreLeft, ScriptLines}
use Rattle.lapd_sim.proofs.Ending.{ready_puts, ready_reaches, read_puts, read_grows, read_reaches, send_stuck}
use Rattle.lapd_sim.proofs.player.advance.Goals as goal

pub returns-in-Ok-true-clause-read : goal.returns-in-Ok-true-clause-read
returns-in-Ok-true-clause-read g c = λ text left.
    subst (λ more. IsReady (Ok more) c.args.lines.now c.ready.new.self (g.S.Source.remaining c.args.source.now) text) c.in-Ok-true.field-0-test
    (c.in-Ok-true.ensures.ready (g.S.Source.remaining c.args.source.now) text left)

pub returns-in-Err-clause-put : goal.returns-in-Err-clause-put
returns-in-Err-clause-put g c = ready_puts c.in-Err.fault (on g.T.Target.taken c.args.page.now) c.in-Err.ensures.steady

pub returns-in-Err-clause-read : goal.returns-in-Err-clause-read
returns-in-Err-clause-read g c = λ text left.
    ready_reaches c.in-Err.fault c.args.lines.now c.ready.new.self (g.S.Source.remaining c.args.source.now) text (c.in-Err.ensures.ready (g.S.Source.remaining c.args.source.now) text left)

pub returns-in-Ok-clause-put : goal.returns-in-Ok-clause-put
returns-in-Ok-clause-put g c = read_puts c.advance.result (on g.T.Target.taken c.args.page.now) (on g.T.Target.taken c.send.new.self) c.in-Ok.ensures c.advance.ensures.no_write

pub returns-in-Ok-clause-goes_on : goal.returns-in-Ok-clause-goes_on
returns-in-Ok-clause-goes_on g c = read_grows c.advance.result c.args.lines.now c.ready.new.self c.advance.new.self (c.in-Ok-false.ensures.stays c.in-Ok-false.field-0-test) c.advance.ensures.goes_on

pub returns-in-Ok-clause-read : goal.returns-in-Ok-clause-read
returns-in-Ok-clause-read g c = λ text left.
    let same = c.in-Ok-false.ensures.stays c.in-Ok-false.field-0-test in
    let later = subst (λ (lines : ScriptLines). AreLeft lines (g.S.Source.remaining c.args.source.now) text) (sym same) left in
    read_reaches c.advance.result c.args.lines.now c.ready.new.self c.advance.new.self (g.S.Source.remaining c.advance.new.source) text same (c.advance.ensures.read text later)

pub returns-in-Err-send-clause-put : goal.returns-in-Err-send-clause-put
returns-in-Err-send-clause-put g c = send_stuck c.in-Err-send.field-0 (on g.T.Target.taken c.args.page.now) (on g.T.Target.taken c.send.new.self) c.in-Err-send.ensures
