-- Hand-written answers for `Queue::restored`.
use Rattle.std.proofs.Common.{arith}
use Rattle.lapd_image.proofs.ReadLists.{list-many, list-none}
use Rattle.lapd_image.proofs.Reading.{on_err}
use Rattle.model_teis.specs.terminal.Image.{IsOfOctets}
use Rattle.model_teis.specs.terminal.Messages.{information_of}
use Rattle.lapd_tei.specs.terminal.Saved.{MayWait}
use Rattle.lapd_tei.proofs.OfTerminal.Waiting.{few-wait, one-read, waiting-kept}
use Rattle.lapd_tei.proofs.terminal.queue.Queue.restored.Goals as goal

pub returns-then-count-gt-MOST-clause-none : goal.returns-then-count-gt-MOST-clause-none
returns-then-count-gt-MOST-clause-none c =
    list-many information_of (MayWait c.args.table.now c.args.procedure) 9 (few-wait c.args.table.now c.args.procedure c.requires) c.in_ok-octet.ensures.read
    (omega (arith, c.if-count-gt-MOST.true, c.from-count.ensures))

pub returns-in_err-message-clause-none : goal.returns-in_err-message-clause-none
returns-in_err-message-clause-none c =
    on_err c.from_residual-in_err-message.result
    (list-none information_of IsOfOctets one-read (MayWait c.args.table.now c.args.procedure) (waiting-kept c.args.table.now c.args.procedure) c.loop.queue c.in_ok-octet.ensures.read
    (omega (arith, c.loop-test.true, c.loop.invariant.count, c.from-count.ensures)) c.loop.invariant.read c.in_err-message.ensures.none)
