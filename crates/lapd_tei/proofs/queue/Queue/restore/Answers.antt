-- Hand-written answers for `Queue::restore`.
use Rattle.std.proofs.Common.{arith, length, ◌<◌}
use Rattle.lapd_image.proofs.Reading.{on_err}
use Rattle.lapd_tei.proofs.QueueRead.{queue-more, queue-none}
use Rattle.lapd_tei.proofs.queue.Queue.restore.Goals as goal

pub returns-in_err-message-clause-none : goal.returns-in_err-message-clause-none
returns-in_err-message-clause-none c =
    let fewer : length c.loop.self < c.in_ok-count.count = omega (arith, c.loop-test.true, c.loop.invariant.count) in
    on_err c.from_residual-in_err-message.result (queue-none c.loop.self c.in_ok-count.ensures.read fewer c.loop.invariant.read c.in_err-message.ensures.none)

pub loop-preserved : goal.loop-preserved
loop-preserved c =
    let few : length c.loop.self < 4 = omega (arith, c.loop-test.true, c.loop.invariant.count, c.if-from-gt-LIMIT.false, c.from.ensures) in
    let more = queue-more c.loop.self c.send.new.self c.in_ok-message.message few c.send.ensures.waits c.loop.invariant.read c.in_ok-message.ensures.read in
    record { count = omega (arith, more.0, c.loop.invariant.count); read = more.1 }
