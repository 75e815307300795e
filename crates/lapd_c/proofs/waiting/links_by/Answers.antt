-- Hand-written answers for `links_by`.
use Rattle.std.proofs.Common.{arith}
use Rattle.model_card.specs.Card.{line_at}
use Rattle.lapd_c.proofs.Marking.{one_marked}
use Rattle.lapd_c.proofs.waiting.links_by.Goals as goal

pub loop-place-init : goal.loop-place-init
loop-place-init c = λ m s place less. absurd (omega (arith, less))

pub loop-place-preserved : goal.loop-place-preserved
loop-place-preserved c = λ m s.
    one_marked (line_at c.args.line m) c.args.waits c.loop-place.place c.is_among.result c.loop-place.links c.set.new.self c.set.ensures
    (c.is_among.ensures m s) (c.loop-place.invariant m s)

pub returns : goal.returns
returns c = λ m s place within. c.loop-place.invariant m s place (omega (arith, within, c.loop-place-test.false))
