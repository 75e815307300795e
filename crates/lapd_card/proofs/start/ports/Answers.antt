-- Hand-written answers for `ports`.
use Rattle.lapd_card.proofs.Vocabulary.{arith}
use Rattle.lapd_card.proofs.OctetsBegin.{fresh_ports, none_begun}
use Rattle.lapd_card.proofs.start.ports.Goals as goal

pub returns : goal.returns
returns c =
    fresh_ports c.args.config.now.n201 c.args.config.now.lines c.loop.ports.items
    (omega (arith, c.loop-test.false, c.loop.auto.counter-end, c.loop.invariant.count, c.loop.ports.ok.0, c.from-count.ensures)) c.loop.invariant.each

pub returns-in_err-ports : goal.returns-in_err-ports
returns-in_err-ports c = none_begun _ _ c.from_residual.ensures.0

pub returns-in_err-port : goal.returns-in_err-port
returns-in_err-port c = none_begun _ _ c.from_residual-in_err-port.ensures.0

pub start-requires : goal.start-requires
start-requires c = c.requires
