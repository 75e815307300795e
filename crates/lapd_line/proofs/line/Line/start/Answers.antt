-- Hand-written answers for `Line::start`.
use Rattle.lapd_line.proofs.Vocabulary.{arith, sym, subst, fresh_port, PortStands, ranges_of}
use Rattle.lapd_line.proofs.line.Line.start.Goals as goal

pub start-requires-2 : goal.start-requires-2
start-requires-2 c = omega (arith, (ranges_of c.args.config.now c.requires).n201.most)

pub returns-clause-fresh : goal.returns-clause-fresh
returns-clause-fresh c = λ store others wide held. record {
  frames = c.in_ok-frames.ensures.fresh store others wide held;
  port = subst (λ k. PortStands k.n201 c.in_ok-port.port fresh_port) (sym c.in_ok-frames.ensures.config) c.in_ok-port.ensures.fresh;
}
