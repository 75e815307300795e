-- Hand-written answers for `terminals`.
use Rattle.lapd_sim.proofs.Vocabulary.{[], arith, sym, Sends}
use Rattle.lapd_sim.proofs.Eachs.{each_pushed}
use Rattle.lapd_sim.proofs.parts.terminals.Goals as goal

pub loop-preserved : goal.loop-preserved
loop-preserved c = (
  grind (arith, c.loop.invariant.0, c.push.ensures.len, c.if-is_err.ensures.negation),
  each_pushed Sends c.loop.counter c.loop.terminals.items c.push.new.self.items _ c.in_ok-start.field-0 (record { items = []; given = 0 }) _
      (sym c.if-is_err.ensures.negation) c.push.ensures.items c.loop.invariant.1 c.in_ok-start.ensures,
)
