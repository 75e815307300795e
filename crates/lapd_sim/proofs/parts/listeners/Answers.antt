-- Hand-written answers for `listeners`.
use Rattle.lapd_sim.proofs.Vocabulary.{[], arith, sym, Hears}
use Rattle.lapd_sim.proofs.Eachs.{each_pushed}
use Rattle.lapd_sim.proofs.parts.listeners.Goals as goal

pub loop-preserved : goal.loop-preserved
loop-preserved c = (
  grind (arith, c.loop.invariant.0, c.push.ensures.len, c.if-is_err.ensures.negation),
  each_pushed Hears c.loop.counter c.loop.listeners.items c.push.new.self.items _ c.in-Ok.listener [] _
      (sym c.if-is_err.ensures.negation) c.push.ensures.items c.loop.invariant.1 c.in-Ok.ensures.fresh,
)
