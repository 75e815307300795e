-- Hand-written answers for `lines`.
use Rattle.std.proofs.lemmas.Grind.{common_steps}
use Rattle.lapd_card.proofs.Vocabulary.{arith, IsFresh}
use Rattle.lapd_card.proofs.start.lines.Goals as goal

pub loop-preserved : goal.loop-preserved
loop-preserved c =
    let line : IsFresh c.args.config.now c.in_ok-line.line = record { config = c.in_ok-line.ensures.config; stands = c.in_ok-line.ensures.fresh; counters = c.in_ok-line.ensures.counters } in
    grind (arith, common_steps, line)
