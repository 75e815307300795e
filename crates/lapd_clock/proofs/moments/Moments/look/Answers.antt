-- The first is due, and its place rests.
use Rattle.std.proofs.Common.{◌∙◌, ◌+◌, sym, arith}
use Rattle.lapd_clock.proofs.Standing.{none_due}
use Rattle.lapd_clock.proofs.moments.Moments.look.Goals as goal

pub returns-in_err-place-clause-due : goal.returns-in_err-place-clause-due
returns-in_err-place-clause-due c = c.from_residual.ensures ∙ sym (none_due c.args.self.now c.args.now (c.args.now + 1) (omega arith) c.in_err-place.ensures.none).none
