-- Hand-written answers for `read_counts`.
use Rattle.std.proofs.Common.{arith}
use Rattle.lapd_image.proofs.Reading.{on_err}
use Rattle.lapd_link_steps.proofs.Image.{counted}
use Rattle.lapd_link_steps.proofs.heads.read_counts.Goals as goal

pub returns-in_err-read_count-2-clause-short : goal.returns-in_err-read_count-2-clause-short
returns-in_err-read_count-2-clause-short c =
    on_err c.from_residual-in_err-read_count-2.result (omega (arith, counted _ _ c.in_ok-read_count.ensures.read, c.in_err-read_count-2.ensures.short))

pub returns-in_err-read_count-3-clause-short : goal.returns-in_err-read_count-3-clause-short
returns-in_err-read_count-3-clause-short c =
    on_err c.from_residual-in_err-read_count-3.result (omega (arith, counted _ _ c.in_ok-read_count.ensures.read, counted _ _ c.in_ok-read_count-2.ensures.read, c.in_err-read_count-3.ensures.short))

pub returns-in_err-read_count-4-clause-short : goal.returns-in_err-read_count-4-clause-short
returns-in_err-read_count-4-clause-short c =
    on_err c.from_residual-in_err-read_count-4.result (omega (arith, counted _ _ c.in_ok-read_count.ensures.read, counted _ _ c.in_ok-read_count-2.ensures.read, counted _ _ c.in_ok-read_count-3.ensures.read, c.in_err-read_count-4.ensures.short))

pub returns-in_err-read_count-5-clause-short : goal.returns-in_err-read_count-5-clause-short
returns-in_err-read_count-5-clause-short c =
    on_err c.from_residual-in_err-read_count-5.result (omega (arith, counted _ _ c.in_ok-read_count.ensures.read, counted _ _ c.in_ok-read_count-2.ensures.read, counted _ _ c.in_ok-read_count-3.ensures.read, counted _ _ c.in_ok-read_count-4.ensures.read, c.in_err-read_count-5.ensures.short))
