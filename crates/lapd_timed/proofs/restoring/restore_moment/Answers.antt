-- A moment from 2^63 on is none.
use Rattle.std.proofs.Common.{arith, lit<, ◌^◌, ◌<◌, sym, ◌∙◌}
use Rattle.lapd_image.proofs.Reading.{no_number, number-read, on_err}
use Rattle.lapd_timed.proofs.restoring.restore_moment.Goals as goal

pub returns-in_err-moment-clause-none : goal.returns-in_err-moment-clause-none
returns-in_err-moment-clause-none c = on_err c.from_residual.result (λ value rest fits e. no_number 8 value rest c.in_err-moment.ensures.short e)

pub returns-then-moment-gt-LAST_MOMENT-clause-none : goal.returns-then-moment-gt-LAST_MOMENT-clause-none
returns-then-moment-gt-LAST_MOMENT-clause-none c = λ value rest fits e.
    let most : 2 ^ 63 < 256 ^ 8 = lit< tt in
    let same = number-read 8 c.in_ok-moment.moment value _ rest c.in_ok-moment.ensures.small (omega (arith, fits, most)) (sym c.in_ok-moment.ensures.read ∙ e) in
    absurd (omega (arith, same.0, fits, c.if-moment-gt-LAST_MOMENT.true))
