-- Four lengths are read, or none are at the front.
use Rattle.std.proofs.Common.{arith, ap, ◌++◌, ◌∙◌}
use Rattle.lapd_image.specs.Numbers.{number}
use Rattle.lapd_image.proofs.Reading.{on_err}
use Rattle.lapd_timed.proofs.LengthsRead.{grown, none-short, none-so}
use Rattle.lapd_timed.proofs.restoring.restore_lengths.Goals as goal

pub returns-in_err-t200-clause-none : goal.returns-in_err-t200-clause-none
returns-in_err-t200-clause-none c = on_err c.from_residual.result (none-short c.args.reader.now (omega (arith, c.in_err-t200.ensures.short)))

pub returns-in_err-t203-clause-none : goal.returns-in_err-t203-clause-none
returns-in_err-t203-clause-none c =
    on_err c.from_residual-in_err-t203.result (none-short c.args.reader.now (omega (arith, grown _ c.in_ok-t200.t200 c.in_ok-t200.ensures.read, c.in_err-t203.ensures.short)))

pub returns-in_err-t201-clause-none : goal.returns-in_err-t201-clause-none
returns-in_err-t201-clause-none c =
    on_err c.from_residual-in_err-t201.result (none-short c.args.reader.now
    (omega (arith, grown _ c.in_ok-t200.t200 c.in_ok-t200.ensures.read, grown _ c.in_ok-t203.t203 c.in_ok-t203.ensures.read, c.in_err-t201.ensures.short)))

pub returns-in_err-t202-clause-none : goal.returns-in_err-t202-clause-none
returns-in_err-t202-clause-none c =
    on_err c.from_residual-in_err-t202.result (none-short c.args.reader.now
    (omega (arith, grown _ c.in_ok-t200.t200 c.in_ok-t200.ensures.read, grown _ c.in_ok-t203.t203 c.in_ok-t203.ensures.read, grown _ c.in_ok-t201.t201 c.in_ok-t201.ensures.read, c.in_err-t202.ensures.short)))

pub returns-in_default-clause-none : goal.returns-in_default-clause-none
returns-in_default-clause-none c =
    none-so c.in_ok-t200.t200 c.in_ok-t203.t203 c.in_ok-t201.t201 c.in_ok-t202.t202 c.args.reader.now c.number-4.new.self
    c.in_ok-t200.ensures.small c.in_ok-t203.ensures.small c.in_ok-t201.ensures.small c.in_ok-t202.ensures.small
    (c.in_ok-t200.ensures.read ∙ ap (λ x. number 4 c.in_ok-t200.t200 ++ x) (c.in_ok-t203.ensures.read
    ∙ ap (λ x. number 4 c.in_ok-t203.t203 ++ x) (c.in_ok-t201.ensures.read ∙ ap (λ x. number 4 c.in_ok-t201.t201 ++ x) c.in_ok-t202.ensures.read)))
    c.in_default.ensures.none
