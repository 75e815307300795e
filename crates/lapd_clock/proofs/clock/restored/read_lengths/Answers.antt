-- Hand-written answers for `read_lengths`.
use Rattle.std.proofs.Common.{◌≡◌, IsSome, subst, sym, ◌∙◌}
use Rattle.std.proofs.lemmas.Bool.{false≢true}
use Rattle.lapd_clock.specs.Timer.{first_out_of_range}
use Rattle.lapd_image.proofs.Reading.{no_number, on_err}
use Rattle.lapd_clock.proofs.ImageRead.{length-read, lengths-split, no_fault}
use Rattle.lapd_clock.proofs.clock.restored.read_lengths.Goals as goal

pub returns-in_err-t200-clause-none : goal.returns-in_err-t200-clause-none
returns-in_err-t200-clause-none c =
    on_err c.from_residual.result (λ l rest range e. no_number 4 l.t200 _ c.in_err-t200.ensures.short (e ∙ lengths-split l rest))

pub returns-in_err-t203-clause-none : goal.returns-in_err-t203-clause-none
returns-in_err-t203-clause-none c =
    on_err c.from_residual-in_err-t203.result
    (λ l rest range e.
    let one = length-read l.t200 c.in_ok-t200.field-0 range.t200_most c.in_ok-t200.ensures.small (e ∙ lengths-split l rest) c.in_ok-t200.ensures.read in
    no_number 4 l.t203 _ c.in_err-t203.ensures.short one.1)

pub returns-in_err-t201-clause-none : goal.returns-in_err-t201-clause-none
returns-in_err-t201-clause-none c =
    on_err c.from_residual-in_err-t201.result
    (λ l rest range e.
    let one = length-read l.t200 c.in_ok-t200.field-0 range.t200_most c.in_ok-t200.ensures.small (e ∙ lengths-split l rest) c.in_ok-t200.ensures.read in
    let two = length-read l.t203 c.in_ok-t203.field-0 range.t203_most c.in_ok-t203.ensures.small one.1 c.in_ok-t203.ensures.read in
    no_number 4 l.t201 _ c.in_err-t201.ensures.short two.1)

pub returns-in_err-t202-clause-none : goal.returns-in_err-t202-clause-none
returns-in_err-t202-clause-none c =
    on_err c.from_residual-in_err-t202.result
    (λ l rest range e.
    let one = length-read l.t200 c.in_ok-t200.field-0 range.t200_most c.in_ok-t200.ensures.small (e ∙ lengths-split l rest) c.in_ok-t200.ensures.read in
    let two = length-read l.t203 c.in_ok-t203.field-0 range.t203_most c.in_ok-t203.ensures.small one.1 c.in_ok-t203.ensures.read in
    let three = length-read l.t201 c.in_ok-t201.field-0 range.t201_most c.in_ok-t201.ensures.small two.1 c.in_ok-t201.ensures.read in
    no_number 4 l.t202 _ c.in_err-t202.ensures.short three.1)

pub returns-in-None-clause-none : goal.returns-in-None-clause-none
returns-in-None-clause-none c l rest range e =
    let one = length-read l.t200 c.in_ok-t200.field-0 range.t200_most c.in_ok-t200.ensures.small (e ∙ lengths-split l rest) c.in_ok-t200.ensures.read in
    let two = length-read l.t203 c.in_ok-t203.field-0 range.t203_most c.in_ok-t203.ensures.small one.1 c.in_ok-t203.ensures.read in
    let three = length-read l.t201 c.in_ok-t201.field-0 range.t201_most c.in_ok-t201.ensures.small two.1 c.in_ok-t201.ensures.read in
    let four = length-read l.t202 c.in_ok-t202.field-0 range.t202_most c.in_ok-t202.ensures.small three.1 c.in_ok-t202.ensures.read in
    let same : l ≡ record { t200 = c.in_ok-t200.field-0; t203 = c.in_ok-t203.field-0; t201 = c.in_ok-t201.field-0; t202 = c.in_ok-t202.field-0 } =
    λ i. record { t200 = one.0 i; t203 = two.0 i; t201 = three.0 i; t202 = four.0 i } in
    let fault : IsSome (first_out_of_range l) = subst (λ m. IsSome (first_out_of_range m)) (sym same) c.in-None.ensures.none in
    false≢true (subst IsSome (no_fault l range) fault)
