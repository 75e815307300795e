-- Hand-written answers for `read_held`.
use Rattle.std.proofs.Common.{◌∷◌, ℕ, List, sym, ap, ◌∙◌, arith}
use Rattle.lapd_image.proofs.Reading.{no_number, on_err, tails}
use Rattle.lapd_clock.proofs.ImageRead.{moment-read}
use Rattle.lapd_clock.proofs.clock.restored.read_held.Goals as goal

pub returns-in_err-moment-clause-none : goal.returns-in_err-moment-clause-none
returns-in_err-moment-clause-none c =
    on_err c.from_residual-in_err-moment.result
    (λ value rest saved e.
    let front = c.in_ok-which.ensures.read ∙ ap (λ (l : List ℕ). c.in_ok-which.which ∷ l) (c.in_ok-tei.ensures.read ∙ ap (λ (l : List ℕ). c.in_ok-tei.tei ∷ l) c.in_ok-service.ensures.read) in
    no_number 8 value.moment rest c.in_err-moment.ensures.short (tails (tails (tails (sym front ∙ e)))))

pub returns-then-moment-clause-none : goal.returns-then-moment-clause-none
returns-then-moment-clause-none c value rest saved e =
    let front = c.in_ok-which.ensures.read ∙ ap (λ (l : List ℕ). c.in_ok-which.which ∷ l) (c.in_ok-tei.ensures.read ∙ ap (λ (l : List ℕ). c.in_ok-tei.tei ∷ l) c.in_ok-service.ensures.read) in
    let same = moment-read value.moment c.in_ok-moment.moment rest c.number.new.self saved.moment c.in_ok-moment.ensures.small (sym (tails (tails (tails (sym front ∙ e)))) ∙ c.in_ok-moment.ensures.read) in
    let own = c.if-moment.true in
    omega (arith, saved.moment, same.0, own)
