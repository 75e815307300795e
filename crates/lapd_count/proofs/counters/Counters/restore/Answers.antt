-- Hand-written answers for `Counters::restore`: fewer octets than those of the counters are no counters.
use Rattle.lapd_count.proofs.Vocabulary.{◌≡◌, ℕ, ◌<◌, List, length, take, sym, ap, ◌∙◌, arith, count}
use Rattle.std.proofs.Common.{◌++◌, length-append, length-take}
use Rattle.std.specs.Prelude.{flat_map}
use Rattle.lapd_image.specs.Numbers.{number}
use Rattle.lapd_image.specs.Reads.{HasNone}
use Rattle.lapd_image.proofs.Reading.{length-each, length-number, on_err}
use Rattle.lapd_count.specs.Image.{counters, IsCounted}
use Rattle.lapd_count.proofs.counters.Counters.restore.Goals as goal

no_counters : (front left values : List ℕ) (i : ℕ) → i < count → front ≡ flat_map (number 8) (take i values) ++ left → length left < 8 → HasNone counters IsCounted front
no_counters front left values i more read few value rest saved e =
    let before = length-each (number 8) 8 (length-number 8) (take i values) in
    let all = length-each (number 8) 8 (length-number 8) value.values in
    let size = sym (ap (λ (l : List ℕ). length l) read) ∙ ap (λ (l : List ℕ). length l) e in
    omega (arith, more, few, before, all, size, saved.whole, length-take i values, length-append (flat_map (number 8) (take i values)) left, length-append (counters value) rest)

pub returns-in_err-value-clause-none : goal.returns-in_err-value-clause-none
returns-in_err-value-clause-none c =
    on_err c.from_residual.result
    (no_counters _ _ c.loop-value.value-items c.loop-value.value-index (omega arith) c.loop-value.invariant.read c.in_err-value.ensures.short)
