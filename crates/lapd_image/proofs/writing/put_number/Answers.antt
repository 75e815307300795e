-- Hand-written answers for `put_number`.
use Rattle.std.proofs.Common.{arith, ◌≡◌, ℕ, suc, ◌-◌, ◌/◌, ◌%◌, List, [], ◌∷◌, ◌++◌, sym, ap, ◌∙◌, append_assoc, append-nil}
use Rattle.lapd_image.specs.Numbers.{number}
use Rattle.lapd_image.proofs.Puts.{puts-then, puts-same}
use Rattle.lapd_image.proofs.writing.put_number.Goals as goal

-- the low octet of the high part is the next one
next : (whole low : List ℕ) (left more high : ℕ) → left ≡ suc more → whole ≡ low ++ number left high → whole ≡ (low ++ high % 256 ∷ []) ++ number more (high / 256)
unfolding number
next whole low left more high is e =
    e ∙ ap (λ count. low ++ number count high) is ∙ sym (append_assoc low (high % 256 ∷ []) (number more (high / 256)))

-- no octet is left
all : (whole low : List ℕ) (left high : ℕ) → left ≡ 0 → whole ≡ low ++ number left high → low ≡ whole
unfolding number
all whole low left high is e = sym (e ∙ ap (λ count. low ++ number count high) is ∙ append-nil low)

pub loop-preserved : goal.loop-preserved
loop-preserved c =
    let low = c.loop.invariant.0 in (
      low ++ c.loop.high % 256 ∷ [],
      puts-then c.loop.invariant.1 c.put_octet-place.ensures,
      next _ low (c.args.octets - c.loop.counter) _ c.loop.high (omega arith) c.loop.invariant.2,
    )

pub returns : goal.returns
returns c = puts-same (all _ c.loop.invariant.0 (c.args.octets - c.loop.counter) c.loop.high (omega arith) c.loop.invariant.2) c.loop.invariant.1
