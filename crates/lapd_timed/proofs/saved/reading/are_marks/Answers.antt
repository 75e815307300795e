-- The marks of a line, bit by bit.
use Rattle.std.proofs.Common.{arith, inl, inr, refl, sym, subst, ◌≡◌, ℕ, ◌/◌, ◌%◌, ◌^◌, IsSome}
use Rattle.std.proofs.lemmas.Bool.{cases_lt, eqb-true}
use Rattle.model_card.specs.Card.{line_at}
use Rattle.model_line.specs.Line.{place_at, tei_at}
use Rattle.lapd_timed.proofs.saved.reading.are_marks.Goals.{else-links-number-eq1-via-then-links-number-eq1+else-is_none, else-links-number-eq1-via-else-links-number-eq1}
use Rattle.lapd_timed.proofs.saved.reading.are_marks.Goals as goal

pub loop-number-init : goal.loop-number-init
loop-number-init g c = λ m stands k less. absurd (omega (arith, less))

pub loop-number-preserved : goal.loop-number-preserved
loop-number-preserved g c = λ m stands k less set. elim (cases_lt k c.loop-number.number) [
  | inl before ↦ c.loop-number.invariant m stands k before set
  | inr last ↦
      let same : c.loop-number.number ≡ k = omega (arith, less, last) in
      elim c.else-links-number-eq1.branch [
        | else-links-number-eq1-via-then-links-number-eq1+else-is_none w ↦
            subst (λ (n : ℕ). IsSome (tei_at (place_at n) (line_at c.args.line m))) same (subst IsSome (w.tei_at.ensures.is m stands) w.if-is_none.ensures)
        | else-links-number-eq1-via-else-links-number-eq1 w ↦
            absurd (w.if-links-number-eq1.false (subst (λ (n : ℕ). c.args.links / 2 ^ n % 2 ≡ 1) (sym same) (eqb-true (c.args.links / 2 ^ k % 2) 1 set)))
      ]
]

pub returns : goal.returns
returns g c = λ m stands. (λ same k less. c.loop-number.invariant m stands k (omega (arith, less, c.loop-number-test.false)), λ all. refl)
