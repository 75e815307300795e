-- Nothing is due any more when all 0s have been put in.
use Rattle.lapd_bits.proofs.Vocabulary.{◌<◌, ◌≤◌, ◌+◌, ◌*◌, ◌/◌, ◌^◌, [], length, ap, sym, subst, arith, pow-add, mod-eq_of_lt, mod-le, div-mul-le_self, shr_lt, pow_mono, low_bits, last_ones, length-low_bits, stuffed_after-pays}
use Rattle.lapd_bits.proofs.StuffingAtOnce.{Goes-sent, last_ones_few}
use Rattle.lapd_bits.proofs.Underway.{Underway, begin, total_few, none_due, place_fits, text_fits, next_word}
use Rattle.lapd_bits.proofs.stuffer.Stuffed.after.Goals as goal

pub five_ones-due-requires-clause-few : goal.five_ones-due-requires-clause-few
five_ones-due-requires-clause-few c = omega (arith, c.requires.below, pow_mono {i = c.args.count} {j = 40} c.requires.few)

pub loop-due-init : goal.loop-due-init
loop-due-init c =
    let small : c.args.bits * 16 < 18446744073709551616 = omega (arith, c.requires.below, pow_mono {i = c.args.count} {j = 40} c.requires.few) in
    record {
      at_least = omega arith;
      underway =
          subst (λ m. Underway (last_ones c.args.latest) (low_bits c.args.count c.args.bits) (c.args.latest + m) c.args.count c.five_ones-due.result) (sym (mod-eq_of_lt small))
          (subst (λ d. Underway (last_ones c.args.latest) (low_bits c.args.count c.args.bits) (c.args.latest + c.args.bits * 16) c.args.count d) (sym c.five_ones-due.ensures)
          (begin c.args.latest c.args.bits c.args.count c.requires.four c.requires.below));
    }

-- so many bits are few
few : (c : goal.In-loop-due) → length (low_bits c.args.count c.args.bits) ≤ 40
few c = omega (arith, length-low_bits c.args.count c.args.bits, c.requires.few)

total_small : (c : goal.In-loop-due) → c.loop-due.total ≤ 48
total_small c = total_few _ _ _ _ _ c.loop-due.invariant.underway (last_ones_few c.args.latest) (few c)

place_small : (c : goal.In-loop-due) → lib.Count.count_trailing_zeros 64 c.loop-due.due + 5 < 64
place_small c = place_fits _ _ _ _ _ c.loop-due.invariant.underway c.loop-due-test.true (omega (arith, c.loop-due.auto.due-fits)) (last_ones_few c.args.latest) (few c)

pub overflow_shr-text : goal.overflow_shr-text
overflow_shr-text c = place_small c

pub overflow_shl-text-in-loop-due : goal.overflow_shl-text-in-loop-due
overflow_shl-text-in-loop-due c = place_small c

pub overflow_add-text-in-loop-due : goal.overflow_add-text-in-loop-due
overflow_add-text-in-loop-due c =
    let u = c.loop-due.invariant.underway in
    let small = text_fits _ _ _ _ _ u c.loop-due-test.true (omega (arith, c.loop-due.auto.due-fits)) (last_ones_few c.args.latest) (few c) in
    let q = 2 ^ (lib.Count.count_trailing_zeros 64 c.loop-due.due + 5) in
    omega (arith, small, div-mul-le_self c.loop-due.text q, mod-le (c.loop-due.text / q * q) 18446744073709551616)

pub overflow_shr-due : goal.overflow_shr-due
overflow_shr-due c = place_small c

pub overflow_shl-due : goal.overflow_shl-due
overflow_shl-due c = place_small c

pub overflow_add-total : goal.overflow_add-total
overflow_add-total c = omega (arith, total_small c)

pub loop-due-smaller : goal.loop-due-smaller
loop-due-smaller c = omega (arith, total_small c)

pub loop-due-preserved : goal.loop-due-preserved
loop-due-preserved c =
    record {
      at_least = omega (arith, c.loop-due.invariant.at_least);
      underway = next_word _ _ _ _ _ c.loop-due.invariant.underway c.loop-due-test.true (omega (arith, c.loop-due.auto.due-fits)) (last_ones_few c.args.latest) (few c);
    }

total_end : (c : goal.After-loop-due) → c.loop-due.total ≤ 48
total_end c =
    total_few _ _ _ _ _ c.loop-due.invariant.underway (last_ones_few c.args.latest) (omega (arith, length-low_bits c.args.count c.args.bits, c.requires.few))

pub overflow_shr-result-2 : goal.overflow_shr-result-2
overflow_shr-result-2 c = omega (arith, total_end c)

pub invariant_of-result : goal.invariant_of-result
invariant_of-result c =
    let u = c.loop-due.invariant.underway in
    record {
      below = omega (arith, u.below, pow-add 2 c.loop-due.total 4);
      four = shr_lt 4 c.loop-due.total (subst (λ k. c.loop-due.text < 2 ^ k) {x = c.loop-due.total + 4} (omega arith) u.below);
    }

pub returns-clause-goes : goal.returns-clause-goes
returns-clause-goes c =
    let end = none_due _ _ _ _ _ c.loop-due.invariant.underway c.loop-due-test.false in
    Goes-sent [] (low_bits c.loop-due.total (c.loop-due.text / 16)) (low_bits c.args.count c.args.bits) (last_ones c.args.latest) (last_ones (c.loop-due.text / 2 ^ c.loop-due.total))
    (last_ones_few c.args.latest) (last_ones_few (c.loop-due.text / 2 ^ c.loop-due.total)) (sym (ap (λ p. p.0) end)) (ap (λ p. p.1) end)

pub returns-clause-pays : goal.returns-clause-pays
returns-clause-pays c =
    let end = none_due _ _ _ _ _ c.loop-due.invariant.underway c.loop-due-test.false in
    omega (
      arith,
      ap (λ p. length p.0) end,
      ap (λ p. p.1) end,
      length-low_bits c.loop-due.total (c.loop-due.text / 16),
      length-low_bits c.args.count c.args.bits,
      stuffed_after-pays (last_ones c.args.latest) (low_bits c.args.count c.args.bits) (omega (arith, last_ones_few c.args.latest)),
    )
