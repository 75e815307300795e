-- Hand-written answers for `Gap::join`.
use Rattle.lapd_bits.proofs.Vocabulary.{◌+◌, arith}
use Rattle.lapd_bits.proofs.Joining.{left_below, Assembles-joined_octet}
use Rattle.lapd_bits.proofs.gap.Gap.join.Goals as goal

pub invariant_of-self-else-filled-lt8 : goal.invariant_of-self-else-filled-lt8
invariant_of-self-else-filled-lt8 c =
    record {
      since_counted = omega arith;
      no_octet = omega arith;
      filled_since = omega (arith, c.requires.counted);
      partial_filled = left_below c.above-joined.result (c.args.self.now.filled + c.args.count) c.if-filled-lt8.false c.above-joined.ensures.below;
    }

pub returns-else-filled-lt8-clause-stands : goal.returns-else-filled-lt8-clause-stands
returns-else-filled-lt8-clause-stands c text a =
    let old = c.args.self.now in
    let new = c.keep.new.self in
    Assembles-joined_octet c.args.octets.now.items c.keep.new.octets.items old.count new.count old.beyond new.beyond old.partial old.filled c.above-joined.result c.args.count c.args.bits new.partial new.filled text
    a c.if-filled-lt8.false c.above-joined.ensures.bits c.keep.ensures.partial c.keep.ensures.filled (c.keep.ensures.kept a.whole a.keeps)
