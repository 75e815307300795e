-- Hand-written answers for `Deframer::take_content`.
use Rattle.lapd_bits.proofs.Vocabulary.{subst, arith, low_bits, HoldsGap, length-low_bits}
use Rattle.lapd_bits.proofs.AtOnce.{HoldsGap-joined}
use Rattle.lapd_bits.proofs.deframer.Deframer.take_content.Goals as goal

pub returns-in-Some-clause-stands : goal.returns-in-Some-clause-stands
returns-in-Some-clause-stands c octet gap joined h =
    let octets = c.args.self.now.octets.items in
    HoldsGap-joined octets c.join.new.octets.items c.in-Some.gap c.join.new.self (low_bits 8 octet) (low_bits c.args.content.count c.args.content.bits) gap
    (omega (arith, c.join.ensures.since, length-low_bits 8 octet)) c.join.ensures.stands joined
    (subst (λ g. HoldsGap octets g gap) c.in-Some.is h)
