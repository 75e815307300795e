-- Hand-written answers for `Reading::next`.
use Rattle.lapd_bits.proofs.ReadBack.{last_bit, next_bit}
use Rattle.lapd_bits.proofs.reading.Reading.next.Goals as goal

pub returns-then-self-eq-OCTET_BITS-clause-read : goal.returns-then-self-eq-OCTET_BITS-clause-read
returns-then-self-eq-OCTET_BITS-clause-read c = last_bit c.args.text.now c.args.self.now.at c.args.self.now.bit c.if-self-eq-OCTET_BITS.true c.requires.some

pub returns-else-self-eq-OCTET_BITS-clause-read : goal.returns-else-self-eq-OCTET_BITS-clause-read
returns-else-self-eq-OCTET_BITS-clause-read c = next_bit c.args.text.now c.args.self.now.at c.args.self.now.bit c.args.self.now.in_octet c.requires.some
