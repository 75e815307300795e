-- Hand-written answers for `put_digits`.
use Rattle.lapd_text.proofs.Written.{nothing_put, digits_put}
use Rattle.lapd_text.proofs.digits.put_digits.Goals as goal

pub loop-i-init : goal.loop-i-init
loop-i-init c = nothing_put c.args.at c.args.out.now

pub loop-i-preserved : goal.loop-i-preserved
loop-i-preserved c =
    digits_put c.args.octets.now c.args.out.now c.loop-i.out c.put.new.out c.args.at c.loop-i.i 0 c.octet_digits.result
    c.requires c.loop-i-test.true c.loop-i.invariant c.octet_digits.ensures c.put.ensures
