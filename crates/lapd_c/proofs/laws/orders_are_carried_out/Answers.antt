-- Hand-written answers for `orders_are_carried_out`.
use Rattle.lapd_c.proofs.CarriedOut.{orders_are_carried_out_by}
use Rattle.lapd_c.proofs.laws.orders_are_carried_out.Goals as goal

pub returns : goal.returns
returns c = orders_are_carried_out_by
