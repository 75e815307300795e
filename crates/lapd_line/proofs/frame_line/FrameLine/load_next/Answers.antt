-- Hand-written answers for `FrameLine::load_next`.
use Rattle.lapd_line.proofs.Vocabulary.{[], ◌++◌, refl, ap, head_shown, orders_taken, config_of}
use Rattle.lapd_line.proofs.MessageSteps.{type_counted}
use Rattle.lapd_line.proofs.NextSteps.{next_leads, none_leads}
use Rattle.lapd_line.proofs.PortSteps.{none_loaded, one_loaded, head_is}
use Rattle.lapd_line.proofs.frame_line.FrameLine.load_next.Goals as goal

pub returns-in_err-orders-clause-loaded : goal.returns-in_err-orders-clause-loaded
returns-in_err-orders-clause-loaded g c = none_loaded c.args.port.now c.take.ensures (ap orders_taken c.in_err-orders.was) (ap orders_taken c.from_residual.ensures)

pub returns-in_err-orders-clause-after : goal.returns-in_err-orders-clause-after
returns-in_err-orders-clause-after g c = none_leads c.take.ensures (ap orders_taken c.in_err-orders.was)

pub returns-in-Some-clause-loaded : goal.returns-in-Some-clause-loaded
returns-in-Some-clause-loaded g c = one_loaded c.args.port.now c.take.ensures (ap orders_taken c.in_ok-orders.was)

pub returns-in-Some-clause-after : goal.returns-in-Some-clause-after
returns-in-Some-clause-after g c =
    next_leads c.take.ensures c.begun-in-Some.new.self (head_shown (config_of c.args.self.now).side c.in-Some.head ++ type_counted c.next_type-message.result) c.begun-in-Some.ensures
    (head_is c.args.port.now c.take.ensures (ap orders_taken c.in_ok-orders.was) c.in-Some.ensures.is c.next_type-message.ensures)

pub returns-in_default-clause-loaded : goal.returns-in_default-clause-loaded
returns-in_default-clause-loaded g c = one_loaded c.args.port.now c.take.ensures (ap orders_taken c.in_ok-orders.was)

pub returns-in_default-clause-after : goal.returns-in_default-clause-after
returns-in_default-clause-after g c =
    next_leads c.take.ensures c.take.new.self.counters [] refl (head_is c.args.port.now c.take.ensures (ap orders_taken c.in_ok-orders.was) c.in_default.ensures.is c.next_type-message.ensures)
