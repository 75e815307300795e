-- The one order is carried out where its timer runs.
use Rattle.std.proofs.Common.{arith}
use Rattle.lapd_timed.specs.Stands.{held}
use Rattle.lapd_timed.proofs.Carried.{only-one, restarted-alone}
use Rattle.lapd_timed.proofs.card_timers.CardTimers.restart_alone.Goals as goal

pub returns-clause-after : goal.returns-clause-after
returns-clause-after c = λ done.
    restarted-alone (held c.args.self.now) c.args.line c.in-Start.timer c.of.result c.restart.new.self (c.restart.ensures.done done) c.of.ensures.is c.args.self.now.in_time c.of.ensures.most
    c.args.orders.now (only-one c.args.orders.now _ _ (omega arith) c.in-Start.is)
