-- What is due is taken out, and the others are left.
use Rattle.lapd_timed.specs.Stands.{held}
use Rattle.lapd_timed.proofs.Falling.{left-is}
use Rattle.lapd_timed.proofs.card_timers.CardTimers.due.Goals as goal

pub returns-clause-left : goal.returns-clause-left
returns-clause-left c = left-is (held c.args.self.now) c.due.new.self c.due.result c.due.ensures.due c.due.ensures.taken
