-- Hand-written answers for `FrameLine::dropped`.
use Rattle.lapd_line.proofs.Vocabulary.{[], ap, config_of}
use Rattle.lapd_line.proofs.LineSteps.{dropped_heard, dropped_leads}
use Rattle.lapd_line.proofs.frame_line.FrameLine.dropped.Goals as goal

pub returns-clause-told : goal.returns-clause-told
returns-clause-told c = λ m. dropped_heard (config_of c.args.self.now) c.args.cause m c.tell_drop.new.report (c.tell_drop.ensures [])

pub returns-clause-after : goal.returns-clause-after
returns-clause-after c = λ store. dropped_leads store c.args.cause (ap (λ k. record c.args.self.now { counters = k }) c.told.ensures)
