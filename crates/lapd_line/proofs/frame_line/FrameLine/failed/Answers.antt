-- Hand-written answers for `FrameLine::failed`.
use Rattle.lapd_line.proofs.Vocabulary.{ap, subst, ◌∙◌, dropped, config_of, Leads, hears, cause_of}
use Rattle.model_bits.specs.Stream as stream
use Rattle.lapd_line.proofs.LineSteps.{dropped_told}
use Rattle.lapd_line.proofs.frame_line.FrameLine.failed.Goals as goal

pub returns-clause-told : goal.returns-clause-told
returns-clause-told c = λ m.
    dropped_told (config_of c.args.self.now) (cause_of c.args.fault) m c.dropped.new.report (c.dropped.ensures.says ∙ ap dropped c.cause_of.ensures)

pub returns-clause-after : goal.returns-clause-after
returns-clause-after c = λ store.
    subst (λ why. Leads (hears (stream.dropped why)) c.args.self.now store c.dropped.new.self store) c.cause_of.ensures (c.dropped.ensures.after store)
