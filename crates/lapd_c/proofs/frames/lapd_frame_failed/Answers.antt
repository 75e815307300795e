-- Hand-written answers for `lapd_frame_failed`.
use Rattle.lapd_c.proofs.Vocabulary.{alone, refl, sym, ap, subst, ◌∙◌, arith, ShowsAnswer}
use Rattle.model_bits.specs.Stream as stream
use Rattle.model_card.specs.Machine.{answer}
use Rattle.model_line.specs.Came.{cause_of}
use Rattle.lapd_c.specs.Frames.{fails}
use Rattle.lapd_c.specs.Asked.{failed_asked, if_ok}
use Rattle.lapd_c.specs.CalledBy.{Happening, inside}
use Rattle.lapd_c.specs.Faults.{fault_in}
use Rattle.lapd_c.proofs.Calling.{as_it_was, is_called, never_refused_heard, served_at, shown_given, wrong_at}
use Rattle.lapd_c.proofs.WrongStatuses.{NotOk, fault_not_ok}
use Rattle.std.proofs.Common.{◌≡◌, Err, rules}
use Rattle.lapd_c.proofs.Reopening.{settled_answered}
use Rattle.lapd_c.proofs.Served.{served_frames, there}
use Rattle.lapd_c.proofs.frames.lapd_frame_failed.Goals as goal

pub returns-clause-called : goal.returns-clause-called
returns-clause-called c = is_called (failed_asked c.args.line c.args.cause) _ _ _ _ _ (search rules) (λ m s w.
    let on = there c.in-Some.ensures.card (alone m) s in
    served_at (failed_asked c.args.line c.args.cause) _ _ _ _ (alone m) (inside (fails c.args.line c.in-Ok.value))
    (ap (if_ok {B = Happening} (λ fault. inside (fails c.args.line fault))) (sym c.fault_in.ensures ∙ c.in-Ok.is)) (never_refused_heard c.args.line (stream.dropped (cause_of c.in-Ok.value)) m)
    (served_frames _ _ c.in-Some.ensures.card refl c.failed.new.self c.settle.ensures.settles.timed c.settle.new.report c.failed.ensures.called m on
    (shown_given _ c.settle.new.report _ (answer (fails c.args.line c.in-Ok.value) m) (settled_answered _ c.settle.new.report c.show.new.self _ c.settle.ensures.rest
    (subst (ShowsAnswer c.show.new.self) (c.failed.ensures.called.answers m on) (c.show.ensures (omega arith))))))) (λ not_ok. absurd (not_ok refl))

-- a number that no fault has
pub returns-in-Err-clause-called : goal.returns-in-Err-clause-called
returns-in-Err-clause-called c =
    let wrong : fault_in c.args.cause ≡ Err c.in-Err.wrong = sym c.fault_in.ensures ∙ c.in-Err.is in
    is_called (failed_asked c.args.line c.args.cause) c.args.handle.now _ _ _ _ (search rules)
    (λ m s w. wrong_at (failed_asked c.args.line c.args.cause) _ _ _ _ (alone m) (ap (if_ok {B = Happening} (λ fault. inside (fails c.args.line fault))) wrong) (subst (λ o. NotOk o) wrong (fault_not_ok c.args.cause)))
    (λ _. as_it_was c.args.line c.args.handle.now _ (search rules))
