-- Hand-written answers for `tell`.
use Rattle.lapd_sim.proofs.Vocabulary.{◌≡◌, ℕ, ◌++◌, List, Option, Result, Output, Puts, WriteFailed, on, option_copied, puts_then, stuck_more, subst, shown_losses, told_beside}
use Rattle.lapd_frame.specs.declared.notes.Note.{Note}
use Rattle.lapd_transcript.proofs.Known.{leaves}
use Rattle.lapd_transcript.specs.Text.{report_text}
use Rattle.model_bits.specs.declared.heard.Cause.{Cause}
use Rattle.lapd_sim.proofs.exchange.tell.Goals as goal

-- what was put is what the report tells
reported : (r : Result Unit WriteFailed) (a b : Output) (line lost : ℕ) (contents : Option (List ℕ)) (rest : List ℕ) (notes told : List Note) (cause known : Option Cause) → notes ≡ told → cause ≡ known
    → Puts r a b (report_text line notes contents cause lost ++ rest) → Puts r a b (report_text line told contents known lost ++ rest)
reported r a b line lost contents rest notes told cause known same_notes same_cause put =
    subst (λ ns. Puts r a b (report_text line ns contents known lost ++ rest)) same_notes (subst (λ why. Puts r a b (report_text line notes contents why lost ++ rest)) same_cause put)

pub returns-in_err-put_report : goal.returns-in_err-put_report
returns-in_err-put_report g c =
    let shown = shown_losses c.args.losses c.args.line c.args.tei (told_beside (option_copied c.args.contents) c.args.report.now) in
    let put = report_text c.args.line c.notes.result.now (option_copied c.args.contents) c.cause.result c.args.report.now.lost in
    reported c.from_residual.result (on g.T.Target.taken c.args.page.now) (on g.T.Target.taken c.put_report.new.self) c.args.line c.args.report.now.lost (option_copied c.args.contents) shown
    _ _ _ _ c.notes.ensures c.cause.ensures
    (leaves c.from_residual.result _ _ _ c.from_residual.ensures.0 (stuck_more _ _ put shown c.in_err-put_report.ensures))

pub returns : goal.returns
returns g c =
    let shown = shown_losses c.args.losses c.args.line c.args.tei (told_beside (option_copied c.args.contents) c.args.report.now) in
    let put = report_text c.args.line c.notes.result.now (option_copied c.args.contents) c.cause.result c.args.report.now.lost in
    reported c.tell_losses.result (on g.T.Target.taken c.args.page.now) (on g.T.Target.taken c.tell_losses.new.page) c.args.line c.args.report.now.lost (option_copied c.args.contents) shown
    _ _ _ _ c.notes.ensures c.cause.ensures
    (puts_then c.tell_losses.result _ _ _ put shown c.in_ok-put_report.ensures (c.tell_losses.ensures (option_copied c.args.contents)))
