-- Hand-written answers for `Page::put_report`.
use Rattle.lapd_transcript.proofs.Vocabulary.{Ok, Err, refl, dropped_text, lost_text}
use Rattle.lapd_transcript.proofs.Known.{leaves, reported, puts_then, stuck_more}
use Rattle.lapd_transcript.proofs.output.Page.put_report.Goals as goal

pub returns-in_err-put_notes : goal.returns-in_err-put_notes
returns-in_err-put_notes g c =
    reported _ _ _ c.args.line c.args.lost c.args.notes.now c.args.cause c.args.contents _ _ c.unwrap_or-contents.ensures refl
    (leaves c.from_residual.result _ _ _ c.from_residual.ensures.0 (stuck_more _ _ _ (lost_text c.args.line c.args.lost) (stuck_more _ _ _ (dropped_text c.args.line c.args.cause) c.in_err-put_notes.ensures)))

pub returns-in_err-put_dropped : goal.returns-in_err-put_dropped
returns-in_err-put_dropped g c =
    reported _ _ _ c.args.line c.args.lost c.args.notes.now c.args.cause c.args.contents _ _ c.unwrap_or-contents.ensures refl
    (leaves c.from_residual-in_err-put_dropped.result _ _ _ c.from_residual-in_err-put_dropped.ensures.0 (stuck_more _ _ _ (lost_text c.args.line c.args.lost) (puts_then (Err c.in_err-put_dropped.field-0.0) _ _ _ _ (dropped_text c.args.line c.args.cause) c.in_ok-put_notes.ensures c.in_err-put_dropped.ensures)))

pub returns : goal.returns
returns g c =
    reported _ _ _ c.args.line c.args.lost c.args.notes.now c.args.cause c.args.contents _ _ c.unwrap_or-contents.ensures refl
    (puts_then c.put_lost.result _ _ _ _ (lost_text c.args.line c.args.lost) (puts_then (Ok tt) _ _ _ _ (dropped_text c.args.line c.args.cause) c.in_ok-put_notes.ensures c.in_ok-put_dropped.ensures) c.put_lost.ensures)
