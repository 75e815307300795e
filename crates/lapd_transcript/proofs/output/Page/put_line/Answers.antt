-- Hand-written answers for `Page::put_line`.
use Rattle.lapd_transcript.proofs.Vocabulary.{Ok, Err, ap, codes, decimal, joined, ◌∙◌}
use Rattle.lapd_transcript.proofs.Known.{leaves, lined, puts_then, stuck_more}
use Rattle.lapd_transcript.proofs.output.Page.put_line.Goals as goal

pub returns-in_err-put_all : goal.returns-in_err-put_all
returns-in_err-put_all g c =
    lined _ _ _ c.args.line _ (joined c.args.words.now) (c.as_slice.ensures.value ∙ c.decimal-line.ensures ∙ ap decimal c.from.ensures)
    (leaves c.from_residual.result _ _ _ c.from_residual.ensures.0 (stuck_more _ _ _ (codes "\n") (stuck_more _ _ _ (joined c.args.words.now) c.in_err-put_all.ensures)))

pub returns-in_err-put_all-2 : goal.returns-in_err-put_all-2
returns-in_err-put_all-2 g c =
    lined _ _ _ c.args.line _ (joined c.args.words.now) (c.as_slice.ensures.value ∙ c.decimal-line.ensures ∙ ap decimal c.from.ensures)
    (leaves c.from_residual-in_err-put_all-2.result _ _ _ c.from_residual-in_err-put_all-2.ensures.0
    (stuck_more _ _ _ (codes "\n") (puts_then (Err c.in_err-put_all-2.field-0.0) _ _ _ _ (joined c.args.words.now) c.in_ok-put_all.ensures c.in_err-put_all-2.ensures)))

pub returns : goal.returns
returns g c =
    lined _ _ _ c.args.line _ (joined c.args.words.now) (c.as_slice.ensures.value ∙ c.decimal-line.ensures ∙ ap decimal c.from.ensures)
    (puts_then c.put.result _ _ _ _ (codes "\n") (puts_then (Ok tt) _ _ _ _ (joined c.args.words.now) c.in_ok-put_all.ensures c.in_ok-put_all-2.ensures) c.put.ensures)
