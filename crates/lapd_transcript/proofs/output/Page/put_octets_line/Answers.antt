-- Hand-written answers for `Page::put_octets_line`.
use Rattle.lapd_transcript.proofs.Vocabulary.{Ok, Err, codes, octets_text}
use Rattle.lapd_transcript.proofs.Known.{leaves, puts_then, stuck_more}
use Rattle.lapd_transcript.proofs.output.Page.put_octets_line.Goals as goal

pub returns-in_err-put_all : goal.returns-in_err-put_all
returns-in_err-put_all g c = leaves c.from_residual.result _ _ _ c.from_residual.ensures.0 (stuck_more _ _ _ (codes "\n") (stuck_more _ _ _ (octets_text c.args.octets.now) c.in_err-put_all.ensures))

pub returns-in_err-put_octets : goal.returns-in_err-put_octets
returns-in_err-put_octets g c = leaves c.from_residual-in_err-put_octets.result _ _ _ c.from_residual-in_err-put_octets.ensures.0 (stuck_more _ _ _ (codes "\n") (puts_then (Err c.in_err-put_octets.field-0.0) _ _ _ _ (octets_text c.args.octets.now) c.in_ok-put_all.ensures c.in_err-put_octets.ensures))

pub returns : goal.returns
returns g c = puts_then c.put.result _ _ _ _ (codes "\n") (puts_then (Ok tt) _ _ _ _ (octets_text c.args.octets.now) c.in_ok-put_all.ensures c.in_ok-put_octets.ensures) c.put.ensures
