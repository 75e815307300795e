-- Hand-written answers for `Page::tell`.
use Rattle.lapd_transcript.proofs.Vocabulary.{flat_map, frame_text, found}
use Rattle.lapd_transcript.proofs.Known.{leaves, puts_then, stuck_more}
use Rattle.lapd_transcript.proofs.output.Page.tell.Goals as goal

pub returns-in_err-put_sent-clause-told : goal.returns-in_err-put_sent-clause-told
returns-in_err-put_sent-clause-told g c = λ past h. leaves c.from_residual.result _ _ _ c.from_residual.ensures.0 (stuck_more _ _ _ (flat_map (frame_text c.args.line) (found past c.args.octets.now)) c.in_err-put_sent.ensures)

pub returns-clause-told : goal.returns-clause-told
returns-clause-told g c = λ past h. puts_then c.show_frames.result _ _ _ _ (flat_map (frame_text c.args.line) (found past c.args.octets.now)) c.in_ok-put_sent.ensures (c.show_frames.ensures.told past h)
