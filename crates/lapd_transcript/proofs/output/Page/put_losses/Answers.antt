-- Hand-written answers for `Page::put_losses`.
use Rattle.lapd_frame.specs.declared.services.Service.TheVariants.{Packet}
use Rattle.lapd_transcript.specs.Text.{given_up_text}
use Rattle.lapd_transcript.proofs.Known.{leaves, puts_then, stuck_more}
use Rattle.lapd_transcript.proofs.output.Page.put_losses.Goals as goal

pub returns-in_err-put_given_up : goal.returns-in_err-put_given_up
returns-in_err-put_given_up g c =
    leaves c.from_residual.result _ _ _ c.from_residual.ensures.0 (stuck_more _ _ _ (given_up_text c.args.line Packet c.args.tei c.args.packet) c.in_err-put_given_up.ensures)

pub returns : goal.returns
returns g c =
    puts_then c.put_given_up-2.result _ _ _ _ (given_up_text c.args.line Packet c.args.tei c.args.packet) c.in_ok-put_given_up.ensures c.put_given_up-2.ensures
