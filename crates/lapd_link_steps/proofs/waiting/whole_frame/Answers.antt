-- Hand-written answers for `whole_frame`.
use Rattle.lapd_link_steps.proofs.ControlFrames.{any_address, whole-spelled}
use Rattle.lapd_link_steps.proofs.waiting.whole_frame.Goals as goal

pub returns-in-Err-clause-none : goal.returns-in-Err-clause-none
returns-in-Err-clause-none c = λ frame may command field.
    c.in-Err.ensures.only (any_address frame) (whole-spelled frame c.args.command c.requires may command field)
