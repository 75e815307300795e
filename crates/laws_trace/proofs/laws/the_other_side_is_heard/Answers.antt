-- Hand-written answers for `the_other_side_is_heard`.
use Rattle.laws_trace.proofs.OtherSide.{the-other-side-is-heard}
use Rattle.laws_trace.proofs.laws.the_other_side_is_heard.Goals as goal

pub returns : goal.returns
returns c = the-other-side-is-heard
