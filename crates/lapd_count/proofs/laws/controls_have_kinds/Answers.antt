-- Hand-written answers for `controls_have_kinds`.
use Rattle.lapd_count.proofs.ControlKinds.{controls_have_kinds}
use Rattle.lapd_count.proofs.laws.controls_have_kinds.Goals as goal

pub returns : goal.returns
returns c = controls_have_kinds
