-- Hand-written answers for `services_have_their_sapis`.
use Rattle.laws_trace.proofs.Sapis.{services-have-their-sapis}
use Rattle.laws_trace.proofs.laws.services_have_their_sapis.Goals as goal

pub returns : goal.returns
returns c = services-have-their-sapis
