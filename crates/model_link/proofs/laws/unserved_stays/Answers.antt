-- Hand-written answers for `unserved_stays`.
use Rattle.model_link.proofs.Unserved.{unserved-stays}
use Rattle.model_link.proofs.laws.unserved_stays.Goals as goal

pub returns : goal.returns
returns c = λ t what l is. unserved-stays t what l is
