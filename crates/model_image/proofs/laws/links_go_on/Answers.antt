-- Hand-written answers for `links_go_on`.
use Rattle.model_image.proofs.GoOnEvents.{links_go_on}
use Rattle.model_image.proofs.laws.links_go_on.Goals as goal

pub returns : goal.returns
returns c = λ t e l m sound also same. links_go_on t e l m sound also same
