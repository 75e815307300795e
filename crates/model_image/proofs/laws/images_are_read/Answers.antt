-- Hand-written answers for `images_are_read`.
use Rattle.model_image.proofs.Again.{images_tell_no_more}
use Rattle.model_image.proofs.Whole.{images_are_read}
use Rattle.model_image.proofs.laws.images_are_read.Goals as goal

pub returns-clause-read : goal.returns-clause-read
returns-clause-read c = λ s t sound also e. images_are_read s t sound also e

pub returns-clause-no_more : goal.returns-clause-no_more
returns-clause-no_more c = λ s t sound also same. images_tell_no_more s t sound also same
