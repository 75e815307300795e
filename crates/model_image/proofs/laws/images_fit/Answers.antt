-- Hand-written answers for `images_fit`.
use Rattle.model_image.proofs.FitsWhole.{images_are_octets, images_fit}
use Rattle.model_image.proofs.laws.images_fit.Goals as goal

pub returns-clause-octets : goal.returns-clause-octets
returns-clause-octets c = λ s sound. images_are_octets s sound

pub returns-clause-few : goal.returns-clause-few
returns-clause-few c = λ s sound. images_fit s sound
