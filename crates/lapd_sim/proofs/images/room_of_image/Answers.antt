-- Hand-written answers for `room_of_image`.
use Rattle.lapd_sim.proofs.Vocabulary.{arith}
use Rattle.lapd_sim.proofs.Restoring.Rooms.{few-octets}
use Rattle.lapd_sim.proofs.images.room_of_image.Goals as goal

pub overflow_add-result : goal.overflow_add-result
overflow_add-result c = omega (arith, c.image_octets.ensures, few-octets c.args.config.now c.requires)

pub returns-clause-few : goal.returns-clause-few
returns-clause-few c = omega (arith, c.image_octets.ensures, few-octets c.args.config.now c.requires)
