-- Hand-written answers for `stays_sound`.
use Rattle.model_link.proofs.Vocabulary.{fresh}
use Rattle.model_link.proofs.SoundEvents.{sound-after, sound-fresh, sound-all}
use Rattle.model_link.proofs.Slots.{queue-after}
use Rattle.model_link.proofs.Giving.{given_is_frame}
use Rattle.model_link.proofs.laws.stays_sound.Goals as goal

pub returns-clause-begins : goal.returns-clause-begins
returns-clause-begins c = λ t r. sound-fresh t r

pub returns-clause-each : goal.returns-clause-each
returns-clause-each c = λ t e l r h. sound-after t r e l h

pub returns-clause-always : goal.returns-clause-always
returns-clause-always c = λ t es r. sound-all t r es fresh (sound-fresh t r)

pub returns-clause-queue : goal.returns-clause-queue
returns-clause-queue c = λ t e l r h. queue-after t r.tei e l h

pub returns-clause-given : goal.returns-clause-given
returns-clause-given c = λ t l r h. given_is_frame t r l h
