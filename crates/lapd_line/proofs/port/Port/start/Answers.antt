-- Hand-written answers for `Port::start`.
use Rattle.lapd_line.proofs.Vocabulary.{ap, refl}
use Rattle.lapd_line.proofs.port.Port.start.Goals as goal

pub returns : goal.returns
returns c = record {
  fresh = record { received = c.in_ok-deframer.ensures.fresh; sent = c.in_ok-framer.ensures.stands; room = ap (λ f. f.room) c.in_ok-framer.ensures.begins; latest = refl; limit = refl; ended = c.in_ok-deframer.ensures.silent };
}
