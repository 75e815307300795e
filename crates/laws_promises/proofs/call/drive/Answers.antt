-- Hand-written answers for `drive`.
use Rattle.laws_promises.proofs.Vocabulary.{meant_all, refines, frames_reached}
use Rattle.lapd_card.specs.Drive.{events_of}
use Rattle.lapd_card.proofs.OctetHeadline.{events_at_lines}
use Rattle.laws_promises.proofs.Kept.{promises-kept}
use Rattle.laws_promises.proofs.OctetsKept.{octets-kept}
use Rattle.laws_promises.proofs.call.drive.Goals as goal

-- what the events mean is at lines of every machine for which the card stands
pub returns-clause-promises : goal.returns-clause-promises
returns-clause-promises g c = λ m s.
    let events = events_of c.args.events.now in
    promises-kept m.card (meant_all m events) (frames_reached m s.reached)
    ((refines m events).at_lines (events_at_lines g.S.Shelf.store c.args.card.now c.args.events.now c.requires m s))

pub returns-clause-promises_of_octets : goal.returns-clause-promises_of_octets
returns-clause-promises_of_octets g c = λ m s.
    octets-kept m (events_of c.args.events.now) s.reached
    (events_at_lines g.S.Shelf.store c.args.card.now c.args.events.now c.requires m s)
