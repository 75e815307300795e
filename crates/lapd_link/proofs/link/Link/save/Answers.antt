-- Hand-written answers for `Link::save`.
use Rattle.lapd_image.proofs.Puts.{puts-same, puts-then}
use Rattle.lapd_link.proofs.Images.{saved-resting, whole-image}
use Rattle.lapd_link.proofs.Vocabulary.{ap, queue_of, terms_of, ◌∙◌}
use Rattle.lapd_link.proofs.link.Link.save.Goals as goal
use Rattle.model_link.specs.Link as machine

pub put_octet-at-requires : goal.put_octet-at-requires
put_octet-at-requires g c = (c.save-at.ensures.puts (terms_of c.args.self.now) c.requires.stands.1 c.requires.stands.2.fits.rests).within

pub returns-clause-puts : goal.returns-clause-puts
returns-clause-puts g c = λ others m s.
    puts-same (whole-image m (c.len.ensures.count ∙ s.kept.lengths) (ap (λ (l : machine.Link). l.waiting) s.fits.rests.is))
    (puts-then (c.save-at.ensures.puts (terms_of c.args.self.now) m s.fits.rests)
    (puts-then c.put_octet-at.ensures (puts-then (c.save_queue-at.ensures.puts (queue_of m) others s.kept) c.save_waiting.ensures)))

pub returns-clause-saved : goal.returns-clause-saved
returns-clause-saved g c = λ others m s timed.
    saved-resting s.fits.sound s.fits.rests c.save-at.ensures.small timed (c.save_queue-at.ensures.octets (queue_of m) others s.kept)
