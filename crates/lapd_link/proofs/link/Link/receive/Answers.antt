-- Hand-written answers for `Link::receive`.
use Rattle.lapd_link.proofs.Vocabulary.{event-rises, ◌∙◌, queue_of, course, terms_of, sym, ap, LinkTold, unserved-stays, received_of, info_of}
use Rattle.model_link.specs.Events as event
use Rattle.lapd_link.proofs.Ending.{running-at, reached, stands-after, told-after}
use Rattle.lapd_link.proofs.link.Link.receive.Goals as goal

pub returns-clause-stands : goal.returns-clause-stands
returns-clause-stands g c = λ others m s.
    stands-after (event.received (received_of c.args.received)) s (record { terms = c.settle.ensures.stays.terms; capacity = c.settle.ensures.stays.capacity }) c.settle.ensures.limits
    (c.settle.ensures.reaches (info_of c.args.received) (queue_of m) others m (course (terms_of c.args.self.now) (event.received (received_of c.args.received)) m) s.kept (c.running-before.ensures ∙ running-at s.fits.rests)
    (reached (record { none = c.args.report.now; nothing = c.requires.clear; does = c.hear.ensures }) s))

pub returns-clause-told : goal.returns-clause-told
returns-clause-told g c = λ others m s.
    told-after {link = c.args.self.now} (event.received (received_of c.args.received)) (record { terms = c.settle.ensures.stays.terms; capacity = c.settle.ensures.stays.capacity })
    (c.settle.ensures.reaches (info_of c.args.received) (queue_of m) others m (course (terms_of c.args.self.now) (event.received (received_of c.args.received)) m) s.kept (c.running-before.ensures ∙ running-at s.fits.rests)
    (reached (record { none = c.args.report.now; nothing = c.requires.clear; does = c.hear.ensures }) s))

pub returns-clause-cause : goal.returns-clause-cause
returns-clause-cause g c = λ others m s.
    (c.settle.ensures.reaches (info_of c.args.received) (queue_of m) others m (course (terms_of c.args.self.now) (event.received (received_of c.args.received)) m) s.kept (c.running-before.ensures ∙ running-at s.fits.rests)
    (reached (record { none = c.args.report.now; nothing = c.requires.clear; does = c.hear.ensures }) s)).cause

pub returns-clause-frames : goal.returns-clause-frames
returns-clause-frames g c = λ others m s. event-rises (terms_of c.args.self.now) s.fits.range m s.fits.sound (event.received (received_of c.args.received))

pub returns-clause-unserved : goal.returns-clause-unserved
returns-clause-unserved g c = λ others m s is.
    unserved-stays (terms_of c.args.self.now) (received_of c.args.received) m (sym (ap (λ (t : LinkTold). t.unserved) (returns-clause-told g c others m s)) ∙ is)
