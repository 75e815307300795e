-- Hand-written answers for `Link::expire`.
use Rattle.lapd_link.proofs.Vocabulary.{event-rises, ◌∙◌, queue_of, course, terms_of, []}
use Rattle.model_link.specs.Events as event
use Rattle.lapd_link.proofs.Ending.{running-at, reached, stands-after, told-after}
use Rattle.lapd_link.proofs.link.Link.expire.Goals as goal

pub returns-clause-stands : goal.returns-clause-stands
returns-clause-stands g c = λ others m s.
    stands-after (event.expired c.args.timer) s (record { terms = c.settle.ensures.stays.terms; capacity = c.settle.ensures.stays.capacity }) c.settle.ensures.limits
    (c.settle.ensures.reaches [] (queue_of m) others m (course (terms_of c.args.self.now) (event.expired c.args.timer) m) s.kept (c.running-before.ensures ∙ running-at s.fits.rests)
    (reached (record { none = c.args.report.now; nothing = c.requires.clear; does = c.expire.ensures.does [] }) s))

pub returns-clause-told : goal.returns-clause-told
returns-clause-told g c = λ others m s.
    told-after {link = c.args.self.now} (event.expired c.args.timer) (record { terms = c.settle.ensures.stays.terms; capacity = c.settle.ensures.stays.capacity })
    (c.settle.ensures.reaches [] (queue_of m) others m (course (terms_of c.args.self.now) (event.expired c.args.timer) m) s.kept (c.running-before.ensures ∙ running-at s.fits.rests)
    (reached (record { none = c.args.report.now; nothing = c.requires.clear; does = c.expire.ensures.does [] }) s))

pub returns-clause-cause : goal.returns-clause-cause
returns-clause-cause g c = λ others m s.
    (c.settle.ensures.reaches [] (queue_of m) others m (course (terms_of c.args.self.now) (event.expired c.args.timer) m) s.kept (c.running-before.ensures ∙ running-at s.fits.rests)
    (reached (record { none = c.args.report.now; nothing = c.requires.clear; does = c.expire.ensures.does [] }) s)).cause

pub returns-clause-frames : goal.returns-clause-frames
returns-clause-frames g c = λ others m s. event-rises (terms_of c.args.self.now) s.fits.range m s.fits.sound (event.expired c.args.timer)
