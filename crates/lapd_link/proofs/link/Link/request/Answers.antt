-- Hand-written answers for `Link::request`.
use Rattle.lapd_link.proofs.Vocabulary.{event-rises, ℕ, [], sym, ap, subst, ◌∙◌, nat_le, used_slots, requested, Course, refusal, course, request_of, Reaches, terms_of}
use Rattle.lapd_link.proofs.Ending.{stands-after, told-after}
use Rattle.lapd_link.proofs.Asking.{granted-course}
use Rattle.lapd_link.proofs.link.Link.request.Goals as goal

pub returns-in-Some-clause-refused : goal.returns-in-Some-clause-refused
returns-in-Some-clause-refused g c = λ others m s.
    ap (λ (n : ℕ). refusal (terms_of c.args.self.now) m (nat_le c.args.slots n) (request_of c.args.request)) (sym c.used.ensures.count)
    ∙ sym (c.refusal.ensures.machine (g.S.Shelf.store c.args.shelf.now) others m s) ∙ c.in-Some.is

pub returns-in-None-clause-granted : goal.returns-in-None-clause-granted
returns-in-None-clause-granted g c = λ others m s.
    ap (λ (n : ℕ). refusal (terms_of c.args.self.now) m (nat_le c.args.slots n) (request_of c.args.request)) (sym c.used.ensures.count)
    ∙ sym (c.refusal.ensures.machine (g.S.Shelf.store c.args.shelf.now) others m s) ∙ c.in-None.is

pub returns-in-None-clause-stands : goal.returns-in-None-clause-stands
returns-in-None-clause-stands g c = λ others m s.
    let reaches : Reaches [] m (course (terms_of c.args.self.now) (requested (request_of c.args.request) (nat_le c.args.slots (used_slots (g.S.Shelf.store c.args.shelf.now)))) m) c.grant.new.self (g.S.Shelf.store c.grant.new.shelf) others c.grant.new.report =
    subst (λ (k : Course). Reaches [] m k c.grant.new.self (g.S.Shelf.store c.grant.new.shelf) others c.grant.new.report)
    (granted-course (terms_of c.args.self.now) (request_of c.args.request) (nat_le c.args.slots (used_slots (g.S.Shelf.store c.args.shelf.now))) m (returns-in-None-clause-granted g c others m s))
    (c.grant.ensures.reaches others m s) in
    stands-after (requested (request_of c.args.request) (nat_le c.args.slots (used_slots (g.S.Shelf.store c.args.shelf.now)))) s c.grant.ensures.stays c.grant.ensures.limits reaches

pub returns-in-None-clause-told : goal.returns-in-None-clause-told
returns-in-None-clause-told g c = λ others m s.
    let reaches : Reaches [] m (course (terms_of c.args.self.now) (requested (request_of c.args.request) (nat_le c.args.slots (used_slots (g.S.Shelf.store c.args.shelf.now)))) m) c.grant.new.self (g.S.Shelf.store c.grant.new.shelf) others c.grant.new.report =
    subst (λ (k : Course). Reaches [] m k c.grant.new.self (g.S.Shelf.store c.grant.new.shelf) others c.grant.new.report)
    (granted-course (terms_of c.args.self.now) (request_of c.args.request) (nat_le c.args.slots (used_slots (g.S.Shelf.store c.args.shelf.now))) m (returns-in-None-clause-granted g c others m s))
    (c.grant.ensures.reaches others m s) in
    told-after {link = c.args.self.now} (requested (request_of c.args.request) (nat_le c.args.slots (used_slots (g.S.Shelf.store c.args.shelf.now)))) c.grant.ensures.stays reaches

pub returns-in-None-clause-cause : goal.returns-in-None-clause-cause
returns-in-None-clause-cause g c = λ others m s. (c.grant.ensures.reaches others m s).cause

pub returns-in-None-clause-frames : goal.returns-in-None-clause-frames
returns-in-None-clause-frames g c = λ others m s. event-rises (terms_of c.args.self.now) s.fits.range m s.fits.sound (requested (request_of c.args.request) (nat_le c.args.slots (used_slots (g.S.Shelf.store c.args.shelf.now))))

pub returns-in-Some-clause-frames : goal.returns-in-Some-clause-frames
returns-in-Some-clause-frames g c = λ others m s. event-rises (terms_of c.args.self.now) s.fits.range m s.fits.sound (requested (request_of c.args.request) (nat_le c.args.slots (used_slots (g.S.Shelf.store c.args.shelf.now))))
