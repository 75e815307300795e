-- Hand-written answers for `Link::offer`.
use Rattle.lapd_link.proofs.Vocabulary.{Option, sym, ap, ◌∙◌, LinkTimer, queue_of, offer, orders_for, Sent, course, given_of, terms_of}
use Rattle.lapd_link_steps.specs.Done as rows
use Rattle.lapd_link.proofs.Ending.{running-at}
use Rattle.lapd_link.proofs.Offering.{offered, offered-sent, slot-used, slot-message, frame-offered, stands-offered, given-offered, slot-contents}
use Rattle.lapd_link.proofs.link.Link.offer.Goals as goal

pub returns-in-None-clause-stands : goal.returns-in-None-clause-stands
returns-in-None-clause-stands c = λ store others m s. stands-offered s (offered s c.nothing-report.ensures c.len.ensures.count c.offer.ensures.gives)

pub returns-in-None-clause-given : goal.returns-in-None-clause-given
returns-in-None-clause-given c = λ store others m s.
    sym (ap (λ (o : Option Sent). given_of (terms_of c.args.self.now) m (course (terms_of c.args.self.now) offer m) o) (offered-sent s c.nothing-report.ensures c.len.ensures.count c.offer.ensures.gives ∙ ap (rows.given_of (queue_of m)) c.in-None.is))

pub returns-in-Some-clause-stands : goal.returns-in-Some-clause-stands
returns-in-Some-clause-stands c = λ store others m s. stands-offered s (offered s c.nothing-report.ensures c.len.ensures.count c.offer.ensures.gives)

pub returns-in-Some-clause-given : goal.returns-in-Some-clause-given
returns-in-Some-clause-given c = λ store others m s.
    given-offered (terms_of c.args.self.now) m c.in-Some.given.frame (rows.contents_at (queue_of m) c.in-Some.given.place) _ _ (offered s c.nothing-report.ensures c.len.ensures.count c.offer.ensures.gives)
    (offered-sent s c.nothing-report.ensures c.len.ensures.count c.offer.ensures.gives ∙ ap (rows.given_of (queue_of m)) c.in-Some.is)
    (slot-contents c.in-Some.given.place c.slot_at.result c.slot_at.ensures s.kept)
    (c.orders_with.ensures
    ∙ ap (λ (before : Option LinkTimer). orders_for (terms_of c.args.self.now) before c.offer.new.told.started c.offer.new.self.running) (c.running-before.ensures ∙ running-at s.fits.rests))

pub returns-in-Some-clause-used : goal.returns-in-Some-clause-used
returns-in-Some-clause-used c = λ store others m s. slot-used c.in-Some.given.place c.slot_at.result c.slot_at.ensures s.kept

pub returns-in-Some-clause-frame : goal.returns-in-Some-clause-frame
returns-in-Some-clause-frame c = λ store others m s.
    frame-offered c.in-Some.given s (offered-sent s c.nothing-report.ensures c.len.ensures.count c.offer.ensures.gives ∙ ap (rows.given_of (queue_of m)) c.in-Some.is)

pub returns-in-Some-clause-slot : goal.returns-in-Some-clause-slot
returns-in-Some-clause-slot c = λ store others m s.
    slot-message m.contents m.a (terms_of c.args.self.now).n201 c.in-Some.given.place c.slot_at.result c.slot_at.ensures s.kept s.fits.sound.sizes
