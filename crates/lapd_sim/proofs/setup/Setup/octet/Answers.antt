-- Hand-written answers for `Setup::octet`.
use Rattle.lapd_sim.proofs.Vocabulary.{Ok, refl, sym, ap, ◌∙◌, option_copied, at, octet, told, told_beside, WriteFailed, nothing}
use Rattle.lapd_card.specs.{told_at}
use Rattle.lapd_sim.proofs.Scenes.{nothing_told}
use Rattle.lapd_sim.proofs.Boards.{else_of, led_octets, timed_octets, told_octets, told_on}
use Rattle.lapd_timed.specs.Kinds.{ports_of}
use Rattle.model_card.specs.ports.Port as port
use Rattle.lapd_sim.proofs.setup.Setup.octet.Goals as goal

pub returns-in_default-clause-told : goal.returns-in_default-clause-told
returns-in_default-clause-told g c = λ m h.
    let s = c.args.self.now in
    let line = c.args.line in
    let v = c.args.octet in
    told_on (at line (octet v)) s _ (led_octets line (octet v) (port.octet v) refl s.timed.card c.hear.new.self.card c.hear.ensures.called.leads) refl refl refl refl m (else_of s m h)
    {E = WriteFailed} (Ok tt) _ _ (told nothing)
    (told_octets line (octet v) (port.octet v) refl s.timed.card m.board h.board c.requires.kind (port.told nothing) c.in_default.ensures.called.answers)
    (timed_octets line (octet v) (port.octet v) refl s.timed c.hear.new.self c.hear.ensures.called.after c.hear.ensures.called.marked c.requires.kind m.board h.board m.clock m.marks h.timers) (nothing_told s.losses line _)

pub returns-clause-told : goal.returns-clause-told
returns-clause-told g c = λ m h.
    let s = c.args.self.now in
    let line = c.args.line in
    let v = c.args.octet in
    told_on (at line (octet v)) s _ (led_octets line (octet v) (port.octet v) refl s.timed.card c.hear.new.self.card c.hear.ensures.called.leads) refl refl refl refl m (else_of s m h)
    c.tell.result _ _ (told (told_beside (option_copied c.contents.result) c.in-Some.report))
    (told_octets line (octet v) (port.octet v) refl s.timed.card m.board h.board c.requires.kind (port.told (told_beside (option_copied c.contents.result) c.in-Some.report))
    (λ n k. ap port.told (c.contents.ensures ∙ ap (λ d. told_at (ports_of d) line c.in-Some.report) (sym c.in-Octets.is ∙ c.card.ensures)) ∙ c.in-Some.ensures.called.answers n k))
    (timed_octets line (octet v) (port.octet v) refl s.timed c.hear.new.self c.hear.ensures.called.after c.hear.ensures.called.marked c.requires.kind m.board h.board m.clock m.marks h.timers) c.tell.ensures
