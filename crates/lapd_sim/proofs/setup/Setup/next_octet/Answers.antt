-- Hand-written answers for `Setup::next_octet`.
use Rattle.lapd_sim.proofs.Vocabulary.{refl, ap, at, pull, octet_in, pulled_of}
use Rattle.lapd_sim.proofs.Boards.{else_of, goes_on, led_octets, timed_octets, told_octets}
use Rattle.model_card.specs.ports.Port as port
use Rattle.lapd_sim.proofs.setup.Setup.next_octet.Goals as goal

pub returns-clause-pulled : goal.returns-clause-pulled
returns-clause-pulled c = λ m h.
    ap octet_in (told_octets c.args.line pull port.pull refl c.args.self.now.timed.card m.board h.board c.requires.kind (pulled_of c.pull.result) c.pull.ensures.called.answers)

pub returns-clause-after : goal.returns-clause-after
returns-clause-after c = λ m h.
    let s = c.args.self.now in
    goes_on (at c.args.line pull) s _ (led_octets c.args.line pull port.pull refl s.timed.card c.pull.new.self.card c.pull.ensures.called.leads) refl refl refl refl m (else_of s m h)
    (timed_octets c.args.line pull port.pull refl s.timed c.pull.new.self c.pull.ensures.called.after c.pull.ensures.called.marked c.requires.kind m.board h.board m.clock m.marks h.timers)
