-- Hand-written answers for `lapd_octet`: what an octet has ended is shown whole.
use Rattle.lapd_c.proofs.Vocabulary.{refl, subst, with_ports, Shows, contents_or_none, ◌≤◌, length}
use Rattle.lapd_card.specs.{told_at}
use Rattle.lapd_timed.specs.Kinds.{ports_of}
use Rattle.model_card.specs.ports.Event.{at}
use Rattle.model_card.specs.ports.Port as port
use Rattle.lapd_c.specs.Asked.{octet_asked}
use Rattle.lapd_c.specs.CalledBy.{at_port}
use Rattle.lapd_c.proofs.Calling.{is_called, served_at}
use Rattle.lapd_c.proofs.Reopening.{settled_replied, still_replied}
use Rattle.lapd_c.proofs.Served.{frames_stand, nothing_shown, served_octets, shown_reply, there}
use Rattle.std.proofs.Common.{rules}
use Rattle.lapd_c.proofs.octets.lapd_octet.Goals as goal

pub returns-in-Some-hear-clause-called : goal.returns-in-Some-hear-clause-called
returns-in-Some-hear-clause-called c = is_called (octet_asked c.args.line c.args.octet) _ _ _ _ _ (search rules) (λ m s w.
    let on = there c.in-Some.ensures.card (with_ports m) s in
    let e = at c.args.line (port.octet c.args.octet) in
    served_at (octet_asked c.args.line c.args.octet) _ _ _ _ (with_ports m) (at_port e) refl refl
    (served_octets _ _ c.in-Some.ensures.card refl c.hear.new.self c.settle.ensures.settles.timed c.settle.new.report c.in-Some-hear.ensures.called m on
    (settled_replied _ c.settle.new.report c.show_ended.new.report _ c.settle.ensures.rest
    (shown_reply m e (told_at (ports_of c.hear.new.self.card) c.args.line c.in-Some-hear.told) c.show_ended.new.report (frames_stand _ (with_ports m) on).reached.config (c.in-Some-hear.ensures.called.answers m on)
    (subst (λ k. length (contents_or_none (told_at (ports_of k) c.args.line c.in-Some-hear.told).contents) ≤ 260 → Shows c.show_ended.new.report (told_at (ports_of k) c.args.line c.in-Some-hear.told)) c.card-in-Some-hear.ensures c.show_ended.ensures))))) (λ not_ok. absurd (not_ok refl))

-- one that ended nothing tells nothing, and orders nothing
pub returns-in-None-hear-clause-called : goal.returns-in-None-hear-clause-called
returns-in-None-hear-clause-called c = is_called (octet_asked c.args.line c.args.octet) _ _ _ _ _ (search rules) (λ m s w.
    let on = there c.in-Some.ensures.card (with_ports m) s in
    let e = at c.args.line (port.octet c.args.octet) in
    served_at (octet_asked c.args.line c.args.octet) _ _ _ _ (with_ports m) (at_port e) refl refl
    (served_octets _ _ c.in-Some.ensures.card refl c.hear.new.self c.tell_reopened.ensures.settles.timed c.tell_reopened.new.report c.in-None-hear.ensures.called m on
    (nothing_shown _ c.tell_reopened.new.report _ (c.in-None-hear.ensures.called.answers m on)
    (still_replied c.tell_reopened.new.report c.show_nothing.new.self (port.told _) c.tell_reopened.ensures.rest c.show_nothing.ensures.told)))) (λ not_ok. absurd (not_ok refl))
