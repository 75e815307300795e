-- Hand-written answers for `lapd_pull`: what it orders is carried out.
use Rattle.lapd_c.proofs.Vocabulary.{false, refl, ap, subst, with_ports, ShowsReply}
use Rattle.model_card.specs.ports.Event.{at}
use Rattle.model_card.specs.ports.Port as port
use Rattle.lapd_c.specs.Answers.{octet_of}
use Rattle.lapd_c.specs.Asked.{pull_asked}
use Rattle.lapd_c.specs.CalledBy.{at_port}
use Rattle.lapd_c.specs.Reports.{ShowsPull}
use Rattle.lapd_c.proofs.Calling.{is_called, served_at}
use Rattle.lapd_c.proofs.Reopening.{settled_replied}
use Rattle.lapd_c.proofs.Served.{served_octets, there}
use Rattle.std.proofs.Common.{rules}
use Rattle.lapd_c.proofs.octets.lapd_pull.Goals as goal

pub returns-clause-called : goal.returns-clause-called
returns-clause-called c = is_called (pull_asked c.args.line) _ _ _ _ _ (search rules) (λ m s w.
    let on = there c.in-Some.ensures.card (with_ports m) s in
    served_at (pull_asked c.args.line) _ _ _ _ (with_ports m) (at_port (at c.args.line port.pull)) refl refl
    (served_octets _ _ c.in-Some.ensures.card refl c.pull-pulled.new.self c.settle.ensures.settles.timed c.settle.new.report c.pull-pulled.ensures.called m on
    (settled_replied _ c.settle.new.report c.show_pull.new.self _ c.settle.ensures.rest
    (subst (ShowsReply c.show_pull.new.self) (c.pull-pulled.ensures.called.answers m on)
    (subst (λ os. ShowsPull c.show_pull.new.self c.pull-pulled.result.begun false os) c.orders.ensures c.show_pull.ensures))))) (λ not_ok. absurd (not_ok refl))

pub returns-clause-written : goal.returns-clause-written
returns-clause-written c = λ m s w. ap octet_of (c.pull-pulled.ensures.called.answers m (there c.in-Some.ensures.card (with_ports m) s))
