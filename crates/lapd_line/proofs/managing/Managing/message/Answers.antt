-- Hand-written answers for `Managing::message`.
use Rattle.lapd_line.proofs.Vocabulary.{sym, subst, refl, at_management}
use Rattle.model_teis.specs.network.Events as teis
use Rattle.model_teis.specs.terminal.Events as terminals
use Rattle.lapd_line.specs.TeiChanges.{Answers}
use Rattle.lapd_line.specs.declared.managing.Managing.TheVariants as kind
use Rattle.lapd_line.proofs.ManagingSteps.{network_answers, terminal_answers, terminal_short}
use Rattle.lapd_line.proofs.managing.Managing.message.Goals as goal

pub returns-in-Network-clause-answers : goal.returns-in-Network-clause-answers
returns-in-Network-clause-answers c =
    let e = teis.message c.args.information.now in
    subst (λ x. Answers (at_management e) x (kind.Network c.message.new.self) c.message.result) (sym c.in-Network.is)
    (network_answers e c.in-Network.own c.message.new.self c.message.result tt c.message.ensures.after c.message.ensures.told)

pub returns-in-Terminal-clause-answers : goal.returns-in-Terminal-clause-answers
returns-in-Terminal-clause-answers c =
    let e = teis.message c.args.information.now in
    subst (λ x. Answers (at_management e) x (kind.Terminal c.message-in-Terminal.new.self) c.message-in-Terminal.result) (sym c.in-Terminal.is)
    (terminal_answers e (terminals.message c.args.information.now) c.in-Terminal.own c.message-in-Terminal.new.self c.message-in-Terminal.result refl tt tt c.message-in-Terminal.ensures.after c.message-in-Terminal.ensures.told)

pub returns-in-Terminal-clause-short : goal.returns-in-Terminal-clause-short
returns-in-Terminal-clause-short c = terminal_short (terminals.message c.args.information.now) c.in-Terminal.own c.message-in-Terminal.result c.message-in-Terminal.ensures.told
