-- Hand-written answers for `Managing::give_up`.
use Rattle.lapd_line.proofs.Vocabulary.{sym, subst, refl, at_management}
use Rattle.model_teis.specs.network.Events as teis
use Rattle.model_teis.specs.terminal.Events as terminals
use Rattle.lapd_line.specs.TeiChanges.{Answers}
use Rattle.lapd_line.specs.declared.managing.Managing.TheVariants as kind
use Rattle.lapd_line.proofs.ManagingSteps.{network_answers, terminal_answers, terminal_short}
use Rattle.lapd_line.proofs.managing.Managing.give_up.Goals as goal

pub returns-in-Network-clause-answers : goal.returns-in-Network-clause-answers
returns-in-Network-clause-answers c =
    let e = teis.down in
    subst (λ x. Answers (at_management e) x (kind.Network c.give_up.new.self) c.give_up.result) (sym c.in-Network.is)
    (network_answers e c.in-Network.own c.give_up.new.self c.give_up.result tt c.give_up.ensures.after c.give_up.ensures.told)

pub returns-in-Terminal-clause-answers : goal.returns-in-Terminal-clause-answers
returns-in-Terminal-clause-answers c =
    let e = teis.down in
    subst (λ x. Answers (at_management e) x (kind.Terminal c.give_up-in-Terminal.new.self) c.give_up-in-Terminal.result) (sym c.in-Terminal.is)
    (terminal_answers e (terminals.down) c.in-Terminal.own c.give_up-in-Terminal.new.self c.give_up-in-Terminal.result refl tt tt c.give_up-in-Terminal.ensures.after c.give_up-in-Terminal.ensures.told)

pub returns-in-Terminal-clause-short : goal.returns-in-Terminal-clause-short
returns-in-Terminal-clause-short c = terminal_short terminals.down c.in-Terminal.own c.give_up-in-Terminal.result c.give_up-in-Terminal.ensures.told
