-- Hand-written answers for `Managing::expire_t202`.
use Rattle.lapd_line.proofs.Vocabulary.{sym, subst, at_terminal}
use Rattle.model_teis.specs.terminal.Events as terminals
use Rattle.lapd_line.specs.TeiChanges.{Answers}
use Rattle.lapd_line.specs.declared.managing.Managing.TheVariants as kind
use Rattle.lapd_line.proofs.ManagingSteps.{no_t202, own_answers, terminal_short}
use Rattle.lapd_line.proofs.managing.Managing.expire_t202.Goals as goal

pub returns-in-Network-clause-answers : goal.returns-in-Network-clause-answers
returns-in-Network-clause-answers c =
    subst (λ x. Answers (at_terminal terminals.expiry) x x c.nothing.result) (sym c.in-Network.is) (no_t202 c.in-Network.field-0 c.nothing.result c.nothing.ensures.told)

pub returns-in-Terminal-clause-answers : goal.returns-in-Terminal-clause-answers
returns-in-Terminal-clause-answers c =
    subst (λ x. Answers (at_terminal terminals.expiry) x (kind.Terminal c.expire_t202.new.self) c.expire_t202.result) (sym c.in-Terminal.is)
    (own_answers terminals.expiry c.in-Terminal.own c.expire_t202.new.self c.expire_t202.result (λ config m is. tt) tt c.expire_t202.ensures.after c.expire_t202.ensures.told)

pub returns-in-Terminal-clause-short : goal.returns-in-Terminal-clause-short
returns-in-Terminal-clause-short c = terminal_short terminals.expiry c.in-Terminal.own c.expire_t202.result c.expire_t202.ensures.told
