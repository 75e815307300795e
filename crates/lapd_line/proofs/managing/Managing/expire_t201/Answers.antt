-- Hand-written answers for `Managing::expire_t201`.
use Rattle.lapd_line.proofs.Vocabulary.{sym, subst, at_management}
use Rattle.model_teis.specs.network.Events as teis
use Rattle.lapd_line.specs.TeiChanges.{Answers}
use Rattle.lapd_line.specs.declared.managing.Managing.TheVariants as kind
use Rattle.lapd_line.proofs.ManagingSteps.{network_answers, no_t201}
use Rattle.lapd_line.proofs.managing.Managing.expire_t201.Goals as goal

pub returns-in-Network-clause-answers : goal.returns-in-Network-clause-answers
returns-in-Network-clause-answers c =
    let e = teis.expiry in
    subst (λ x. Answers (at_management e) x (kind.Network c.expire_t201.new.self) c.expire_t201.result) (sym c.in-Network.is)
    (network_answers e c.in-Network.own c.expire_t201.new.self c.expire_t201.result tt c.expire_t201.ensures.after c.expire_t201.ensures.told)

pub returns-in-Terminal-clause-answers : goal.returns-in-Terminal-clause-answers
returns-in-Terminal-clause-answers c =
    subst (λ x. Answers (at_management teis.expiry) x x c.nothing.result) (sym c.in-Terminal.is) (no_t201 c.in-Terminal.field-0 c.nothing.result c.nothing.ensures.told)
