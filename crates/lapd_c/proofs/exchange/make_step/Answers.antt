-- Hand-written answers for `make_step`: what is given is what step 2i + 1 gives.
use Rattle.lapd_c.proofs.Vocabulary.{◌≡◌, arith, subst, step_event}
use Rattle.model_card.specs.ports.Event.{Event, at}
use Rattle.model_card.specs.ports.Port as port
use Rattle.lapd_c.specs.Exchange.{IsStep}
use Rattle.lapd_c.proofs.exchange.make_step.Goals as goal

pub returns-clause-step : goal.returns-clause-step
returns-clause-step c =
    let is : at c.args.line port.pull ≡ step_event c.args.line c.args.taken.now c.args.step = grind arith in
    subst (λ (e : Event). IsStep e c.args.timed.now c.tells_given.new.timed c.tells_given.result c.args.report.now c.tells_given.new.report) is c.tells_given.ensures.step
