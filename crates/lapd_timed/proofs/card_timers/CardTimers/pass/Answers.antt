-- None is due at the moment.
use Rattle.std.proofs.Common.{◌∙◌, ap}
use Rattle.lapd_clock.specs.OwnPlaces.{timers_in}
use Rattle.model_timed.specs.Clock.{first_due}
use Rattle.lapd_timed.proofs.Falling.{none-is}
use Rattle.lapd_timed.proofs.card_timers.CardTimers.pass.Goals as goal

pub returns-clause-passed : goal.returns-clause-passed
returns-clause-passed c = λ done m k stood.
    let gone = c.go_to.ensures.gone done m k stood in (
      gone.0,
      (c.go_to.ensures.later.0 done).1,
      ap (λ es. first_due es c.args.moment) stood.clock_is.running ∙ none-is (timers_in c.args.self.now.moments) c.args.moment (c.is_early.ensures c.if-not-is_early.false),
      gone.1,
    )
