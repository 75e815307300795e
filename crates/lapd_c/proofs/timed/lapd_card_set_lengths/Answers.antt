-- Hand-written answers for `lapd_card_set_lengths`: the lengths are those that the caller gave.
use Rattle.lapd_c.proofs.Vocabulary.{refl, subst}
use Rattle.model_timed.specs.Clock.{with_lengths}
use Rattle.lapd_c.specs.Kept.{TimersStandIn}
use Rattle.lapd_c.proofs.Served.{timers_there}
use Rattle.lapd_c.proofs.timed.lapd_card_set_lengths.Goals as goal

pub returns-clause-set : goal.returns-clause-set
returns-clause-set c = λ none m clock stood.
    (refl, subst (λ lengths. TimersStandIn c.set_lengths.new.self.timers m (with_lengths lengths clock)) (c.in-Ok.ensures.read none) (c.set_lengths.ensures.after m clock (timers_there c.in-Some.ensures.card m clock stood)))
