-- Other lengths leave what is noted of links.
use Rattle.std.proofs.Common.{subst}
use Rattle.lapd_timed.specs.Stands.{TimersStandIn}
use Rattle.lapd_timed.proofs.MarkedSteps.{still-marked}
use Rattle.lapd_timed.proofs.timed_card.TimedCard.set_lengths.Goals as goal

pub returns-in-Some-clause-after : goal.returns-in-Some-clause-after
returns-in-Some-clause-after c = λ m k stood. c.set_lengths.ensures.after m k (subst (λ o. TimersStandIn o m k) c.in-Some.is stood)

pub returns-in-Some-clause-noted : goal.returns-in-Some-clause-noted
returns-in-Some-clause-noted c = λ m marks stood.
    still-marked c.in-Some.is c.set_lengths.new.self m marks c.set_lengths.ensures.lines c.set_lengths.ensures.terminals c.set_lengths.ensures.changes stood
