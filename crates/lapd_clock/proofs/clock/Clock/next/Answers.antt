-- The first of the places is the first of the set.
use Rattle.lapd_clock.proofs.Vocabulary.{ap, ◌∙◌, subst, first_moment, Timers, IsSound}
use Rattle.lapd_clock.proofs.Calls.{least_moment}
use Rattle.lapd_clock.proofs.clock.Clock.next.Goals as goal

pub returns-clause-next : goal.returns-clause-next
returns-clause-next c = c.soonest.ensures ∙ ap (λ (t : Timers). first_moment t.running) c.self.view_is

pub returns-clause-least : goal.returns-clause-least
returns-clause-least c =
    least_moment c.args.self.now.running (subst IsSound c.self.view_is c.self.invariant.sound).in_order c.soonest.result (returns-clause-next c)
