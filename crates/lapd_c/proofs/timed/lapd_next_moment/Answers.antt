-- Hand-written answers for `lapd_next_moment`.
use Rattle.lapd_c.proofs.Vocabulary.{sym, ◌∙◌}
use Rattle.lapd_c.proofs.Moments.{none_told, one_told}
use Rattle.lapd_c.proofs.Served.{timers_there}
use Rattle.lapd_c.proofs.timed.lapd_next_moment.Goals as goal

pub returns-in-None-next_moment-clause-told : goal.returns-in-None-next_moment-clause-told
returns-in-None-next_moment-clause-told c = λ m clock stood. none_told _ _ (sym (c.next_moment.ensures.next m clock (timers_there c.in-Some.ensures.card m clock stood)) ∙ c.in-None-next_moment.is)

pub returns-clause-told : goal.returns-clause-told
returns-clause-told c = λ m clock stood. one_told _ _ (sym (c.next_moment.ensures.next m clock (timers_there c.in-Some.ensures.card m clock stood)) ∙ c.in-Some-next_moment.is)
