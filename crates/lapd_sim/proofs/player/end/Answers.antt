-- Hand-written answers for `end`.
use Rattle.lapd_sim.proofs.Vocabulary.{sym, ◌∙◌, on}
use Rattle.lapd_sim.proofs.Ending.{cut_failures, cut_ends, sent_failures, sent_ends, unsent_failures, unsent_ends}
use Rattle.lapd_sim.proofs.player.end.Goals as goal

pub returns-then-is_cut-clause-writes : goal.returns-then-is_cut-clause-writes
returns-then-is_cut-clause-writes g c = λ before none h. cut_failures c.args.played before (on g.T.Target.taken c.args.page.now) none (sym c.is_cut.ensures ∙ c.if-is_cut.true) h

pub returns-then-is_cut-clause-played : goal.returns-then-is_cut-clause-played
returns-then-is_cut-clause-played g c = λ before text remaining none h p. cut_ends c.args.played before (on g.T.Target.taken c.args.page.now) text remaining none (sym c.is_cut.ensures ∙ c.if-is_cut.true) h p

pub returns-in-Ok-clause-writes : goal.returns-in-Ok-clause-writes
returns-in-Ok-clause-writes g c = λ before none h. sent_failures c.args.played before (on g.T.Target.taken c.args.page.now) _ none (sym c.is_cut.ensures ∙ c.if-is_cut.false) c.in-Ok.ensures.written h

pub returns-in-Ok-clause-played : goal.returns-in-Ok-clause-played
returns-in-Ok-clause-played g c = λ before text remaining none h p. sent_ends c.args.played before (on g.T.Target.taken c.args.page.now) _ text remaining none (sym c.is_cut.ensures ∙ c.if-is_cut.false) c.in-Ok.ensures.written p

pub returns-in-Err-clause-writes : goal.returns-in-Err-clause-writes
returns-in-Err-clause-writes g c = λ before none h. unsent_failures c.args.played c.in-Err.field-0 before (on g.T.Target.taken c.args.page.now) _ none (sym c.is_cut.ensures ∙ c.if-is_cut.false) c.in-Err.ensures.written h

pub returns-in-Err-clause-played : goal.returns-in-Err-clause-played
returns-in-Err-clause-played g c = λ before text remaining none h p. unsent_ends c.args.played c.in-Err.field-0 before (on g.T.Target.taken c.args.page.now) _ text remaining none (sym c.is_cut.ensures ∙ c.if-is_cut.false) c.in-Err.ensures.written p
