-- Hand-written answers for `releases_are_told`.
use Rattle.laws_order.proofs.InTheEnd.{releases-are-told, both-are-told}
use Rattle.laws_order.proofs.laws.releases_are_told.Goals as goal

pub returns-clause-here : goal.returns-clause-here
returns-clause-here c = releases-are-told

pub returns-clause-there : goal.returns-clause-there
returns-clause-there c = both-are-told
