-- Hand-written answers for `takes_serve_wherever`.
use Rattle.laws_line.proofs.OfCard.Wherever.{waiting-taken, come-to-an-end}
use Rattle.laws_line.proofs.card.progress.takes_serve_wherever.Goals as goal

pub returns-clause-taken : goal.returns-clause-taken
returns-clause-taken c = waiting-taken

pub returns-clause-ended : goal.returns-clause-ended
returns-clause-ended c = come-to-an-end
