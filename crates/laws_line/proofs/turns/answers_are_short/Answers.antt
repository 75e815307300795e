-- The law is that of Short.
use Rattle.laws_line.proofs.Short.{answers_are_short}
use Rattle.laws_line.proofs.turns.answers_are_short.Goals as goal

pub returns : goal.returns
returns c = answers_are_short
