-- Hand-written answers for `read_as`.
use Rattle.lapd_script.proofs.Vocabulary.{length}
use Rattle.lapd_script.proofs.read.read_as.Goals as goal

pub returns-in-Failed-clause-counted : goal.returns-in-Failed-clause-counted
returns-in-Failed-clause-counted c = c.failed.ensures.counted (length c.args.room.now)

pub returns-in-Pull-clause-counted : goal.returns-in-Pull-clause-counted
returns-in-Pull-clause-counted c = c.pull.ensures.counted (length c.args.room.now)
