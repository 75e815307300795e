-- Hand-written answers for `load_message`.
use Rattle.lapd_line.proofs.pulls.load_message.Goals as goal

pub load-requires-clause-free : goal.load-requires-clause-free
load-requires-clause-free g c = c.requires.free

pub returns-clause-room : goal.returns-clause-room
returns-clause-room g c = c.load.ensures.room

pub returns-clause-reference : goal.returns-clause-reference
returns-clause-reference g c = c.load.ensures.reference
