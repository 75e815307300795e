-- Timers are read where the card keeps its own.
use Rattle.lapd_timed.proofs.saved.reading.restore_timers.Goals as goal

pub returns-in_ok-restore-clause-read : goal.returns-in_ok-restore-clause-read
returns-in_ok-restore-clause-read g c = λ m stands. (c.if-timed.true, c.in_ok-restore.ensures.read m stands)
