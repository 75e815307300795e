-- A configuration is read, and the card that has it.
use Rattle.lapd_timed.proofs.ImageRead.{card-read, none-of-config, none-of-lines}
use Rattle.lapd_timed.proofs.TimersRead.{if_err, if_err_and}
use Rattle.lapd_timed.proofs.saved.reading.restore_card.Goals as goal

pub returns-in_err-config-clause-none : goal.returns-in_err-config-clause-none
returns-in_err-config-clause-none c = if_err _ c.from_residual.result (λ fault bad. none-of-config c.in_err-config.ensures.none)

pub returns-in_err-restore-clause-none : goal.returns-in_err-restore-clause-none
returns-in_err-restore-clause-none c = if_err_and c.from_residual-in_err-restore.result c.from_residual-in_err-restore.ensures.1 (λ fault given bad. none-of-lines c.in_ok-config.ensures.read (c.in_err-restore.ensures.none (given bad)))

pub returns-clause-read : goal.returns-clause-read
returns-clause-read c = card-read c.in_ok-config.ensures.read c.in_ok-restore.ensures.read
