-- Hand-written answers for `no_number_comes_again`.
use Rattle.model_teis.proofs.OfTerminal.Numbered.{numbers_go_on}
use Rattle.model_teis.proofs.OfTerminal.Period.{none_comes_again, all_come_again}
use Rattle.model_teis.proofs.terminal.laws.no_number_comes_again.Goals as goal

pub returns-clause-along : goal.returns-clause-along
returns-clause-along c = numbers_go_on

pub returns-clause-none : goal.returns-clause-none
returns-clause-none c = none_comes_again

pub returns-clause-all : goal.returns-clause-all
returns-clause-all c = all_come_again
