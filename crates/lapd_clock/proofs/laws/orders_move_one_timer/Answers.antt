-- Hand-written answers for `orders_move_one_timer`.
use Rattle.lapd_clock.proofs.OneMoved.{start_moves_one, stop_moves_one}
use Rattle.lapd_clock.proofs.laws.orders_move_one_timer.Goals as goal

pub returns-clause-started : goal.returns-clause-started
returns-clause-started c = λ clock line timer now found. start_moves_one clock line timer now found

pub returns-clause-stopped : goal.returns-clause-stopped
returns-clause-stopped c = λ clock line timer now. stop_moves_one clock line timer now
