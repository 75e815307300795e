-- Hand-written answers for `a_terminal_comes_through`.
use Rattle.laws_wire.proofs.TerminalCalls.{terminals-come-through}
use Rattle.laws_wire.proofs.terminals.a_terminal_comes_through.Goals as goal

pub returns : goal.returns
returns c = terminals-come-through
