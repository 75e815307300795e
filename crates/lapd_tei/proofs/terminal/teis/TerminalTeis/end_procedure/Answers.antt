-- Hand-written answers for `TerminalTeis::end_procedure`.
use Rattle.lapd_tei.specs.terminal.Outcome.{terminal_of}
use Rattle.model_teis.proofs.OfTerminal.SoundWords.{ended_is}
use Rattle.lapd_tei.proofs.terminal.teis.TerminalTeis.end_procedure.Goals as goal

pub invariant_of-self : goal.invariant_of-self
invariant_of-self c = ended_is (terminal_of c.self.inside) _ c.withdraw_others.ensures c.self.invariant
