-- Hand-written answers for `TerminalTeis::offer`.
use Rattle.model_teis.proofs.OfTerminal.Vocabulary.{sym}
use Rattle.lapd_tei.specs.terminal.Outcome.{terminal_of}
use Rattle.model_teis.proofs.OfTerminal.SoundWords.{low_front, rest_is}
use Rattle.lapd_tei.proofs.terminal.teis.TerminalTeis.offer.Goals as goal

pub frame-requires : goal.frame-requires
frame-requires c = low_front (terminal_of c.self.inside) c.in_ok-message.message c.self.invariant (sym c.in_ok-message.ensures.oldest)

pub invariant_of-self-2 : goal.invariant_of-self-2
invariant_of-self-2 c = rest_is (terminal_of c.self.inside) _ c.take.ensures.rest c.self.invariant
