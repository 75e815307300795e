-- Hand-written answers for `TerminalTeis::leave`.
use Rattle.model_teis.proofs.OfTerminal.Vocabulary.{◌≡◌, false, sym, subst, is_verified}
use Rattle.lapd_tei.specs.terminal.Outcome.{terminal_of}
use Rattle.model_teis.proofs.OfTerminal.SoundWords.{left_is}
use Rattle.lapd_tei.proofs.terminal.teis.TerminalTeis.leave.Goals as goal

pub invariant_of-self : goal.invariant_of-self
invariant_of-self c =
    let other : is_verified c.args.tei c.self.inside.procedure ≡ false = subst (λ m. is_verified c.args.tei m.procedure ≡ false) (sym c.self.view_is) c.requires in
    left_is (terminal_of c.self.inside) c.args.tei _ _ c.take.ensures.freed c.withdraw_response.ensures other c.self.invariant
