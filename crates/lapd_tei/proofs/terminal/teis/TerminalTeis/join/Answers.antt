-- Hand-written answers for `TerminalTeis::join`.
use Rattle.model_teis.proofs.OfTerminal.Vocabulary.{◌≡◌, false, Some, sym, subst, is_on, free_place}
use Rattle.lapd_tei.specs.terminal.Outcome.{terminal_of}
use Rattle.model_teis.proofs.OfTerminal.SoundWords.{joined_is}
use Rattle.lapd_tei.proofs.terminal.teis.TerminalTeis.join.Goals as goal

pub invariant_of-self : goal.invariant_of-self
invariant_of-self c =
    let off : is_on c.args.tei c.self.inside.table ≡ false = subst (λ m. is_on c.args.tei m.places ≡ false) (sym c.self.view_is) c.requires.off in
    let at : free_place c.self.inside.table ≡ Some c.args.place = subst (λ m. free_place m.places ≡ Some c.args.place) (sym c.self.view_is) c.requires.at in
    joined_is (terminal_of c.self.inside) c.args.tei c.args.place _ c.put.ensures off at c.requires.low c.self.invariant
