-- Hand-written answers for `TerminalTeis::verify_for`.
use Rattle.model_teis.proofs.OfTerminal.Vocabulary.{◌≡◌, true, sym, subst, is_on, may_verify}
use Rattle.lapd_tei.specs.terminal.Outcome.{terminal_of}
use Rattle.model_teis.proofs.OfTerminal.SoundWords.{verified_is, room_to_verify}
use Rattle.lapd_tei.proofs.terminal.teis.TerminalTeis.verify_for.Goals as goal

pub send_verify-requires : goal.send_verify-requires
send_verify-requires c =
    let on : is_on c.args.tei c.self.inside.table ≡ true = subst (λ m. is_on c.args.tei m.places ≡ true) (sym c.self.view_is) c.requires.on_line in
    let may : may_verify c.args.tei c.self.inside.procedure ≡ true = subst (λ m. may_verify c.args.tei m.procedure ≡ true) (sym c.self.view_is) c.requires.goes_on in
    room_to_verify (terminal_of c.self.inside) c.args.tei c.args.attempts on may c.requires.least c.requires.most c.self.invariant

pub invariant_of-self : goal.invariant_of-self
invariant_of-self c =
    let on : is_on c.args.tei c.self.inside.table ≡ true = subst (λ m. is_on c.args.tei m.places ≡ true) (sym c.self.view_is) c.requires.on_line in
    let may : may_verify c.args.tei c.self.inside.procedure ≡ true = subst (λ m. may_verify c.args.tei m.procedure ≡ true) (sym c.self.view_is) c.requires.goes_on in
    verified_is (terminal_of c.self.inside) c.args.tei c.args.attempts _ c.send_verify.ensures on may c.requires.least c.requires.most c.self.invariant
