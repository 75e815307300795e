-- Hand-written answers for `TerminalTeis::ask_for`.
use Rattle.model_teis.proofs.OfTerminal.Vocabulary.{◌≡◌, true, sym, subst, may_ask}
use Rattle.lapd_tei.specs.terminal.Outcome.{terminal_of}
use Rattle.model_teis.proofs.OfTerminal.SoundWords.{asked_is, room_to_ask}
use Rattle.lapd_tei.proofs.terminal.teis.TerminalTeis.ask_for.Goals as goal

pub send_request-requires : goal.send_request-requires
send_request-requires c =
    let may : may_ask c.self.inside.procedure ≡ true = subst (λ m. may_ask m.procedure ≡ true) (sym c.self.view_is) c.requires.goes_on in
    room_to_ask (terminal_of c.self.inside) c.args.attempts may c.requires.least c.requires.most c.self.invariant

pub invariant_of-self : goal.invariant_of-self
invariant_of-self c =
    let may : may_ask c.self.inside.procedure ≡ true = subst (λ m. may_ask m.procedure ≡ true) (sym c.self.view_is) c.requires.goes_on in
    asked_is (terminal_of c.self.inside) c.args.attempts _ _ c.following-self-inside.ensures c.send_request.ensures may c.requires.least c.requires.most c.self.invariant
