-- Hand-written answers for `TerminalTeis::send_response`.
use Rattle.model_teis.proofs.OfTerminal.Vocabulary.{◌≡◌, true, false, sym, subst, is_on, is_response_of, list_any}
use Rattle.lapd_tei.specs.terminal.Outcome.{terminal_of}
use Rattle.model_teis.proofs.OfTerminal.SoundWords.{responded_is, room_to_respond}
use Rattle.lapd_tei.proofs.terminal.teis.TerminalTeis.send_response.Goals as goal

pub send_response-requires : goal.send_response-requires
send_response-requires c =
    let on : is_on c.args.tei c.self.inside.table ≡ true = subst (λ m. is_on c.args.tei m.places ≡ true) (sym c.self.view_is) c.requires.on_line in
    let none : list_any (is_response_of c.args.tei) c.self.inside.queue ≡ false = subst (λ m. list_any (is_response_of c.args.tei) m.waiting ≡ false) (sym c.self.view_is) c.requires.first in
    room_to_respond (terminal_of c.self.inside) c.args.tei on none c.self.invariant

pub invariant_of-self : goal.invariant_of-self
invariant_of-self c =
    let on : is_on c.args.tei c.self.inside.table ≡ true = subst (λ m. is_on c.args.tei m.places ≡ true) (sym c.self.view_is) c.requires.on_line in
    let none : list_any (is_response_of c.args.tei) c.self.inside.queue ≡ false = subst (λ m. list_any (is_response_of c.args.tei) m.waiting ≡ false) (sym c.self.view_is) c.requires.first in
    responded_is (terminal_of c.self.inside) c.args.tei _ _ c.following-self-inside.ensures c.send_response.ensures on none c.self.invariant
