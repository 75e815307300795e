-- Hand-written answers for `TerminalTeis::checked`.
use Rattle.model_teis.proofs.OfTerminal.Vocabulary.{◌≡◌, true, All, List, ℕ, sym, subst, ap, ◌∙◌, is_on, named}
use Rattle.model_teis.proofs.OfTerminal.SoundWords.{named_on}
use Rattle.lapd_tei.proofs.terminal.teis.TerminalTeis.checked.Goals as goal

pub answer_each-requires : goal.answer_each-requires
answer_each-requires c =
    subst (λ (teis : List ℕ). All (λ tei. is_on tei c.args.self.now.places ≡ true) teis)
    (sym (c.as_slice.ensures.value ∙ c.named-teis.ensures ∙ ap (λ m. named c.args.tei m.places) c.self.view_is))
    (named_on c.args.tei c.args.self.now.places)
