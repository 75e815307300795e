-- Hand-written answers for `TerminalTeis::answer_each`.
use Rattle.model_teis.proofs.OfTerminal.Vocabulary.{◌≡◌, true, Places, sym, subst, get_or, is_on}
use Rattle.lapd_tei.proofs.terminal.teis.TerminalTeis.answer_each.Goals as goal

pub answer-order-requires : goal.answer-order-requires
answer-order-requires c =
    subst (λ (places : Places). is_on (get_or c.args.teis.now c.loop-tei.tei-index 0) places ≡ true) (sym c.loop-tei.invariant.1)
    (c.requires c.loop-tei.tei-index 0 c.loop-tei-test.true)
