-- The invariant of the loop of `TerminalTeis::answer_each`.
use Rattle.model_teis.proofs.OfTerminal.Vocabulary.{◌≡◌, fold, take}
use Rattle.lapd_tei.specs.terminal.Outcome.{ordered}
use Rattle.model_teis.specs.terminal.Rows.{answered}
use Rattle.model_teis.specs.terminal.Words.{begun}
use Rattle.lapd_tei.proofs.terminal.teis.TerminalTeis.answer_each.Given as goal

abbrev pub invariant-loop-tei : goal.invariant-loop-tei
invariant-loop-tei l =
    (ordered l.self l.order ≡ fold answered (begun l.fn.self) (take l.tei-index l.teis)) × (l.self.places ≡ l.fn.self.places)
