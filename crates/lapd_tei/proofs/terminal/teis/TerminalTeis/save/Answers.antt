-- Hand-written answers for `TerminalTeis::save`.
use Rattle.std.proofs.Common.{ap, get_or}
use Rattle.lapd_image.specs.Numbers.{number}
use Rattle.lapd_image.proofs.Puts.{puts-same, puts-then}
use Rattle.model_teis.specs.terminal.Image.{image}
use Rattle.model_teis.proofs.OfTerminal.SoundWords.{due_action}
use Rattle.lapd_tei.specs.terminal.Outcome.{terminal_of}
use Rattle.lapd_tei.proofs.terminal.teis.TerminalTeis.save.Goals as goal

pub save-requires-clause-actions : goal.save-requires-clause-actions
save-requires-clause-actions c = λ k d within.
    let t = terminal_of c.self.inside in
    due_action t.places t.procedure (get_or t.waiting k d) c.self.invariant.table c.self.invariant.runs (c.self.invariant.queue.due k d within)

pub returns-clause-puts : goal.returns-clause-puts
returns-clause-puts c =
    puts-same (ap image c.self.view_is)
    (puts-then c.save-end.ensures (puts-then (puts-same (ap (number 2) c.from.ensures) c.put_number-end.ensures) (puts-then c.save-end-2.ensures c.save.ensures.puts)))
