-- Hand-written answers for `TerminalTeis::restore`.
use Rattle.std.proofs.Common.{subst}
use Rattle.lapd_image.specs.Reads.{HasNone}
use Rattle.lapd_image.proofs.Reading.{on_err}
use Rattle.model_teis.specs.terminal.Image.{IsSavedOf, image}
use Rattle.lapd_tei.specs.terminal.Outcome.{terminal_of}
use Rattle.lapd_tei.proofs.OfTerminal.Restored.{no_table, no_next, no_procedure, no_queue}
use Rattle.lapd_tei.proofs.terminal.teis.TerminalTeis.restore.Goals as goal

pub returns-in_err-table-clause-none : goal.returns-in_err-table-clause-none
returns-in_err-table-clause-none c =
    on_err c.from_residual.result
    (subst (λ like. HasNone image (IsSavedOf like) c.args.reader.now) c.self.view_is (no_table (terminal_of c.self.inside) c.in_err-table.ensures.none))

pub returns-in_err-number-clause-none : goal.returns-in_err-number-clause-none
returns-in_err-number-clause-none c =
    on_err c.from_residual-in_err-number.result
    (subst (λ like. HasNone image (IsSavedOf like) c.args.reader.now) c.self.view_is
    (no_next (terminal_of c.self.inside) c.in_ok-table.table c.in_ok-table.ensures.read c.in_err-number.ensures.short))

pub returns-in_err-procedure-clause-none : goal.returns-in_err-procedure-clause-none
returns-in_err-procedure-clause-none c =
    on_err c.from_residual-in_err-procedure.result
    (subst (λ like. HasNone image (IsSavedOf like) c.args.reader.now) c.self.view_is
    (no_procedure (terminal_of c.self.inside) c.in_ok-table.table c.in_ok-table.ensures.read c.in_ok-number.field-0 c.in_ok-number.ensures.small c.in_ok-number.ensures.read
    c.in_err-procedure.ensures.none))

pub returns-in_err-queue-clause-none : goal.returns-in_err-queue-clause-none
returns-in_err-queue-clause-none c =
    on_err c.from_residual-in_err-queue.result
    (subst (λ like. HasNone image (IsSavedOf like) c.args.reader.now) c.self.view_is
    (no_queue (terminal_of c.self.inside) c.in_ok-table.table c.in_ok-table.ensures.read c.in_ok-number.field-0 c.in_ok-number.ensures.small c.in_ok-number.ensures.read
    c.in_ok-procedure.procedure c.in_ok-procedure.ensures.read c.in_err-queue.ensures.none))
