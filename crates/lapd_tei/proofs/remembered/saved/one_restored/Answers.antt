-- Hand-written answers for `Remembered::restored`.
use Rattle.lapd_image.proofs.Reading.{on_err}
use Rattle.lapd_tei.proofs.MemoryRead.{no_ri, no_tei}
use Rattle.lapd_tei.proofs.remembered.saved.one_restored.Goals as goal

pub returns-in_err-ri-clause-none : goal.returns-in_err-ri-clause-none
returns-in_err-ri-clause-none c = on_err c.from_residual.result (no_ri c.in_err-ri.ensures.short)

pub returns-in_err-tei-clause-none : goal.returns-in_err-tei-clause-none
returns-in_err-tei-clause-none c =
    on_err c.from_residual-in_err-tei.result (no_tei c.in_ok-ri.field-0 c.in_ok-ri.ensures.read c.in_ok-ri.ensures.small c.in_err-tei.ensures.none)
