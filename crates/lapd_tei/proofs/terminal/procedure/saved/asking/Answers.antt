-- Hand-written answers for `asking`: without a reference number it is none that asks.
use Rattle.std.proofs.Common.{arith, ◌≡◌, ℕ, ◌<◌, List, ◌∷◌, length, sym, ◌∙◌}
use Rattle.lapd_image.specs.Reads.{HasNone}
use Rattle.lapd_image.proofs.Reading.{no_number, on_err, tails}
use Rattle.model_teis.specs.Table.{Places}
use Rattle.model_teis.specs.declared.terminal.procedure.Procedure.TheVariants.{Asking, Verifying}
use Rattle.lapd_tei.specs.terminal.Saved.{details, MayRunAs}
use Rattle.lapd_tei.proofs.terminal.procedure.saved.asking.Goals as goal

none_asks : (places : Places) (made : ℕ) (front left : List ℕ) → front ≡ made ∷ left → length left < 2 → HasNone details (MayRunAs 1 places) front
none_asks places made front left read few (Asking ri attempts) rest may e = no_number 2 ri rest few (tails (sym read ∙ e))
none_asks places made front left read few (Verifying tei attempts) rest may e = omega (arith, may.kind)

pub returns-in_err-ri-clause-none : goal.returns-in_err-ri-clause-none
returns-in_err-ri-clause-none c =
    on_err c.from_residual-in_err-ri.result (none_asks c.args.table.now _ _ _ c.in_ok-attempts.ensures.read.octets c.in_err-ri.ensures.short)
