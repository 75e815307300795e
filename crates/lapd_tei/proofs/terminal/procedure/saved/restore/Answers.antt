-- Hand-written answers for `restore` of a procedure: if none of a kind is there, none is.
use Rattle.std.proofs.Common.{arith, ◌≡◌, ℕ, ◌≤◌, List, ◌∷◌, Some, None, sym, ◌∙◌}
use Rattle.lapd_image.specs.Reads.{HasNone}
use Rattle.lapd_image.proofs.Reading.{heads, tails, on_err}
use Rattle.model_teis.specs.Table.{Places}
use Rattle.model_teis.specs.terminal.Image.{procedure}
use Rattle.model_teis.specs.declared.terminal.procedure.Procedure.TheVariants.{Asking, Verifying}
use Rattle.lapd_tei.specs.terminal.Saved.{details, MayRun, MayRunAs}
use Rattle.lapd_tei.proofs.terminal.procedure.saved.restore.Goals as goal

none_runs : (places : Places) (kind : ℕ) (front left : List ℕ) → 1 ≤ kind → front ≡ kind ∷ left → HasNone details (MayRunAs kind places) left → HasNone procedure (MayRun places) front
none_runs places kind front left some read none None rest may e = omega (arith, some, heads (sym read ∙ e))
none_runs places kind front left some read none (Some (Asking ri attempts)) rest may e =
    none (Asking ri attempts) rest (record { kind = sym (heads (sym read ∙ e)); sound = may }) (tails (sym read ∙ e))
none_runs places kind front left some read none (Some (Verifying tei attempts)) rest may e =
    none (Verifying tei attempts) rest (record { kind = sym (heads (sym read ∙ e)); sound = may }) (tails (sym read ∙ e))

pub returns-in_err-asking-in-1-clause-none : goal.returns-in_err-asking-in-1-clause-none
returns-in_err-asking-in-1-clause-none c =
    on_err c.from_residual-in_err-asking-in-1.result
    (none_runs c.args.table.now 1 _ _ (omega arith) (c.in_ok-octet.ensures.read ∙ (λ i. c.in-1.is i ∷ c.octet.new.self)) c.in_err-asking-in-1.ensures.none)

pub returns-in_err-verifying-in-2-clause-none : goal.returns-in_err-verifying-in-2-clause-none
returns-in_err-verifying-in-2-clause-none c =
    on_err c.from_residual-in_err-verifying-in-2.result
    (none_runs c.args.table.now 2 _ _ (omega arith) (c.in_ok-octet.ensures.read ∙ (λ i. c.in-2.is i ∷ c.octet.new.self)) c.in_err-verifying-in-2.ensures.none)
