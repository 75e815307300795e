-- No timer runs.
use Rattle.std.proofs.Common.{arith, ℕ, ◌*◌, ◌≤◌, subst, sym}
use Rattle.std.specs.Prelude.{All}
use Rattle.std.proofs.lemmas.List.Elements.{All-replicate}
use Rattle.lapd_clock.specs.Given.{lengths_of}
use Rattle.lapd_timed.proofs.Calls.{idle-on-lines, started}
use Rattle.lapd_timed.proofs.WithinHour.{in-range}
use Rattle.lapd_timed.proofs.card_timers.CardTimers.start.Goals as goal

pub invariant_of-result-clause-of_lines : goal.invariant_of-result-clause-of_lines
invariant_of-result-clause-of_lines c = idle-on-lines c.args.lines c.args.terminals c.in_ok-moments.moments c.in_ok-moments.ensures

pub invariant_of-result-clause-past : goal.invariant_of-result-clause-past
invariant_of-result-clause-past c =
    subst (λ h. All (λ changed. changed ≤ 0) h.moments) (sym c.in_ok-changes.ensures) (All-replicate (λ (n : ℕ). n ≤ 0) (c.args.lines * (2 * c.args.terminals)) 0 (omega arith))

pub returns-clause-stopped : goal.returns-clause-stopped
returns-clause-stopped c = started c.args.lines c.args.terminals (lengths_of c.args.lengths) c.in_ok-moments.moments (in-range c.args.lengths) c.in_ok-moments.ensures
