-- No timer falls due before what is kept.
use Rattle.std.proofs.Common.{sym, arith, subst}
use Rattle.lapd_clock.specs.OwnPlaces.{timers_in, expiries_of}
use Rattle.lapd_clock.proofs.Standing.{none_due, NoneDue}
use Rattle.lapd_clock.proofs.moments.Moments.due.Goals as goal

pub returns-then-now-self-clause-due : goal.returns-then-now-self-clause-due
returns-then-now-self-clause-due c =
    sym (subst (λ es. NoneDue (timers_in es) c.args.now) c.self.view_is (none_due (expiries_of c.self.inside.places.items) c.args.now c.self.inside.not_before (omega (arith, c.if-now-self.true)) c.self.invariant.none_before)).none
