-- No timer falls due before what is kept.
use Rattle.std.proofs.Common.{subst}
use Rattle.lapd_clock.specs.OwnPlaces.{timers_in, expiries_of}
use Rattle.lapd_clock.proofs.Bounds.{is_less}
use Rattle.lapd_clock.proofs.Standing.{none_due, NoneDue}
use Rattle.lapd_clock.proofs.moments.Moments.is_early.Goals as goal

pub returns : goal.returns
returns c = λ early.
    (subst (λ es. NoneDue (timers_in es) c.args.now) c.self.view_is (none_due (expiries_of c.self.inside.places.items) c.args.now c.self.inside.not_before (is_less _ _ early) c.self.invariant.none_before)).none
