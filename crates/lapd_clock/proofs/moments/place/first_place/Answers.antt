-- One more timer is the first so far, or is not.
use Rattle.std.proofs.Common.{arith}
use Rattle.lapd_clock.specs.OwnPlaces.{place_before}
use Rattle.lapd_clock.proofs.Standing.{first_takes, first_keeps}
use Rattle.lapd_clock.proofs.moments.place.first_place.Goals as goal

pub loop-place-preserved : goal.loop-place-preserved
loop-place-preserved c = grind (arith, place_before, first_takes, first_keeps)
