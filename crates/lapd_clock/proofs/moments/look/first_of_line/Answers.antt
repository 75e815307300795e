-- The first of the places of a line.
use Rattle.std.proofs.Common.{refl}
use Rattle.lapd_clock.proofs.Bounds.{of-line}
use Rattle.lapd_clock.proofs.moments.look.first_of_line.Goals as goal

pub returns : goal.returns
returns c = of-line c.args.each c.args.line _ c.first_place.result c.args.places.now _ refl c.requires.within refl c.first_place.ensures
