-- At a place that rests nothing is to be stopped.
use Rattle.std.proofs.Common.{arith}
use Rattle.lapd_clock.proofs.OwnPlace.{stops_nothing}
use Rattle.lapd_clock.proofs.moments.Moments.stop.Goals as goal

pub returns-else-its : goal.returns-else-its
returns-else-its c =
    record { after = stops_nothing c.self.inside.places.items c.args.self.now c.args.place c.index-its.result.now c.self.view_is c.requires.place c.index-its.ensures (omega (arith, c.if-its.false)) }
