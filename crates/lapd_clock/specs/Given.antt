-- What the lengths that a caller gives stand for.
use Rattle.lapd_clock.specs.Timer.{Lengths}
use Rattle.lapd_clock.specs.declared.lengths.Lengths as rust

abbrev pub lengths_of : rust.Lengths → Lengths
lengths_of l = record { t200 = l.t200; t203 = l.t203; t201 = l.t201; t202 = l.t202 }
