-- The invariant of the loop of `put_line`.
use Rattle.std.proofs.Common.{take}
use Rattle.std.specs.Prelude.{flat_map}
use Rattle.lapd_image.specs.Puts.{Puts}
use Rattle.lapd_clock.specs.Kept.{places_from, timer_at}
use Rattle.lapd_clock.proofs.clock.saved.put_line.Given as goal

abbrev pub invariant-loop-offset : goal.invariant-loop-offset
invariant-loop-offset l = Puts (flat_map timer_at (take l.offset (places_from l.begin l.places l.moments))) l.initial.end l.initial.out l.end l.out
