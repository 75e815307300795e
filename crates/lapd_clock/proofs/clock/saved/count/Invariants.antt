-- The invariant of the loop of `count`.
use Rattle.std.proofs.Common.{◌≡◌, ◌≤◌, filter, length, take}
use Rattle.lapd_clock.specs.Kept.{places_from}
use Rattle.lapd_clock.specs.OwnPlaces.{is_running}
use Rattle.lapd_clock.proofs.clock.saved.count.Given as goal

abbrev pub invariant-loop-offset : goal.invariant-loop-offset
invariant-loop-offset l = record { is : l.running ≡ length (filter is_running (take l.offset (places_from l.begin l.places l.moments))); few : l.running ≤ l.offset }
