-- The invariant of the loop of `Clock::read_line`.
use Rattle.std.proofs.Common.{◌≡◌, ℕ, List, length}
use Rattle.std.specs.Prelude.{flat_map}
use Rattle.lapd_image.specs.Reads.{IsReadAs}
use Rattle.lapd_clock.specs.Image.{timer}
use Rattle.lapd_clock.specs.Restoring.{AreFree, with_line}
use Rattle.lapd_clock.specs.Timers.{Timers}
use Rattle.lapd_clock.specs.declared.held.Held.{Held}
use Rattle.lapd_clock.proofs.clock.Clock.read_line.Given as goal

-- so many timers are read, and run
pub record AreReadSoFar (line count : ℕ) (front rest : List ℕ) (old now : Timers) : Type 0 where
  pub timers : List Held
  pub many : length timers ≡ count
  pub read : IsReadAs (flat_map timer) (AreFree old line) timers front rest
  pub run : now ≡ with_line old line timers
  pub lines : now.lines ≡ old.lines

abbrev pub invariant-loop : goal.invariant-loop
invariant-loop l = AreReadSoFar l.line l.counter l.initial.reader l.reader l.initial.self l.self
