-- The invariant of the loop of `Clock::read_lines`.
use Rattle.std.proofs.Common.{◌≡◌, ℕ, List, length}
use Rattle.std.specs.Prelude.{flat_map}
use Rattle.lapd_image.specs.Numbers.{list_of}
use Rattle.lapd_image.specs.Reads.{IsReadAs}
use Rattle.lapd_clock.specs.Image.{timer}
use Rattle.lapd_clock.specs.Restoring.{AreFreeLines, with_lines}
use Rattle.lapd_clock.specs.Timers.{Timers}
use Rattle.lapd_clock.specs.declared.held.Held.{Held}
use Rattle.lapd_clock.proofs.clock.Clock.read_lines.Given as goal

-- the timers of so many lines are read, and run
pub record AreReadSoFar (count : ℕ) (front rest : List ℕ) (old now : Timers) : Type 0 where
  pub lists : List (List Held)
  pub many : length lists ≡ count
  pub read : IsReadAs (flat_map (list_of timer)) (AreFreeLines old 0) lists front rest
  pub run : now ≡ with_lines old 0 lists
  pub lines : now.lines ≡ old.lines

abbrev pub invariant-loop-line : goal.invariant-loop-line
invariant-loop-line l = AreReadSoFar l.line l.initial.reader l.reader l.initial.self l.self
