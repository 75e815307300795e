-- The loop of `least`.
use Rattle.std.proofs.Common.{◌≡◌, nat_lt}
use Rattle.std.specs.List.{IsFirstBest, slice_index}
use Rattle.lapd_clock.proofs.moments.look.least.Given as goal

-- the least so far
abbrev pub invariant-loop-line : goal.invariant-loop-line
invariant-loop-line l = record {
  so_far : IsFirstBest nat_lt l.bounds l.line l.least;
  bound_is : slice_index l.bounds l.least ≡ l.least_bound;
}
