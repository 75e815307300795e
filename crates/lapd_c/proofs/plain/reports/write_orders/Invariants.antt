-- The orders so far stand in the first places, of which there are four.
use Rattle.std.proofs.Common.{◌≡◌, length, take, map}
use Rattle.lapd_c.specs.Timers.{plain_order}
use Rattle.lapd_c.proofs.plain.reports.write_orders.Given as goal

abbrev pub invariant-loop-i : goal.invariant-loop-i
invariant-loop-i l = record {
  four : length l.places ≡ 4;
  written : take l.i l.places ≡ map plain_order (take l.i l.orders);
}
