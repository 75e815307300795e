-- What is left to carry out.
use Rattle.lapd_c.proofs.Vocabulary.{◌≡◌, ◌&&◌, drop, all_placed, after_orders}
use Rattle.lapd_c.proofs.clock_reports.carry_out_all.Given as goal

abbrev pub invariant-loop-i : goal.invariant-loop-i
invariant-loop-i l = record {
  lines : l.clock.lines ≡ l.initial.clock.lines;
  placed : (l.all && all_placed l.clock l.line (drop l.i l.orders) l.now) ≡ all_placed l.initial.clock l.line l.orders l.now;
  after : after_orders l.clock l.line (drop l.i l.orders) l.now ≡ after_orders l.initial.clock l.line l.orders l.now;
}
