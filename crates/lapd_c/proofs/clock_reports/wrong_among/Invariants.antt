-- Nothing was wrong so far.
use Rattle.lapd_c.proofs.Vocabulary.{◌≡◌, drop, first_fault_in}
use Rattle.lapd_c.proofs.clock_reports.wrong_among.Given as goal

abbrev pub invariant-loop-i : goal.invariant-loop-i
invariant-loop-i l = first_fault_in (drop l.i l.orders) ≡ first_fault_in l.orders
