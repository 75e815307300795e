-- So many bits are there, and what is due is put in.
use Rattle.lapd_bits.proofs.Vocabulary.{◌≤◌, ◌-◌, low_bits, last_ones}
use Rattle.lapd_bits.proofs.Underway.{Underway}
use Rattle.lapd_bits.proofs.stuffer.Stuffed.after.Given as goal

abbrev pub invariant-loop-due : goal.invariant-loop-due
invariant-loop-due l =
    record {
      at_least : l.fn.count ≤ l.total;
      underway : Underway (last_ones l.fn.latest) (low_bits l.fn.count l.fn.bits) l.text l.total l.due;
    }

abbrev pub decreases-loop-due : goal.decreases-loop-due
decreases-loop-due l = 64 - l.total
