-- The notes so far stand in the first places, of which there are four.
use Rattle.std.proofs.Common.{◌≡◌, length, take, map}
use Rattle.lapd_c.specs.Notes.{plain_note}
use Rattle.lapd_c.proofs.plain.reports.write_notes.Given as goal

abbrev pub invariant-loop-i : goal.invariant-loop-i
invariant-loop-i l = record {
  four : length l.places ≡ 4;
  written : take l.i l.places ≡ map plain_note (take l.i l.notes);
}
