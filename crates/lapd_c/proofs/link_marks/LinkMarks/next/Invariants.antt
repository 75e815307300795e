-- No place so far is that of a marked link.
use Rattle.std.proofs.Common.{◌≡◌, ◌≤◌, ◌<◌, ℕ, false, ◌*◌}
use Rattle.lapd_c.specs.LinkMarks.{is_marked}
use Rattle.lapd_c.proofs.link_marks.LinkMarks.next.Given as goal

abbrev pub invariant-loop-word : goal.invariant-loop-word
invariant-loop-word l = (place : ℕ) → l.from ≤ place → place < 64 * l.word → is_marked l.self place ≡ false
