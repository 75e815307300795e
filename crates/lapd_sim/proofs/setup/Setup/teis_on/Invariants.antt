-- The invariants of the loops of `Setup::teis_on`.
use Rattle.lapd_sim.proofs.Vocabulary.{◌≡◌, ◌≤◌, length, take, filter, is_on_line, SetupStands, range_with_len}
use Rattle.lapd_sim.specs.machine.Setup as machine
use Rattle.lapd_sim.proofs.setup.Setup.teis_on.Given as goal

-- of the TEIs so far those are found that are on the line
abbrev pub invariant-loop-tei : goal.invariant-loop-tei
invariant-loop-tei l = record {
  size : length l.room ≡ length l.fn.room;
  few : l.count ≤ l.tei;
  teis : (m : machine.Setup) → SetupStands l.self m → take l.count l.room ≡ filter (is_on_line l.line m.board) (range_with_len 0 l.tei);
}
