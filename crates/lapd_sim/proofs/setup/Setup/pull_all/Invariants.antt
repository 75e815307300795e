-- The invariants of the loops of `Setup::pull_all`.
use Rattle.lapd_sim.proofs.Vocabulary.{◌≡◌, take, kind_of, SetupStands}
use Rattle.lapd_sim.proofs.Pulls.{Pulled}
use Rattle.lapd_sim.specs.machine.Setup as machine
use Rattle.lapd_sim.proofs.setup.Setup.pull_all.Given as goal

-- configuration and kind are the same, and the places so far have been filled
abbrev pub invariant-loop-place : goal.invariant-loop-place
invariant-loop-place l = record {
  config : l.self.config ≡ l.fn.self.config;
  kind : kind_of l.self.timed.card ≡ kind_of l.fn.self.timed.card;
  pulled : (m : machine.Setup) → SetupStands l.fn.self m → Pulled l.self l.line l.place-index (take l.place-index l.room) m;
}
