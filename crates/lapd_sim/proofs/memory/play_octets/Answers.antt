-- Hand-written answers for `play_octets`.
use Rattle.lapd_sim.proofs.Vocabulary.{refl}
use Rattle.lapd_sim.proofs.Octets.{in_memory}
use Rattle.lapd_sim.proofs.memory.play_octets.Goals as goal

pub returns : goal.returns
returns c =
    in_memory c.play-played.result c.args.script.now _ _ _ _ _ refl refl refl
    c.play-played.ensures.reads (c.play-played.ensures.played c.args.script.now refl)
