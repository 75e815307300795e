-- The invariants of the loops of `WriteTo::write_whole`.
use Rattle.lapd_transcript.proofs.Vocabulary.{◌≡◌, length}
use Rattle.lapd_transcript.proofs.Known.{IsHanded}
use Rattle.lapd_transcript.proofs.write_to.WriteTo.write_whole.Given as goal

abbrev pub invariant-loop-rest : goal.invariant-loop-rest
invariant-loop-rest g l = record {
  handed : IsHanded (g.W.Write.contents l.fn.self.writer) (g.W.Write.contents l.self.writer) l.fn.octets l.rest;
  steady : l.self.failures ≡ l.fn.self.failures;
}

abbrev pub decreases-loop-rest : goal.decreases-loop-rest
decreases-loop-rest g l = length l.rest
