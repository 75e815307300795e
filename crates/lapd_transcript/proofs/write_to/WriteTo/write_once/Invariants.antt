-- The invariants of the loops of `WriteTo::write_once`.
use Rattle.lapd_transcript.proofs.Vocabulary.{◌≡◌, Keeps}
use Rattle.lapd_transcript.proofs.write_to.WriteTo.write_once.Given as goal

-- an interrupted write hands on nothing and is not counted
abbrev pub invariant-loop : goal.invariant-loop
invariant-loop g l = record {
  kept : Keeps (g.W.Write.contents l.fn.self.writer) (g.W.Write.contents l.self.writer);
  steady : l.self.failures ≡ l.fn.self.failures;
}
