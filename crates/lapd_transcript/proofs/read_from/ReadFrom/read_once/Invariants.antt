-- The invariants of the loops of `ReadFrom::read_once`.
use Rattle.lapd_transcript.proofs.Vocabulary.{◌≡◌, Keeps}
use Rattle.lapd_transcript.proofs.read_from.ReadFrom.read_once.Given as goal

-- an interrupted read takes nothing and is not counted
abbrev pub invariant-loop : goal.invariant-loop
invariant-loop g l = record {
  kept : Keeps (g.R.Read.remaining l.fn.self.reader) (g.R.Read.remaining l.self.reader);
  steady : l.self.failures ≡ l.fn.self.failures;
}
