-- The invariants of the loops of `ScriptLines::advance`.
use Rattle.lapd_script.proofs.Vocabulary.{◌≡◌, ◌≢◌, ◌≤◌, false, List, ℕ, AllWithin, left_to_read, AreLeft}
use Rattle.lapd_script.proofs.lines.ScriptLines.advance.Given as goal

-- the line that is sought begins at `start`, has no line feed before `unsought`, and is not counted yet; the text that
-- is left is the same, its end was not met before, and no read has failed
abbrev pub invariant-loop-end : goal.invariant-loop-end
invariant-loop-end g l = record {
  begun : l.self.start ≤ l.unsought;
  within : l.unsought ≤ l.self.filled;
  begins : l.self.next ≡ l.self.start;
  octets : l.self.octets ≡ l.fn.self.octets;
  number : l.self.number ≡ l.fn.self.number;
  steady : g.S.Source.failures l.source ≡ g.S.Source.failures l.fn.source;
  goes_on : l.self.is_at_end ≡ false → l.fn.self.is_at_end ≡ false;
  open_is : AllWithin (λ octet. octet ≢ 10) l.self.buffer.items l.self.start l.unsought;
  left : (text : List ℕ) → AreLeft l.fn.self (g.S.Source.remaining l.fn.source) text
      → AreLeft l.self (g.S.Source.remaining l.source) text;
}

abbrev pub decreases-loop-end : goal.decreases-loop-end
decreases-loop-end g l = left_to_read l.self
