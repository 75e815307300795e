-- The invariants of the loops of `Page::show_frames`.
use Rattle.lapd_transcript.proofs.Vocabulary.{ℕ, List, take, Hears, on}
use Rattle.lapd_transcript.proofs.Listeners.{Shown}
use Rattle.lapd_transcript.proofs.output.Page.show_frames.Given as goal

-- the octets so far have been heard, and the frames in them told
abbrev pub invariant-loop-octet : goal.invariant-loop-octet
invariant-loop-octet g l = (past : List ℕ) → Hears l.fn.listener past
    → Shown l.line l.listener (on g.T.Target.taken l.fn.self) (on g.T.Target.taken l.self) past (take l.octet-index l.octets)
