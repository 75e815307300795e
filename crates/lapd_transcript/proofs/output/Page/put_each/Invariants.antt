-- The invariants of the loops of `Page::put_each`.
use Rattle.lapd_transcript.proofs.Vocabulary.{take, flat_map, on, IsPut, row, row_text}
use Rattle.lapd_transcript.proofs.output.Page.put_each.Given as goal

-- the counters so far were put
abbrev pub invariant-loop-counter : goal.invariant-loop-counter
invariant-loop-counter g l = IsPut (on g.T.Target.taken l.fn.self) (on g.T.Target.taken l.self) (flat_map (λ name. row_text l.line l.counters (row name)) (take l.counter-index l.names))
