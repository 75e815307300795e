-- The invariants of the loops of `Page::put_notes`.
use Rattle.lapd_transcript.proofs.Vocabulary.{take, flat_map, on, IsPut, note_text}
use Rattle.lapd_transcript.proofs.output.Page.put_notes.Given as goal

-- the notes so far were put
abbrev pub invariant-loop-note : goal.invariant-loop-note
invariant-loop-note g l = IsPut (on g.T.Target.taken l.fn.self) (on g.T.Target.taken l.self) (flat_map (note_text l.line l.contents) (take l.note-index l.notes))
