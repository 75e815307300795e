-- Hand-written answers for `Page::put_notes`.
use Rattle.lapd_transcript.proofs.Vocabulary.{note_text, on}
use Rattle.lapd_transcript.proofs.Known.{leaves, puts_stop}
use Rattle.lapd_transcript.proofs.output.Page.put_notes.Goals as goal

pub returns-in_err-put_note : goal.returns-in_err-put_note
returns-in_err-put_note g c =
    leaves c.from_residual.result _ _ _ c.from_residual.ensures.0
    (puts_stop (note_text c.args.line c.args.contents.now) c.args.notes.now c.loop-note.note-index _
    (on g.T.Target.taken c.args.self.now) (on g.T.Target.taken c.loop-note.self) (on g.T.Target.taken c.put_note.new.self)
    c.loop-note-test.true c.loop-note.invariant c.in_err-put_note.ensures)
