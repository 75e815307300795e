-- Hand-written answers for `Page::put_note`.
use Rattle.lapd_transcript.proofs.Vocabulary.{sym, subst, Note, Puts, on, note_text}
use Rattle.lapd_transcript.proofs.output.Page.put_note.Goals as goal

pub returns-in-EstablishConfirm : goal.returns-in-EstablishConfirm
returns-in-EstablishConfirm g c =
    subst (λ (note : Note). Puts c.put_of_link-in-EstablishConfirm.result (on g.T.Target.taken c.args.self.now) (on g.T.Target.taken c.put_of_link-in-EstablishConfirm.new.self) (note_text c.args.line c.args.contents.now note)) (sym c.in-EstablishConfirm.is) c.put_of_link-in-EstablishConfirm.ensures

pub returns-in-ReleaseIndication : goal.returns-in-ReleaseIndication
returns-in-ReleaseIndication g c =
    subst (λ (note : Note). Puts c.put_of_link-in-ReleaseIndication.result (on g.T.Target.taken c.args.self.now) (on g.T.Target.taken c.put_of_link-in-ReleaseIndication.new.self) (note_text c.args.line c.args.contents.now note)) (sym c.in-ReleaseIndication.is) c.put_of_link-in-ReleaseIndication.ensures

pub returns-in-ReleaseConfirm : goal.returns-in-ReleaseConfirm
returns-in-ReleaseConfirm g c =
    subst (λ (note : Note). Puts c.put_of_link-in-ReleaseConfirm.result (on g.T.Target.taken c.args.self.now) (on g.T.Target.taken c.put_of_link-in-ReleaseConfirm.new.self) (note_text c.args.line c.args.contents.now note)) (sym c.in-ReleaseConfirm.is) c.put_of_link-in-ReleaseConfirm.ensures
