-- Hand-written answers for `Teis::check_later`.
use Rattle.lapd_tei.proofs.Vocabulary.{◌≡◌, Some, sym, subst, ap, ◌∙◌, AnnexB, Management, Course, MayBeDue, begun, due_at, management_of}
use Rattle.model_teis.proofs.OfNetwork.SoundWords.{sound_due, asked}
use Rattle.lapd_tei.proofs.teis.Teis.check_later.Goals as goal

pub invariant_of-self : goal.invariant_of-self
invariant_of-self c =
    let m = management_of c.self.inside in
    let led = c.ask_once-told.ensures.led in
    let same = asked c.args.tei (begun c.args.self.now) in
    let read : m.reading ≡ AnnexB = ap (λ (n : Management). n.reading) c.self.view_is ∙ ap (λ (d : Course). d.now.reading) led ∙ same.0 ∙ c.requires.read in
    let check : m.check ≡ c.args.self.now.check = ap (λ (n : Management). n.check) c.self.view_is ∙ ap (λ (d : Course). d.now.check) led ∙ same.1 in
    sound_due m c.args.tei _ c.self.invariant read (subst (MayBeDue (Some c.args.tei)) (sym check) c.requires.beside)
    (c.put.ensures ∙ ap (λ o. due_at o _ c.self.inside.due) c.place_of-place.ensures.place)
