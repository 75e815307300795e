-- Hand-written answers for `Teis::check_next`.
use Rattle.lapd_tei.proofs.Vocabulary.{◌≡◌, true, None, sym, subst, ap, ◌∙◌, Management, Course, AreSoundChecks, MayBeDue, is_checked, management_of}
use Rattle.model_teis.proofs.OfNetwork.Dues.{dues-none, due-there, nobody, none-lowest}
use Rattle.model_teis.proofs.OfNetwork.Ends.{other-next}
use Rattle.lapd_tei.proofs.teis.Teis.check_next.Goals as goal

pub stop_check-requires-clause-due : goal.stop_check-requires-clause-due
stop_check-requires-clause-due c =
    let sound = c.self.invariant in
    subst (λ (m : Management). AreSoundChecks m.places None m.to_check) c.self.view_is (dues-none _ None _ sound.due.each (none-lowest _ (sym c.lowest.ensures.place ∙ c.in_default.is)))

pub stop_check-requires-in_default-tei_at-clause-due : goal.stop_check-requires-in_default-tei_at-clause-due
stop_check-requires-in_default-tei_at-clause-due c =
    let m = management_of c.self.inside in
    absurd (nobody m.check (subst (λ o. MayBeDue o m.check) (sym c.tei_at.ensures ∙ c.in_default-tei_at.is)
    (due-there m.places m.check m.to_check c.in-Some.place (sym c.lowest.ensures.place ∙ c.in-Some.is) c.self.invariant.due)))

pub returns-clause-other : goal.returns-clause-other
returns-clause-other c =
    let m = management_of c.self.inside in
    let runs : is_checked c.args.tei m.check ≡ true = subst (λ (n : Management). is_checked c.args.tei n.check ≡ true) (sym c.self.view_is) c.requires.runs in
    let may = subst (λ o. MayBeDue o m.check) (sym c.tei_at.ensures ∙ c.in-Some-tei_at.is) (due-there m.places m.check m.to_check c.in-Some.place (sym c.lowest.ensures.place ∙ c.in-Some.is) c.self.invariant.due) in
    ap (λ (d : Course). is_checked c.args.tei d.now.check) c.settle.ensures.led ∙ other-next m.check c.args.tei c.in-Some-tei_at.next runs may
