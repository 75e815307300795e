-- Hand-written answers for `Teis::begin_check`.
use Rattle.lapd_tei.proofs.Vocabulary.{◌≡◌, true, Some, First, sym, subst, is_on, IdentityCheckRequest, AreSoundChecks, management_of}
use Rattle.model_teis.proofs.OfNetwork.SoundWords.{sound_sent, on_low, check-begun}
use Rattle.lapd_tei.proofs.teis.Teis.begin_check.Goals as goal

pub invariant_of-self : goal.invariant_of-self
invariant_of-self c =
    let on : is_on c.args.tei c.self.inside.table ≡ true = subst (λ m. is_on c.args.tei m.places ≡ true) (sym c.self.view_is) c.requires.on in
    sound_sent (management_of c.self.inside) (IdentityCheckRequest c.args.tei) _ _ c.self.invariant (on_low _ _ c.args.tei c.self.view_is c.self.invariant c.requires.on)
    (check-begun _ _ c.args.tei on)
    (subst (λ m. AreSoundChecks m.places (Some (record { tei = c.args.tei; period = First; first = 0; second = 0 })) m.to_check) (sym c.self.view_is) c.requires.due) c.send-lost.ensures.waits
