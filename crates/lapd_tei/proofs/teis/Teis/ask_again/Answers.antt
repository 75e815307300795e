-- Hand-written answers for `Teis::ask_again`.
use Rattle.lapd_tei.proofs.Vocabulary.{◌≡◌, IfSome, Some, Second, refl, subst, ap, ◌∙◌, IdentityCheckRequest, IsSoundCheck, management_of}
use Rattle.model_teis.proofs.OfNetwork.SoundWords.{sound_sent, on_low, check-again}
use Rattle.model_teis.proofs.OfNetwork.Dues.{dues-same}
use Rattle.lapd_tei.proofs.teis.Teis.ask_again.Goals as goal

pub invariant_of-self : goal.invariant_of-self
invariant_of-self c =
    let m = management_of c.self.inside in
    let own = c.args.own in
    let runs : m.check ≡ Some own = ap (λ m. m.check) c.self.view_is ∙ c.requires in
    let checked : IsSoundCheck m.reading m.places own = subst (λ check. IfSome check (IsSoundCheck m.reading m.places)) runs c.self.invariant.checked in
    sound_sent m (IdentityCheckRequest own.tei) _ _ c.self.invariant (on_low m m own.tei refl c.self.invariant checked.on_line)
    (check-again m.reading m.places own checked) (dues-same m.places m.check m.to_check own (record own { period = Second }) runs refl c.self.invariant.due) c.send-lost.ensures.waits
