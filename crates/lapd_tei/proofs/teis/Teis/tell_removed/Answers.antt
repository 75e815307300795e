-- Hand-written answers for `Teis::tell_removed`.
use Rattle.lapd_tei.proofs.Vocabulary.{IdentityRemove, management_of}
use Rattle.model_teis.proofs.OfNetwork.SoundWords.{sound_said, on_low, checked_now}
use Rattle.lapd_tei.proofs.teis.Teis.tell_removed.Goals as goal

pub invariant_of-self : goal.invariant_of-self
invariant_of-self c =
    let on = checked_now _ _ c.args.tei c.self.view_is c.self.invariant c.requires.runs in
    sound_said (management_of c.self.inside) (IdentityRemove c.args.tei) _ c.self.invariant (on_low _ _ c.args.tei c.self.view_is c.self.invariant on) c.send.ensures.waits
