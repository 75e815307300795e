-- Hand-written answers for `Teis::take_off`.
use Rattle.lapd_tei.proofs.Vocabulary.{IdentityRemove, management_of}
use Rattle.model_teis.proofs.OfNetwork.SoundWords.{sound_said, on_low}
use Rattle.lapd_tei.proofs.teis.Teis.take_off.Goals as goal

pub invariant_of-self : goal.invariant_of-self
invariant_of-self c =
    sound_said (management_of c.self.inside) (IdentityRemove c.args.tei) _ c.self.invariant (on_low _ _ c.args.tei c.self.view_is c.self.invariant c.requires) c.send-lost.ensures.waits
