-- Hand-written answers for `sound_throughout`.
use Rattle.model_teis.proofs.OfNetwork.LawLemmas.{sound_throughout}
use Rattle.model_teis.proofs.network.laws.sound_throughout.Goals as goal

pub returns : goal.returns
returns c = sound_throughout
