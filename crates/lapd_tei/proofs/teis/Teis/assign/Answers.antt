-- Hand-written answers for `Teis::assign`.
use Rattle.lapd_tei.proofs.Vocabulary.{sym, ◌∙◌, management_of}
use Rattle.model_teis.proofs.OfNetwork.Memories.{memory-put}
use Rattle.model_teis.proofs.OfNetwork.SoundWords.{sound_came}
use Rattle.lapd_tei.proofs.teis.Teis.assign.Goals as goal

pub invariant_of-self : goal.invariant_of-self
invariant_of-self c =
    let at = sym c.free_place.ensures.place ∙ c.in-Some.is in
    sound_came (management_of c.self.inside) _ _ _ _ _ c.self.invariant (sym c.is_on.ensures ∙ c.if-is_on.false) at c.requires c.put.ensures (memory-put _ _ _ _ at c.self.invariant.memory) c.self.invariant.queue c.self.invariant.read
