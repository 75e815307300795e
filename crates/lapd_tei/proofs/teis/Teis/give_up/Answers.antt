-- Hand-written answers for `Teis::give_up`.
use Rattle.lapd_tei.proofs.Vocabulary.{Option, Check, sym, subst, IsSound, management_of}
use Rattle.model_teis.proofs.OfNetwork.SoundWords.{sound_down}
use Rattle.lapd_tei.proofs.teis.Teis.give_up.Goals as goal

pub invariant_of-self : goal.invariant_of-self
invariant_of-self c =
    let m = management_of c.self.inside in
    subst (λ (check : Option Check). IsSound (record m { check = check; to_check = c.clear-2.new.self; waiting = c.clear.new.self })) (sym c.take.ensures.after)
    (sound_down m _ _ c.self.invariant c.clear-2.ensures c.clear.ensures)
