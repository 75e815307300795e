-- Hand-written answers for `Memory::forget`.
use Rattle.lapd_tei.proofs.Vocabulary.{rules, ◌∙◌, ap, filter, is_of_other}
use Rattle.arrayvec.proofs.ArrayVecLemmas.{filter-from_retain}
use Rattle.lapd_tei.proofs.remembered.Memory.forget.Goals as goal

pub returns : goal.returns
returns c =
    filter-from_retain _ (is_of_other c.args.tei) _ (λ x b t y r. search rules) _ _ c.retain.ensures.filtered ∙ ap (filter (is_of_other c.args.tei)) c.self.view_is
