-- Hand-written answers for `Queue::withdraw_others`.
use Rattle.model_teis.proofs.OfTerminal.Vocabulary.{rules, ◌∙◌, ap, filter, is_response}
use Rattle.arrayvec.proofs.ArrayVecLemmas.{filter-from_retain}
use Rattle.lapd_tei.proofs.terminal.queue.Queue.withdraw_others.Goals as goal

pub returns : goal.returns
returns c = filter-from_retain _ is_response _ (λ x b t y r. search rules) _ _ c.retain.ensures.filtered ∙ ap (filter is_response) c.self.view_is
