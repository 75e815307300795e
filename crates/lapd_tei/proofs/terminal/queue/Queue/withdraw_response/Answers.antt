-- Hand-written answers for `Queue::withdraw_response`.
use Rattle.model_teis.proofs.OfTerminal.Vocabulary.{rules, ◌∙◌, ap, filter, is_other}
use Rattle.arrayvec.proofs.ArrayVecLemmas.{filter-from_retain}
use Rattle.lapd_tei.proofs.terminal.queue.Queue.withdraw_response.Goals as goal

pub returns : goal.returns
returns c = filter-from_retain _ (is_other c.args.tei) _ (λ x b t y r. search rules) _ _ c.retain.ensures.filtered ∙ ap (filter (is_other c.args.tei)) c.self.view_is
