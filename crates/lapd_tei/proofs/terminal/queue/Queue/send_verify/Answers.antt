-- Hand-written answers for `Queue::send_verify`.
use Rattle.model_teis.proofs.OfTerminal.Vocabulary.{sym, ◌∙◌}
use Rattle.model_teis.proofs.OfTerminal.SoundWords.{room_of_verify}
use Rattle.lapd_tei.proofs.terminal.queue.Queue.send_verify.Goals as goal

pub push-requires : goal.push-requires
push-requires c = room_of_verify c.args.tei c.args.self.now (sym c.has_verify.ensures ∙ c.if-has_verify.false) c.requires
