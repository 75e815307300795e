-- Hand-written answers for `Queue::send_request`.
use Rattle.model_teis.proofs.OfTerminal.Vocabulary.{sym, ap, ◌∙◌, put_at}
use Rattle.model_teis.specs.declared.terminal.messages.Message.TheVariants.{IdentityRequest}
use Rattle.model_teis.proofs.OfTerminal.SoundWords.{room_of_first}
use Rattle.lapd_tei.proofs.terminal.queue.Queue.send_request.Goals as goal

pub push-requires : goal.push-requires
push-requires c = room_of_first c.args.ri c.args.self.now (sym c.place_of_request.ensures.place ∙ c.in-None.is) c.requires

pub returns-in-None : goal.returns-in-None
returns-in-None c = c.push.ensures ∙ ap (put_at (IdentityRequest c.args.ri) c.args.self.now) (sym c.in-None.is ∙ c.place_of_request.ensures.place)

pub returns-in-Some : goal.returns-in-Some
returns-in-Some c = c.put.ensures ∙ ap (put_at (IdentityRequest c.args.ri) c.args.self.now) (sym c.in-Some.is ∙ c.place_of_request.ensures.place)
