-- The law is that of Replies.
use Rattle.lapd_sim.proofs.OfMachine.Replies.{transcripts_are_replies}
use Rattle.lapd_sim.proofs.machine.transcripts_are_replies.Goals as goal

pub returns : goal.returns
returns c = transcripts_are_replies
