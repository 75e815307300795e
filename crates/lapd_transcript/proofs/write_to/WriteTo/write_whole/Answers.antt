-- Hand-written answers for `WriteTo::write_whole`.
use Rattle.lapd_transcript.proofs.Vocabulary.{◌∙◌}
use Rattle.lapd_transcript.proofs.Known.{handed_more, handed_now, handed_on, handed_part, on_err}
use Rattle.lapd_transcript.proofs.write_to.WriteTo.write_whole.Goals as goal

pub returns-in-Ok-eq0-clause-begun : goal.returns-in-Ok-eq0-clause-begun
returns-in-Ok-eq0-clause-begun g c =
    handed_now (g.W.Write.contents c.args.self.now.writer) (g.W.Write.contents c.write_once.new.self.writer) c.args.octets.now _
    (handed_more (g.W.Write.contents c.args.self.now.writer) (g.W.Write.contents c.loop-rest.self.writer) (g.W.Write.contents c.write_once.new.self.writer) c.args.octets.now c.loop-rest.rest.now c.in-Ok-eq0.field-0 c.loop-rest.invariant.handed c.in-Ok-eq0.ensures.octets)

pub loop-rest-preserved : goal.loop-rest-preserved
loop-rest-preserved g c = record {
  handed = handed_on (g.W.Write.contents c.args.self.now.writer) (g.W.Write.contents c.loop-rest.self.writer) (g.W.Write.contents c.write_once.new.self.writer) c.args.octets.now c.loop-rest.rest.now c.in-Ok.count c.loop-rest.invariant.handed c.in-Ok.ensures.octets;
  steady = c.write_once.ensures.steady ∙ c.loop-rest.invariant.steady;
}

pub returns-in-Err-clause-begun : goal.returns-in-Err-clause-begun
returns-in-Err-clause-begun g c =
    handed_part (g.W.Write.contents c.args.self.now.writer) (g.W.Write.contents c.loop-rest.self.writer) (g.W.Write.contents c.write_once.new.self.writer) c.args.octets.now c.loop-rest.rest.now c.loop-rest.invariant.handed c.in-Err.ensures.octets

pub returns-clause-begun : goal.returns-clause-begun
returns-clause-begun g c =
    on_err c.flush.result (handed_part (g.W.Write.contents c.args.self.now.writer) (g.W.Write.contents c.loop-rest.self.writer) (g.W.Write.contents c.flush.new.self) c.args.octets.now c.loop-rest.rest.now c.loop-rest.invariant.handed c.flush.ensures.bytes)
