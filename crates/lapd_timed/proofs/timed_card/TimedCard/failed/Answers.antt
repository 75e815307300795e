-- A fault is told, and what it orders is carried out.
use Rattle.std.proofs.Common.{refl}
use Rattle.model_bits.specs.Stream as stream
use Rattle.model_card.specs.Event.{at}
use Rattle.model_line.specs.Came.{cause_of}
use Rattle.model_line.specs.Event.{hears}
use Rattle.model_card.specs.Card.{line_at}
use Rattle.lapd_timed.proofs.EventKeeps.{dropped-keeps}
use Rattle.lapd_timed.proofs.Steps.{frames-called-still}
use Rattle.lapd_timed.proofs.timed_card.TimedCard.failed.Goals as goal

pub returns : goal.returns
returns c = record {
  called = frames-called-still c.args.line (at c.args.line (hears (stream.dropped (cause_of c.args.fault)))) refl tt c.args.self.now c.carry_out.new.self c.in-Frames.card c.failed.new.self c.in-Frames.is c.carry_out.ensures.card c.failed.ensures.called
      c.requires.within c.orders.result.now c.carry_out.ensures.carried c.orders.ensures c.carry_out.ensures.still
      (λ m reached here number. dropped-keeps (cause_of c.args.fault) m.config (line_at c.args.line m) number);
}
