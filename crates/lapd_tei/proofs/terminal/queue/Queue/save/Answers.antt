-- Hand-written answers for `Queue::save`.
use Rattle.std.proofs.Common.{◌∷◌, [], add-one, subst, sym, take_all, ◌∙◌}
use Rattle.std.specs.Prelude.{All, flat_map}
use Rattle.std.proofs.Math.Seq.{take-suc}
use Rattle.std.proofs.lemmas.List.Elements.{All-append, All-cons, All-nil}
use Rattle.lapd_image.proofs.Puts.{puts-next, puts-same, puts-then}
use Rattle.model_teis.specs.terminal.Image.{IsOfOctets}
use Rattle.model_teis.specs.terminal.Messages.{information_of}
use Rattle.lapd_tei.proofs.terminal.queue.Queue.save.Goals as goal

pub loop-message-preserved : goal.loop-message-preserved
loop-message-preserved c = record {
  puts = rw add-one (puts-next information_of _ c.loop-message.message-index _ c.loop-message-test.true c.loop-message.invariant.puts c.save-end.ensures.puts);
  octets =
      rw add-one (subst (All IsOfOctets) (sym (take-suc _ c.loop-message.message-index _ c.loop-message-test.true))
      (All-append IsOfOctets _ _ c.loop-message.invariant.octets (All-cons IsOfOctets _ [] c.save-end.ensures.octets (All-nil IsOfOctets))));
}

pub returns-clause-puts : goal.returns-clause-puts
returns-clause-puts c =
    let all = take_all c.loop-message.message-index _ c.loop-message-test.false ∙ c.as_slice-message-items.ensures.value ∙ c.self.view_is in
    puts-same (λ i. c.len.ensures.len i ∷ flat_map information_of (all i)) (puts-then c.put_octet-end.ensures c.loop-message.invariant.puts)
