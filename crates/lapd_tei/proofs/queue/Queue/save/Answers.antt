-- Hand-written answers for `Queue::save`.
use Rattle.std.proofs.Common.{◌<◌, ◌≤◌, ◌∷◌, add-one, arith, length, take_all}
use Rattle.std.specs.Prelude.{flat_map}
use Rattle.lapd_image.proofs.Puts.{puts-next, puts-none, puts-same, puts-then}
use Rattle.model_teis.specs.network.Image.{IsOfOctets}
use Rattle.model_teis.specs.declared.network.messages.Message.TheVariants.{IdentityRemove}
use Rattle.model_teis.specs.network.Messages.{information_of}
use Rattle.model_teis.proofs.Lists.{each-all, each-more}
use Rattle.lapd_tei.proofs.queue.Queue.save.Goals as goal

pub loop-place-init : goal.loop-place-init
loop-place-init c = record { puts = puts-none c.put_octet-end.ensures.within; saved = λ k d low. absurd (omega (arith, low)) }

pub loop-place-preserved : goal.loop-place-preserved
loop-place-preserved c =
    let all = c.args.self.now in
    let within : c.loop-place.place < length all = omega (arith, c.loop-place-test.true, c.len-place-end.ensures.len) in
    record {
      puts =
          rw add-one (puts-next information_of all c.loop-place.place (IdentityRemove 0) within c.loop-place.invariant.puts (c.save_at-end.ensures.puts (IdentityRemove 0)));
      saved = each-more IsOfOctets all c.loop-place.place (IdentityRemove 0) within c.loop-place.invariant.saved (c.save_at-end.ensures.saved (IdentityRemove 0));
    }

pub returns : goal.returns
returns c =
    let past : length c.args.self.now ≤ c.loop-place.place = omega (arith, c.loop-place-test.false, c.len-place-end.ensures.len) in
    let all = take_all c.loop-place.place c.args.self.now past in
    record {
      puts = puts-same (λ i. (c.len.ensures.len i) ∷ flat_map information_of (all i)) (puts-then c.put_octet-end.ensures c.loop-place.invariant.puts);
      saved = each-all IsOfOctets c.args.self.now c.loop-place.place past c.loop-place.invariant.saved;
    }
