-- Hand-written answers for `Link::save_queue`.
use Rattle.std.proofs.Common.{◌<◌, [], add-one, ap, arith, length, sym, take}
use Rattle.std.specs.Prelude.{flat_map}
use Rattle.lapd_image.proofs.Puts.{puts-next, puts-same}
use Rattle.lapd_image.specs.Numbers.{contents}
use Rattle.lapd_link.proofs.Images.{one-more}
use Rattle.model_bits.specs.StuffingLaws.{AreOctets}
use Rattle.lapd_link.proofs.link.Link.save_queue.Goals as goal

pub loop-place-preserved : goal.loop-place-preserved
loop-place-preserved g c = record {
  puts = λ messages others kept.
      let within : c.loop-place.place < length messages = omega (arith, c.loop-place-test.true, c.len-place-end.ensures.count, kept.lengths) in
      puts-same (ap (λ n. flat_map contents (take n messages)) (sym (add-one c.loop-place.place)))
      (puts-next contents messages c.loop-place.place [] within (c.loop-place.invariant.puts messages others kept) (c.save_contents-end.ensures.puts messages others kept));
  octets = λ messages others kept.
      let within : c.loop-place.place < length messages = omega (arith, c.loop-place-test.true, c.len-place-end.ensures.count, kept.lengths) in
      one-more AreOctets messages c.loop-place.place [] within (c.loop-place.invariant.octets messages others kept) (c.save_contents-end.ensures.octets messages others kept);
}
