-- Hand-written answers for `Memory::save`.
use Rattle.std.proofs.Common.{◌∷◌, add-one, arith, subst, take_all, ◌∙◌}
use Rattle.std.specs.Prelude.{All, flat_map}
use Rattle.lapd_image.proofs.Puts.{puts-none, puts-same, puts-then, puts-next}
use Rattle.model_teis.specs.network.Image.{HasRi, remembered}
use Rattle.model_teis.proofs.Lists.{each-all, each-more}
use Rattle.lapd_tei.proofs.remembered.Memory.save.Goals as goal

pub loop-one-init : goal.loop-one-init
loop-one-init c = record { puts = puts-none c.put_octet-end.ensures.within; saved = λ k d low. absurd (omega (arith, low)) }

pub loop-one-preserved : goal.loop-one-preserved
loop-one-preserved c = record {
  puts = rw add-one (puts-next remembered _ c.loop-one.one-index _ c.loop-one-test.true c.loop-one.invariant.puts c.save_one-end.ensures.puts);
  saved = each-more HasRi _ c.loop-one.one-index _ c.loop-one-test.true c.loop-one.invariant.saved c.save_one-end.ensures.saved;
}

pub returns : goal.returns
returns c =
    let items = c.as_slice-one-items.ensures.value ∙ c.self.view_is in
    let all = take_all c.loop-one.one-index _ c.loop-one-test.false ∙ items in
    record {
      puts = puts-same (λ i. (c.len.ensures.len i) ∷ flat_map remembered (all i)) (puts-then c.put_octet-end.ensures c.loop-one.invariant.puts);
      saved = subst (All HasRi) items (each-all HasRi _ c.loop-one.one-index c.loop-one-test.false c.loop-one.invariant.saved);
    }
