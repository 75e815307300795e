-- Hand-written answers for `LinkLayer::save_links`.
use Rattle.lapd_line.proofs.Vocabulary.{◌≡◌, ap, sym, arith, range_with_len, link_count}
use Rattle.std.specs.Prelude.{flat_map}
use Rattle.model_line.specs.Image.{link_numbered}
use Rattle.lapd_image.proofs.Puts.{puts-none, puts-same, puts-then}
use Rattle.lapd_line.proofs.SavedSteps.{images_next}
use Rattle.lapd_line.proofs.SavedWhole.{all_saved, next_saved}
use Rattle.lapd_line.proofs.link_layer.LinkLayer.save_links.Goals as goal

pub save_link-end-requires-clause-within : goal.save_link-end-requires-clause-within
save_link-end-requires-clause-within g c =
    let (others, m, st) = c.requires.stands in
    (c.loop-number.invariant.puts others m st).within

pub loop-number-init : goal.loop-number-init
loop-number-init g c = record { puts = λ others m st. puts-none c.requires.within; saved = λ others m st timed number h. absurd (omega (arith, h)) }

pub loop-number-preserved : goal.loop-number-preserved
loop-number-preserved g c = record {
  puts = λ others m st.
      puts-same (sym (images_next (link_numbered m) 0 c.loop-number.number c.loop-number.number (omega arith)))
      (puts-then (c.loop-number.invariant.puts others m st) (c.save_link-end.ensures.puts others m st));
  saved = λ others m st timed.
      next_saved c.args.self.now.config m c.loop-number.number (c.loop-number.invariant.saved others m st timed) (c.save_link-end.ensures.saved others m st (timed c.loop-number.number));
}

pub returns-clause-puts : goal.returns-clause-puts
returns-clause-puts g c = λ others m st.
    let all : c.loop-number.number ≡ link_count c.args.self.now.config = omega (arith, c.loop-number-test.false, c.loop-number.auto.number-end, c.from-number-end.ensures) in
    puts-same (ap (λ n. flat_map (link_numbered m) (range_with_len 0 n)) all) (c.loop-number.invariant.puts others m st)

pub returns-clause-saved : goal.returns-clause-saved
returns-clause-saved g c = λ others m st timed.
    all_saved m c.loop-number.number st (omega (arith, c.loop-number-test.false, c.loop-number.auto.number-end, c.from-number-end.ensures)) (c.loop-number.invariant.saved others m st timed)
