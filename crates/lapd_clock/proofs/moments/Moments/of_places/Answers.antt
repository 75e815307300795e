-- All places rest.
use Rattle.std.proofs.Common.{List, ◌∙◌, refl, sym, subst, length, ◌*◌, ap, arith}
use Rattle.lapd_clock.specs.OwnPlaces.{AreIdleSoFar, AreOfLines}
use Rattle.lapd_clock.specs.Bounds.{AreBounded}
use Rattle.lapd_clock.specs.declared.moments.place.Place.{Place}
use Rattle.lapd_clock.proofs.Bounds.{idle}
use Rattle.lapd_clock.proofs.Standing.{all_rest, resting_late, same_count, one_more, rests_too, one_longer}
use Rattle.lapd_clock.proofs.moments.Moments.of_places.Goals as goal

pub invariant_of-result : goal.invariant_of-result
invariant_of-result c = record {
  bounded = subst (λ bounds. AreBounded c.args.each bounds c.in_ok-leads.leads.items c.loop-line.places.items) (sym (c.in_ok-bounds.ensures.items_if_clones_equal (λ y e. e)))
      (idle c.args.each c.args.lines c.in_ok-leads.leads.items c.loop-line.places.items c.requires.lines c.requires.some c.requires.few
      (c.loop-line.invariant.count ∙ ap (λ n. n * c.args.each) (omega (arith, c.loop-line-test.false, c.loop-line.auto)))
      c.loop-line.invariant.of_lines c.loop-line.invariant.so_far c.in_ok-leads.ensures.count c.in_ok-leads.ensures.first);
  none_before = resting_late c.loop-line.places.items c.loop-line.invariant.so_far;
  later = λ line before there. absurd (omega (arith, before));
}

pub returns : goal.returns
returns c = record {
  count = same_count c.loop-line.places.items ∙ c.loop-line.invariant.count ∙ ap (λ n. n * c.args.each) (omega (arith, c.loop-line-test.false, c.loop-line.auto));
  rest = all_rest c.loop-line.places.items c.loop-line.invariant.so_far;
  of_line = λ i within. c.loop-line.invariant.of_lines i (omega (arith, within, same_count c.loop-line.places.items));
}

pub loop-preserved : goal.loop-preserved
loop-preserved c =
    let d = c.args.each in
    let is = c.in_ok-push.ensures.items in
    record {
      so_far = subst AreIdleSoFar (sym {A = List Place} is) (rests_too c.loop.places.items _ c.loop.invariant.so_far refl);
      of_lines = subst (AreOfLines d) (sym {A = List Place} is) (one_more d c.loop-line.line c.loop.counter c.loop.places.items _ c.loop.invariant.of_lines c.loop.invariant.count (omega (arith, c.loop-test.true)) refl);
      count = ap length is ∙ one_longer c.loop.places.items _ _ c.loop.invariant.count ∙ omega arith;
    }
