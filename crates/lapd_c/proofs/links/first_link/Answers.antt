-- Hand-written answers for `first_link`: a place is free where the card tells no state of its link.
use Rattle.lapd_c.proofs.Vocabulary.{arith, None}
use Rattle.std.proofs.Common.{Some}
use Rattle.lapd_c.proofs.Linking.{state_told, free_behind}
use Rattle.lapd_c.proofs.links.first_link.Goals as goal

pub returns-in-Some-clause-first : goal.returns-in-Some-clause-first
returns-in-Some-clause-first c = λ m s. record {
  place = c.loop-place.invariant.place;
  state = state_told c.args.line c.loop-place.place m c.service_at.result c.state.result (Some c.in-Some.state) c.service_at.ensures
      (c.state.ensures m s) c.in-Some.is;
  free = c.loop-place.invariant.free m s;
}

pub loop-place-preserved : goal.loop-place-preserved
loop-place-preserved c = record {
  place = omega arith;
  free = λ m s. free_behind c.args.line m c.args.from c.loop-place.place (c.loop-place.invariant.free m s)
      (state_told c.args.line c.loop-place.place m c.service_at.result c.state.result None c.service_at.ensures
      (c.state.ensures m s) c.in_default.is);
}

pub returns-clause-first : goal.returns-clause-first
returns-clause-first c = λ m s. record {
  free = λ place le lt. c.loop-place.invariant.free m s place le (omega (arith, lt, c.loop-place-test.false));
}
