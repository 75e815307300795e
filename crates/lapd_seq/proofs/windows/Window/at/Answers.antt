-- Hand-written answers for `Window::at`.
use Rattle.lapd_seq.proofs.Vocabulary.{◌≡◌, ◌+◌, arith, distance_of}
use Rattle.lapd_seq.proofs.Callers.{distance-plain, is_seq}
use Rattle.lapd_seq.proofs.windows.Window.at.Goals as goal

pub returns-clause-numbers : goal.returns-clause-numbers
returns-clause-numbers c = record {
  ordered = omega arith;
  within = omega (arith, c.requires);
  acknowledged = is_seq c.args.va c.args.va.value (omega (arith, c.args.va.in_range));
  sent = is_seq c.new.result (c.args.va.value + c.args.outstanding) c.new.ensures.held;
}

pub returns-clause-count : goal.returns-clause-count
returns-clause-count c =
    let whole : c.args.va.value + distance_of c.args.va c.new.result ≡ c.args.va.value + c.args.outstanding =
    distance-plain _ _ _ _ (returns-clause-numbers c) in
    omega (arith, whole)
