-- Hand-written answers for `Window::new`.
use Rattle.lapd_seq.proofs.Vocabulary.{◌≡◌, ◌+◌, arith, distance_of}
use Rattle.lapd_seq.proofs.Callers.{distance-plain}
use Rattle.lapd_seq.proofs.windows.Window.new.Goals as goal

pub returns-clause-count : goal.returns-clause-count
returns-clause-count c =
    let none : 0 + distance_of c.zero.result c.zero-2.result ≡ 0 =
    distance-plain _ _ 0 0 (record { ordered = omega arith; within = omega arith; acknowledged = c.zero.ensures; sent = c.zero-2.ensures }) in
    omega (arith, none)
