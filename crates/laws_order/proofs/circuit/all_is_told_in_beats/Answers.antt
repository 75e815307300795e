-- Hand-written answers for `all_is_told_in_beats`.
use Rattle.laws_order.proofs.OfCircuit.Beats.{all-is-told-in-beats}
use Rattle.laws_order.proofs.circuit.all_is_told_in_beats.Goals as goal

pub returns : goal.returns
returns c = all-is-told-in-beats
