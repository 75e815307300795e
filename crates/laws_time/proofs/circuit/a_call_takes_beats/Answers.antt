-- Hand-written answers for `a_call_takes_beats`.
use Rattle.laws_time.proofs.OfCircuit.InBeats.{a-call-takes-beats, a-short-call-takes-beats, messages-take-beats, short-messages-take-beats}
use Rattle.laws_time.proofs.circuit.a_call_takes_beats.Goals as goal

pub returns-clause-told : goal.returns-clause-told
returns-clause-told c = a-call-takes-beats

pub returns-clause-since : goal.returns-clause-since
returns-clause-since c = messages-take-beats

pub returns-clause-short : goal.returns-clause-short
returns-clause-short c = a-short-call-takes-beats

pub returns-clause-short_since : goal.returns-clause-short_since
returns-clause-short_since c = short-messages-take-beats
