-- Hand-written answers for `a_call_comes_in_time`.
use Rattle.laws_time.proofs.OfCircuit.AckedBegun.{a-call-comes-in-time, t203-falls-due-first}
use Rattle.laws_time.proofs.OfCircuit.Rested.{messages-come-in-time, t203-falls-due-first-since}
use Rattle.laws_time.proofs.circuit.a_call_comes_in_time.Goals as goal

pub returns-clause-told : goal.returns-clause-told
returns-clause-told c = a-call-comes-in-time

pub returns-clause-first : goal.returns-clause-first
returns-clause-first c = t203-falls-due-first

pub returns-clause-since : goal.returns-clause-since
returns-clause-since c = messages-come-in-time

pub returns-clause-since_first : goal.returns-clause-since_first
returns-clause-since_first c = t203-falls-due-first-since
