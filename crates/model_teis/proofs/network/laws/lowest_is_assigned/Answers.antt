-- Hand-written answers for `lowest_is_assigned`.
use Rattle.model_teis.proofs.OfNetwork.LawLemmas.{lowest_is_assigned, new_is_assigned}
use Rattle.model_teis.proofs.OfNetwork.Pigeonholes.{one_is_free}
use Rattle.model_teis.proofs.network.laws.lowest_is_assigned.Goals as goal

pub returns-clause-lowest : goal.returns-clause-lowest
returns-clause-lowest c = lowest_is_assigned

pub returns-clause-new : goal.returns-clause-new
returns-clause-new c = new_is_assigned

pub returns-clause-one : goal.returns-clause-one
returns-clause-one c = λ places few. one_is_free places 64 63 few
