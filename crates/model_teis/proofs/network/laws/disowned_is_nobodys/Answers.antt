-- Hand-written answers for `disowned_is_nobodys`.
use Rattle.model_teis.proofs.OfNetwork.Disowned.{disown_sends_remove, disown_spares, disown_all_spares}
use Rattle.model_teis.proofs.network.laws.disowned_is_nobodys.Goals as goal

pub returns-clause-sends : goal.returns-clause-sends
returns-clause-sends c = disown_sends_remove

pub returns-clause-spares : goal.returns-clause-spares
returns-clause-spares c = disown_spares

pub returns-clause-spares_all : goal.returns-clause-spares_all
returns-clause-spares_all c = disown_all_spares
