-- The law is that of Asked.
use Rattle.lapd_sim.proofs.OfMachine.Asked.{limits_are_of_cards}
use Rattle.lapd_sim.proofs.machine.limits_are_of_cards.Goals as goal

pub returns : goal.returns
returns c = limits_are_of_cards
