-- Hand-written answers for `rises`.
use Rattle.model_link.proofs.RiseEvents.{event-rises, offer-falls, all-rises}
use Rattle.model_link.proofs.laws.rises.Goals as goal

pub returns-clause-event : goal.returns-clause-event
returns-clause-event c = λ t e l r h. event-rises t r l h e

pub returns-clause-offer : goal.returns-clause-offer
returns-clause-offer c = λ t l r h. offer-falls t r l h

pub returns-clause-list : goal.returns-clause-list
returns-clause-list c = λ t es l r h. all-rises t r es l h
