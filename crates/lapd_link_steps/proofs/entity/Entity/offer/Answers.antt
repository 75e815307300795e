-- Hand-written answers for `Entity::offer`.
use Rattle.lapd_link_steps.proofs.Vocabulary.{sym, ◌∙◌}
use Rattle.lapd_link_steps.proofs.Giving.{gives_empty}
use Rattle.lapd_link_steps.proofs.Queue.{nothing_first}
use Rattle.lapd_link_steps.proofs.entity.Entity.offer.Goals as goal

pub returns-in-None-clause-gives : goal.returns-in-None-clause-gives
returns-in-None-clause-gives c =
    gives_empty c.args.self.now c.pop_front.new.self
    (nothing_first c.args.self.now.waiting.items (sym c.pop_front.ensures.value ∙ c.in-None.is))
    c.pop_front.ensures.items
    c.offer_numbered.ensures.gives
