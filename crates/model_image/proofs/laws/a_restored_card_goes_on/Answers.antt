-- Hand-written answers for `a_restored_card_goes_on`.
use Rattle.model_image.proofs.Restored.{restored_cards_are_reached, a_restored_card_goes_on}
use Rattle.model_image.proofs.laws.a_restored_card_goes_on.Goals as goal

pub returns-clause-reached : goal.returns-clause-reached
returns-clause-reached c = λ image t h. restored_cards_are_reached image t h

pub returns-clause-goes_on : goal.returns-clause-goes_on
returns-clause-goes_on c = λ s t saved h. a_restored_card_goes_on s t saved h
