-- The timers tell it of the card inside.
use Rattle.std.proofs.Common.{sym, subst}
use Rattle.lapd_card.specs.FrameStands.{FrameStands}
use Rattle.lapd_card.specs.Kinds.{card_in, shelf_of}
use Rattle.lapd_timed.specs.Stands.{ChangesStandIn}
use Rattle.lapd_timed.proofs.Steps.{inside}
use Rattle.lapd_timed.proofs.timed_card.TimedCard.changed_at.Goals as goal

pub returns-in-Some-clause-changed : goal.returns-in-Some-clause-changed
returns-in-Some-clause-changed c = λ m marks on stood.
    c.changed_at.ensures (card_in m) marks (subst (λ f. FrameStands shelf_of f (card_in m)) (sym c.frames.ensures.card) (inside c.args.self.now.card m on)) (subst (λ o. ChangesStandIn o (card_in m) marks) c.in-Some.is stood)

pub returns-in-None-clause-changed : goal.returns-in-None-clause-changed
returns-in-None-clause-changed c = λ m marks on stood. absurd (subst (λ o. ChangesStandIn o (card_in m) marks) c.in-None.is stood)
