-- What is dropped costs nothing, and changes nothing.
use Rattle.std.specs.Prelude.{◌≡◌, List, Some, IsSome, All}
use Rattle.model_bits.specs.Stream as stream
use Rattle.model_bits.specs.declared.heard.Cause.{Cause}
use Rattle.model_line.specs.Event.{hears, told, dropped}
use Rattle.model_line.specs.Laws.{cause_in}
use Rattle.model_card.specs.Event.{Event}
use Rattle.model_card.specs.Card.{Card}
use Rattle.model_card.specs.Counts.{may_send}
use Rattle.model_card.specs.Machine.{after}
use Rattle.model_card.specs.Run.{Moment, moments}

-- Where the answer to what is heard names a cause, whichever, what may be sent stays as it is: in one moment, and in every moment of a run.
abbrev pub IsDropWithoutCost : Moment → Type 0
IsDropWithoutCost moment =
    (e : stream.Event) → moment.event.what ≡ hears e → IsSome (cause_in moment.answer) →
    may_send (after moment.event moment.card) ≡ may_send moment.card

abbrev pub AreDropsWithoutCost : Card → List Event → Type 0
AreDropsWithoutCost m events = All IsDropWithoutCost (moments m events)

-- And the cause is all that is told, and the card is as it was.
abbrev pub IsDropWithoutEffect : Moment → Type 0
IsDropWithoutEffect moment =
    (e : stream.Event) (cause : Cause) → moment.event.what ≡ hears e → cause_in moment.answer ≡ Some cause →
    (moment.answer ≡ told (dropped cause)) × (after moment.event moment.card ≡ moment.card)

abbrev pub AreDropsWithoutEffect : Card → List Event → Type 0
AreDropsWithoutEffect m events = All IsDropWithoutEffect (moments m events)
