-- What is dropped of the octets of a card costs nothing, and changes nothing.
use Rattle.std.specs.Prelude.{◌≡◌, ℕ, List, [], ◌∷◌, ◌++◌, set, Option, Some, None, IsSome, All}
use Rattle.model_bits.specs.declared.heard.Cause.{Cause}
use Rattle.model_line.specs.Event.{dropped}
use Rattle.model_card.specs.Counts.{may_send}
use Rattle.model_card.specs.ports.Event.{Event}
use Rattle.model_card.specs.ports.Card.{OctetCard, port_at, after}
use Rattle.model_card.specs.ports.Port.{Answer, octet, told, refused, pulled}
use Rattle.model_card.specs.ports.Run.{Moment, moments}

-- Why an octet, or the frame that it ended, was dropped.
abbrev pub cause_in : Answer → Option Cause
cause_in (told t) = t.cause
cause_in (refused why) = None
cause_in (pulled value begun orders) = None

-- Where the answer to an octet names a cause, whichever, what may be sent stays as it is: in one moment, and in every
-- moment of a run.
abbrev pub IsDropWithoutCost : Moment → Type 0
IsDropWithoutCost moment =
    (value : ℕ) → moment.event.what ≡ octet value → IsSome (cause_in moment.answer) →
    may_send (after moment.event moment.card).card ≡ may_send moment.card.card

abbrev pub AreDropsWithoutCost : OctetCard → List Event → Type 0
AreDropsWithoutCost m events = All IsDropWithoutCost (moments m events)

-- And the cause is all that is told, and nothing changes but the octets received at its line.
abbrev pub with_received : ℕ → ℕ → OctetCard → OctetCard
with_received number value m =
    let p = port_at number m in
    record m { ports = set m.ports number (record p { received = p.received ++ value ∷ [] }) }

abbrev pub IsDropWithoutEffect : Moment → Type 0
IsDropWithoutEffect moment =
    (value : ℕ) (cause : Cause) → moment.event.what ≡ octet value → cause_in moment.answer ≡ Some cause →
    (moment.answer ≡ told (dropped cause)) × (after moment.event moment.card ≡ with_received moment.event.line value moment.card)

abbrev pub AreDropsWithoutEffect : OctetCard → List Event → Type 0
AreDropsWithoutEffect m events = All IsDropWithoutEffect (moments m events)
