-- What is dropped changes nothing but the octets received, and costs nothing.
use Rattle.model_card.proofs.OfPorts.Vocabulary.{arith, ◌≡◌, ℕ, List, [], ◌∷◌, Option, None, Some, option_map, option_map_or, refl, ap, none-some, All, All-nil, All-cons, All-head, Cause, Card, DropsAreWithoutEffect, Event, Moment, OctetCard, after, answer, answer_of, answer_to, card_after, meant, moments, told, may_send}
use Rattle.model_bits.specs.Stream as stream
use Rattle.model_line.specs.Event.{dropped}
use Rattle.model_line.specs.Event as line
use Rattle.model_line.specs.Laws as line_laws
use Rattle.model_line.proofs.Drops.{named_cause}
use Rattle.model_card.specs.Drops as frame_drops
use Rattle.model_card.specs.Event as frames
use Rattle.model_card.specs.Machine as machine
unfoldable use Rattle.model_card.specs.Run.{moments as frame_moments}
use Rattle.model_card.proofs.Drops.{drops_change_nothing}
use Rattle.model_card.proofs.EachMoment.{moment_of}
use Rattle.model_card.specs.ports.Drops.{cause_in, IsDropWithoutCost, IsDropWithoutEffect}

-- what holds of every card and event holds in every moment of a run
pub every_moment : (P : Moment → Type 0) → ((m : OctetCard) (e : Event) → P (record { card = m; event = e; answer = answer e m }))
    → (m : OctetCard) (events : List Event) → All P (moments m events)
unfolding moments
every_moment P one m [] = All-nil P
every_moment P one m (e ∷ events) = grind (arith, All-cons, (every_moment P one (after e m) events))

-- at the card of frames
heard_drops : (card : Card) (f : frames.Event) → frame_drops.IsDropWithoutEffect (moment_of card f)
unfolding frame_moments
heard_drops card f = All-head frame_drops.IsDropWithoutEffect (moment_of card f) [] (drops_change_nothing card (f ∷ []))

-- an answer names a cause where that to what was meant does
told_cause : (a : line.Answer) (cause : Cause) → cause_in (answer_of a) ≡ Some cause → line_laws.cause_in a ≡ Some cause
told_cause a cause e = grind (arith, none-some)

octet_drops : (card : Card) (number : ℕ) (o : Option stream.Event) (cause : Cause)
    → let f = option_map (frames.at number) (option_map line.hears o) in
    let a = option_map_or answer_of (option_map (answer_to card) f) (told line.nothing) in
    cause_in a ≡ Some cause → (a ≡ told (dropped cause)) × (option_map_or (card_after card) f card ≡ card)
octet_drops card number None cause e = absurd (none-some cause e)
octet_drops card number (Some event) cause e =
    let f = frames.at number (line.hears event) in
    let left = heard_drops card f event cause refl (told_cause (machine.answer f card) cause e) in
    (ap answer_of left.0, left.1)

drop_is_without_effect : (m : OctetCard) (e : Event) → IsDropWithoutEffect (record { card = m; event = e; answer = answer e m })
unfolding after answer meant
drop_is_without_effect m e value cause is = grind (arith, option_map, octet_drops)

-- and so what may be sent stays
drop_is_without_cost : (m : OctetCard) (e : Event) → IsDropWithoutCost (record { card = m; event = e; answer = answer e m })
drop_is_without_cost m e value is h =
    let some = named_cause (cause_in (answer e m)) h in
    ap (λ (x : OctetCard). may_send x.card) (drop_is_without_effect m e value some.0 is some.1).1

pub drops_are_without_effect : DropsAreWithoutEffect
drops_are_without_effect = record {
  cost = λ m events s within. every_moment IsDropWithoutCost drop_is_without_cost m events;
  effect = every_moment IsDropWithoutEffect drop_is_without_effect;
}
