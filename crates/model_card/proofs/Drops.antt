-- What is dropped changes nothing, and costs nothing.
use Rattle.model_card.proofs.Vocabulary.{arith, ◌≡◌, ℕ, Some, IsSome, sym, subst, none-some, set-get_or, Cause, hears, told, dropped, cause_in, heard_leaves, named_cause, Card, may_send, IsDropWithoutCost, IsDropWithoutEffect, at, DropsCostNothing, DropsChangeNothing, after, answer}
use Rattle.model_bits.specs.Stream as stream
use Rattle.model_card.proofs.EachMoment.{every_moment}
use Rattle.model_card.proofs.Steps.{by_room}

-- what is dropped at a line is dropped at the card
drop_changes_nothing : (card : Card) (number : ℕ) (what : stream.Event) (cause : Cause)
    → let e = at number (hears what) in
    cause_in (answer e card) ≡ Some cause → (answer e card ≡ told (dropped cause)) × (after e card ≡ card)
drop_changes_nothing card number what cause = grind (arith, by_room, none-some, heard_leaves, set-get_or)

pub drops_change_nothing : DropsChangeNothing
drops_change_nothing =
    every_moment IsDropWithoutEffect (λ card e what cause is.
    subst (λ what. cause_in (answer (at e.line what) card) ≡ Some cause
    → (answer (at e.line what) card ≡ told (dropped cause)) × (after (at e.line what) card ≡ card))
    (sym is) (drop_changes_nothing card e.line what cause))

-- and so what may be sent stays
drop_costs_nothing : (card : Card) (number : ℕ) (what : stream.Event)
    → let e = at number (hears what) in
    IsSome (cause_in (answer e card)) → may_send (after e card) ≡ may_send card
drop_costs_nothing card number what h = grind (arith, named_cause, drop_changes_nothing)

pub drops_cost_nothing : DropsCostNothing
drops_cost_nothing card events s within =
    every_moment IsDropWithoutCost (λ card e what is.
    subst (λ what. IsSome (cause_in (answer (at e.line what) card)) → may_send (after (at e.line what) card) ≡ may_send card)
    (sym is) (drop_costs_nothing card e.line what)) card events
