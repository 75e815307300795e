-- The answer to a pull says that a frame was begun exactly where fewer than eight bits were left, and a frame waited.
use Rattle.laws_promises.proofs.Vocabulary.{arith, ◌≡◌, ℕ, true, List, [], ◌∷◌, length, All, option_map, All-nil, All-cons, Order, OctetCard, Port, left_of, pulled, asked_at, said_is}
use Rattle.std.specs.Prelude.{nat_lt, Bool, false, ◌&&◌, Some, None, is_some, if◌then◌else◌, refl}
use Rattle.model_line.specs.Event as line
use Rattle.model_line.specs.Event.{given_in}
unfoldable use Rattle.model_card.specs.ports.Card.{meant, after, answer}
use Rattle.model_card.specs.ports.Event.{Event}
use Rattle.model_card.specs.ports.Port as port
unfoldable use Rattle.model_card.specs.ports.Run.{moments}
use Rattle.laws_promises.specs.PromisesOfOctets.{IsBegunIn}

-- whether the line is called for a frame, and gives one
begun_if : (few : Bool) (ask : line.Event → line.Answer)
    → is_some (port.frame_begun (option_map ask (if few then Some line.next else None))) ≡ (few && is_some (given_in (ask line.next)))
begun_if true ask = refl
begun_if false ask = refl

begun_as_left : (n201 : ℕ) (e : port.Event) (p : Port) (ask : line.Event → line.Answer) (value : ℕ) (begun : Bool) (orders : List Order)
    → port.answer e (option_map ask (port.meant n201 e p)) p ≡ pulled value begun orders
    → begun ≡ (nat_lt (length (left_of p)) 8 && is_some (given_in (ask line.next)))
begun_as_left n201 e p ask value begun orders is = grind (arith, begun_if)

-- at a card
at-card : (m : OctetCard) (e : Event) → IsBegunIn (record { card = m; event = e; answer = answer e m })
unfolding meant after answer
at-card m e value begun orders is = grind (arith, begun_as_left, asked_at, said_is)

pub begun-told : (m : OctetCard) (events : List Event) → All IsBegunIn (moments m events)
unfolding moments
begun-told m [] = All-nil IsBegunIn
begun-told m (e ∷ events) =
    All-cons IsBegunIn (record { card = m; event = e; answer = answer e m }) (moments (after e m) events) (at-card m e) (begun-told (after e m) events)
