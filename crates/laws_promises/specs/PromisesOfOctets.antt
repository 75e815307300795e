-- What is promised of every list of events at the lines of a card of octets, of its octets. What is promised of frames holds of
-- what the events mean (`Promises`).
use Rattle.std.specs.Prelude.{◌≡◌, ℕ, nat_lt, Bool, ◌&&◌, List, length, All, is_some}
use Rattle.lapd_frame.specs.declared.timers.Order.{Order}
use Rattle.model_line.specs.Event.{given_in, next}
use Rattle.model_card.specs.Event as frames
use Rattle.model_card.specs.ports.Card.{OctetCard, port_at, answer_to}
use Rattle.model_card.specs.ports.Event.{Event}
use Rattle.model_card.specs.ports.Port.{pulled, left_of}
use Rattle.model_card.specs.ports.Run.{Moment, moments}

-- Whether a frame waits at the line: called for its next frame, the card of frames gives one.
abbrev pub waits : Moment → Bool
waits m = is_some (given_in (answer_to m.card.card (frames.at m.event.line next)))

-- An answer to a pull says that a frame was begun exactly if fewer than eight bits were left of the line before, and a frame
-- waited.
abbrev pub IsBegunIn : Moment → Type 0
IsBegunIn m = (value : ℕ) (begun : Bool) (orders : List Order) →
    m.answer ≡ pulled value begun orders → begun ≡ (nat_lt (length (left_of (port_at m.event.line m.card))) 8 && waits m)

-- From a card on, in each moment of the list.
pub record PromisesOfOctets (m : OctetCard) (events : List Event) : Type 0 where
  -- A pull says that a frame was begun exactly if fewer than eight bits were left of what was on the line before, and a frame
  -- waited. So its first bit goes with this octet, right after these bits, as `frames_go_at_once` of `model_card::ports` has it
  -- (clause 2.2).
  pub begun_is_told : All IsBegunIn (moments m events)
