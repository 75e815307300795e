-- What is promised of every list of events at the lines of a card, beside the clauses of `drive` and what the laws of the trace of
-- a line say (`laws_trace`). Of a card of octets it is promised of what its octets and pulls mean to the card of frames inside
-- (`octets_are_a_codec` of `model_card::ports`).
use Rattle.std.specs.Prelude.{ℕ, List, take}
use Rattle.model_card.specs.Card.{Card}
use Rattle.model_card.specs.Event.{Event}
use Rattle.laws_line.specs.card.Brief.{OthersStay}
use Rattle.laws_line.specs.card.PromisesOfTakes.{Wherever, CallsComeToAnEnd}

-- From a card on: those of a whole list hold in each of its moments; and those with a count hold after that many of
-- its events, so after each of them.
pub record Promises (m : Card) (events : List Event) : Type 0 where
  -- In every moment all lines stay as they are but that of the event; and of its links all but one, except those of a TEI that
  -- comes or leaves (profile).
  pub others_stay : OthersStay m events
  -- Once the next frame of a line was called for as often as the configuration says, and nothing else happened there, the next
  -- call gives none: so by `teis_are_managed`, `units_go_out` and `what_is_given_is_due` of `laws_trace` nothing waits on it but
  -- I-frames behind a closed window, behind a terminal that is busy, or of a link that is not in state 7. These are 200 calls on a
  -- line with eight terminals, windows of 7, 4 unit data and 4 control frames (clauses 5.6.1 and 5.6.5, and profile).
  pub calls_come_to_an_end : (count : ℕ) → Wherever CallsComeToAnEnd m (take count events)
