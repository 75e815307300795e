-- By how much each event raises the number of frames still to be sent. The window k is the greater of both services.
use Rattle.std.specs.Prelude.{◌≡◌, ℕ, ◌+◌, ◌*◌, ◌≤◌, List, [], ◌∷◌, All}
use Rattle.model_bits.specs.Stream as stream
use Rattle.lapd_frame.specs.declared.timers.Timer.{Timer}
use Rattle.model_line.specs.Event.{hears, expiry, request, next}
use Rattle.model_line.specs.Request.{Request}
use Rattle.model_card.specs.Card.{Card}
use Rattle.model_card.specs.Counts.{may_send, sent, heard, rejected}
use Rattle.model_card.specs.Event.{Event, at}
use Rattle.model_card.specs.Machine.{after, answer}
use Rattle.model_card.specs.Promises.{IsAmortised}
use Rattle.model_card.specs.Run.{Moment, moments}

-- What `IsAmortised` says of a list it says of each event alone. A frame that is heard raises it by two (or by so many as a
-- terminal may have TEIs, if these are more), and by k more if it is an REJ with a valid N(R). An expiry raises it by k + 1 if the
-- timer was running, and a request by one if it is accepted. Nothing else raises it. A call that gives a frame lowers it by one, or
-- by two if the frame makes an acknowledgement needless. Any other leaves it as it is.
pub record IsPriced (m : Moment) : Type 0 where
  pub rises : IsAmortised m.card (m.event ∷ [])
  pub reject : rejected (m ∷ []) ≤ heard (m ∷ [])
  pub falls : m.event.what ≡ next → may_send m.card ≤ may_send (after m.event m.card) + 2 * sent (m ∷ [])

abbrev pub ArePriced : Card → List Event → Type 0
ArePriced m events = All IsPriced (moments m events)

-- What is heard, an expiry, a request and a call for the next frame at a line of a card.
abbrev pub IsPricedAt : Card → Event → Type 0
IsPricedAt m e = IsPriced (record { card = m; event = e; answer = answer e m })

abbrev pub RisesByHeard : ℕ → stream.Event → Card → Type 0
RisesByHeard number e m = IsPricedAt m (at number (hears e))

abbrev pub RisesByExpiry : ℕ → Timer → Card → Type 0
RisesByExpiry number timer m = IsPricedAt m (at number (expiry timer))

abbrev pub RisesByRequest : ℕ → Request → Card → Type 0
RisesByRequest number r m = IsPricedAt m (at number (request r))

abbrev pub FallsByNext : ℕ → Card → Type 0
FallsByNext number m = IsPricedAt m (at number next)
