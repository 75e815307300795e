-- Two cards of octets on one circuit: a line of one faces a line of the other, and each hears the octets that the other's
-- pulls give.
use Rattle.std.specs.Prelude.{ℕ, List, [], ◌∷◌, ◌++◌, drop}
use Rattle.model_line.specs.Event.{LineTold}
use Rattle.model_line.specs.Request.{Request}
use Rattle.model_card.specs.ports.Card.{OctetCard, port_at, after, answer}
use Rattle.model_card.specs.ports.Codec.{octet_pulled}
use Rattle.model_card.specs.ports.Event.{at}
use Rattle.model_card.specs.ports.Port.{Port, Event, octet, expiry, request, pull, Answer, told, refused, pulled}
use Rattle.laws_wire.specs.Wire.{without_orders, contents_requested}

-- An endpoint of the circuit: a card, and its line that is on the circuit; its octets in transit, which its pulls gave and the other
-- end has not received yet, the oldest first; the data that its layer 3 was granted to send; and what its layer 3 was told.
pub record Endpoint : Type 0 where
  pub card : OctetCard
  pub line : ℕ
  pub way : List ℕ
  pub granted : List (List ℕ)
  pub told : List LineTold

abbrev pub port_of : Endpoint → Port
port_of s = port_at s.line s.card

-- What layer 3 is told by an answer, and which contents are granted by it.
abbrev pub told_by : Answer → List LineTold
told_by (told t) = without_orders t
told_by (refused why) = []
told_by (pulled value begun orders) = []

abbrev pub unless_refused : Answer → List (List ℕ) → List (List ℕ)
unless_refused (told t) contents = contents
unless_refused (refused why) contents = []
unless_refused (pulled value begun orders) contents = []

abbrev pub contents_in : Event → List (List ℕ)
contents_in (octet value) = []
contents_in (expiry timer) = []
contents_in (request r) = contents_requested r
contents_in pull = []

-- Something happens at an endpoint: an event at its line, which its card answers.
abbrev pub answered : Event → Endpoint → Answer
answered e s = answer (at s.line e) s.card

abbrev pub happens : Event → Endpoint → Endpoint
happens e s = record {
  card = after (at s.line e) s.card;
  line = s.line;
  way = s.way ++ octet_pulled (answered e s);
  granted = s.granted ++ unless_refused (answered e s) (contents_in e);
  told = s.told ++ told_by (answered e s);
}

pub record Circuit : Type 0 where
  pub near : Endpoint
  pub far : Endpoint

-- A step at an endpoint: layer 3 or management requests something, the next octet is pulled and sent, or the oldest octet in
-- transit to it is received. No octet is lost, and no timer expires.
pub data Step : Type 0 where
  requests : Request → Step
  sends : Step
  receives : Step

pub data StepAt : Type 0 where
  at_near : Step → StepAt
  at_far : Step → StepAt

abbrev pub with_first_of : List ℕ → Endpoint → Endpoint
with_first_of [] s = s
with_first_of (value ∷ more) s = happens (octet value) s

abbrev pub without_first : Endpoint → Endpoint
without_first s = record s { way = drop 1 s.way }

abbrev pub acting : Step → Circuit → Circuit
acting (requests r) w = record w { near = happens (request r) w.near }
acting sends w = record w { near = happens pull w.near }
acting receives w = record { near = with_first_of w.far.way w.near; far = without_first w.far }

abbrev pub turned : Circuit → Circuit
turned w = record { near = w.far; far = w.near }

abbrev pub doing : StepAt → Circuit → Circuit
doing (at_near act) w = acting act w
doing (at_far act) w = turned (acting act (turned w))

unfoldable pub doing_all : List StepAt → Circuit → Circuit
doing_all [] w = w
doing_all (d ∷ ds) w = doing_all ds (doing d w)
