-- Two cards on one wire: a line of one faces a line of the other, and each receives what the other sends.
use Rattle.std.specs.Prelude.{◌≡◌, ℕ, ◌+◌, ◌==◌, Bool, true, false, ◌&&◌, not, List, [], ◌∷◌, ◌++◌, length, drop, None, Some, is_some, if◌then◌else◌}
use Rattle.lapd_frame.specs.declared.timers.Timer.{Timer}
use Rattle.model_line.specs.Came.{came}
use Rattle.model_line.specs.Event.{Event, hears, expiry, request, next, LineTold, Answer, told, gave}
use Rattle.model_line.specs.Request.{Request, Data}
use Rattle.model_card.specs.Card.{Card}
use Rattle.model_card.specs.Event.{at}
use Rattle.model_card.specs.Machine.{after, answer}

-- An endpoint of the wire: a card, and its line that is on the wire; its frames in transit, which it sent and the other end has
-- not received yet, the oldest first; the data that its layer 3 was granted to send; and what its layer 3 was told.
pub record Endpoint : Type 0 where
  pub card : Card
  pub line : ℕ
  pub way : List (List ℕ)
  pub granted : List (List ℕ)
  pub told : List LineTold

-- What layer 3 is told by an answer: all but orders for timers and how many contents are given up, and nothing where it tells
-- nothing else.
abbrev pub tells_nothing : LineTold → Bool
tells_nothing t = length t.notes == 0 && not (is_some t.contents) && not (is_some t.cause) && t.lost == 0

abbrev pub without_orders : LineTold → List LineTold
without_orders t = if tells_nothing t then [] else record t { orders = []; given_up = 0; given_up_16 = 0 } ∷ []

abbrev pub told_by : Answer → List LineTold
told_by (told t) = without_orders t
told_by other = []

-- The frame that a call for the next frame gives.
abbrev pub frames_by : Answer → List (List ℕ)
frames_by (gave (Some frame)) = frame.octets ∷ []
frames_by other = []

-- The contents of a request for data, where it is granted.
abbrev pub contents_requested : Request → List (List ℕ)
contents_requested (Data service tei contents) = contents ∷ []
contents_requested other = []

abbrev pub contents_in : Event → List (List ℕ)
contents_in (request r) = contents_requested r
contents_in other = []

abbrev pub unless_refused : Answer → List (List ℕ) → List (List ℕ)
unless_refused (told t) contents = contents
unless_refused other contents = []

-- Something happens at an endpoint: an event at its line, which its card answers.
abbrev pub answered : Event → Endpoint → Answer
answered e s = answer (at s.line e) s.card

abbrev pub happens : Event → Endpoint → Endpoint
happens e s = record {
  card = after (at s.line e) s.card;
  line = s.line;
  way = s.way ++ frames_by (answered e s);
  granted = s.granted ++ unless_refused (answered e s) (contents_in e);
  told = s.told ++ told_by (answered e s);
}

abbrev pub frame_comes : List ℕ → Endpoint → Endpoint
frame_comes octets s = happens (hears (came s.card.config.n201 octets)) s

pub record Wire : Type 0 where
  pub near : Endpoint
  pub far : Endpoint

-- A step at an endpoint: layer 3 or management requests something, a timer expires, the card sends its next frame, it receives
-- the oldest frame in transit to it, or the oldest of its own frames in transit is lost.
pub data Step : Type 0 where
  requests : Request → Step
  expires : Timer → Step
  sends : Step
  receives : Step
  loses : Step

pub data StepAt : Type 0 where
  at_near : Step → StepAt
  at_far : Step → StepAt

abbrev pub with_first_of : List (List ℕ) → Endpoint → Endpoint
with_first_of [] s = s
with_first_of (octets ∷ more) s = frame_comes octets s

abbrev pub without_first : Endpoint → Endpoint
without_first s = record s { way = drop 1 s.way }

abbrev pub acting : Step → Wire → Wire
acting (requests r) w = record w { near = happens (request r) w.near }
acting (expires timer) w = record w { near = happens (expiry timer) w.near }
acting sends w = record w { near = happens next w.near }
acting receives w = record { near = with_first_of w.far.way w.near; far = without_first w.far }
acting loses w = record w { near = without_first w.near }

abbrev pub turned : Wire → Wire
turned w = record { near = w.far; far = w.near }

abbrev pub doing : StepAt → Wire → Wire
doing (at_near act) w = acting act w
doing (at_far act) w = turned (acting act (turned w))

unfoldable pub doing_all : List StepAt → Wire → Wire
doing_all [] w = w
doing_all (d ∷ ds) w = doing_all ds (doing d w)

-- A turn is that an endpoint sends a frame, or receives one. So many of the steps are turns.
abbrev pub is_any : List (List ℕ) → Bool
is_any [] = false
is_any (octets ∷ more) = true

abbrev pub is_turn_of : Step → Wire → Bool
is_turn_of sends w = is_any (frames_by (answered next w.near))
is_turn_of receives w = is_any w.far.way
is_turn_of other w = false

abbrev pub is_turn : StepAt → Wire → Bool
is_turn (at_near act) w = is_turn_of act w
is_turn (at_far act) w = is_turn_of act (turned w)

unfoldable pub turns : List StepAt → Wire → ℕ
turns [] w = 0
turns (d ∷ ds) w = (if is_turn d w then 1 else 0) + turns ds (doing d w)

-- No turn is left: neither endpoint has a frame to send, and none is in transit.
pub record IsStill (w : Wire) : Type 0 where
  pub near : answered next w.near ≡ gave None
  pub far : answered next w.far ≡ gave None
  pub near_way : w.near.way ≡ []
  pub far_way : w.far.way ≡ []
