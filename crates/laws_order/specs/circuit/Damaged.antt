-- Two cards of octets on a circuit on which octets are damaged, lost or added: what an end hears need not be what the other's
-- pulls gave.
use Rattle.std.specs.Prelude.{◌≡◌, ◌≢◌, ◌<◌, ℕ, List, [], ◌∷◌, ◌++◌, length, drop, flat_map, slice_get, Option, None, Some, option_to_list}
use Rattle.lapd_frame.specs.declared.services.Service.{Service}
use Rattle.model_bits.specs.Stream as stream
use Rattle.model_line.specs.declared.config.Config.{Config}
use Rattle.model_line.specs.Event as line
use Rattle.model_card.specs.Event as frames
use Rattle.model_card.specs.ports.Card.{OctetCard, port_at, after, said, answer_to}
use Rattle.model_card.specs.ports.Codec.{octet_come}
use Rattle.model_card.specs.ports.Event.{Event, at}
use Rattle.model_card.specs.ports.Port as port
use Rattle.laws_trace.specs.Trace.{Seen, heard, seen}
use Rattle.laws_wire.specs.Wire.{Endpoint as FrameEndpoint, Wire, frames_by}
use Rattle.laws_order.specs.AnySteps.{IsNotOf}
use Rattle.laws_order.specs.Order.{Past, known, FaceInStep, IsToldInOrder, kept_by}

-- A card at one end, which is at one of its lines; the frames that its pulls began, but those that were given up as lost or
-- that came whole to the other end, the oldest first; and all octets that came at its line.
pub record Endpoint : Type 0 where
  pub card : OctetCard
  pub line : ℕ
  pub way : List (List ℕ)
  pub came : List ℕ

-- At first its port has received those, and each line of the card has a port, as of every card (`cards_stay_sound` of
-- `model_card::ports`).
pub record HasReceived (s : Endpoint) : Type 0 where
  pub received : (port_at s.line s.card).received ≡ s.came
  pub ports : length s.card.ports ≡ s.card.card.config.lines

pub record Noisy : Type 0 where
  pub near : Endpoint
  pub far : Endpoint

-- What can happen at an end: any event at its line, so that any octet comes, whatever the other's pulls gave; an octet with which
-- a frame of the other end has come whole; any event at another line; or the first frame on its way is lost.
pub data Step : Type 0 where
  happens : port.Event → Step
  completes : ℕ → Step
  elsewhere : Event → Step
  loses : Step

-- What stands in the octets that came with one more, and did not stand in those before it, if anything (Q.921 clauses 2.2 to 2.10).
abbrev pub completed : ℕ → List ℕ → ℕ → Option stream.Event
completed n201 came value = slice_get (stream.heard_in n201 (came ++ value ∷ [])) (length (stream.heard_in n201 came))

abbrev pub stands_with : port.Event → Endpoint → Option stream.Event
stands_with (port.octet value) s = completed s.card.card.config.n201 s.came value
stands_with other s = None

-- A frame of the link that stands whole in the octets that came was pulled whole: it is the first on the other's way, and one of
-- those octets completes it. No more is assumed of what comes.
abbrev pub IsOther : Service → ℕ → Config → Option stream.Event → Type 0
IsOther service tei c (Some e) = IsNotOf service tei c e
IsOther service tei c None = Unit {0}

abbrev pub IsFirst : Option stream.Event → List (List ℕ) → Type 0
IsFirst (Some (stream.frame octets)) way = (rest : List (List ℕ)) × (way ≡ octets ∷ rest)
IsFirst other way = ⊥

abbrev pub IsElsewhere : Event → Endpoint → Type 0
IsElsewhere e s = (e.line < s.card.card.config.lines) × (e.line ≢ s.line)

-- of an end that faces one with this on its way
abbrev pub IsPossibleAt : Service → ℕ → Step → Endpoint → List (List ℕ) → Type 0
IsPossibleAt service tei (happens what) s way = IsOther service tei s.card.card.config (stands_with what s)
IsPossibleAt service tei (completes value) s way = IsFirst (stands_with (port.octet value) s) way
IsPossibleAt service tei (elsewhere e) s way = IsElsewhere e s
IsPossibleAt service tei loses s way = Unit {0}

-- What becomes of the end: a frame that a pull begins is on its way; and of what is on the other's way: what has come is not any more.
abbrev pub with_event : port.Event → Endpoint → Endpoint
with_event what s = record s {
  card = after (at s.line what) s.card;
  way = s.way ++ flat_map frames_by (option_to_list (said (at s.line what) s.card));
  came = s.came ++ octet_come what;
}

abbrev pub with_step : Step → Endpoint → Endpoint
with_step (happens what) s = with_event what s
with_step (completes value) s = with_event (port.octet value) s
with_step (elsewhere e) s = record s { card = after e s.card }
with_step loses s = record s { way = drop 1 s.way }

abbrev pub left_by : Step → List (List ℕ) → List (List ℕ)
left_by (completes value) way = drop 1 way
left_by other way = way

abbrev pub acting : Step → Noisy → Noisy
acting act w = record { near = with_step act w.near; far = record w.far { way = left_by act w.far.way } }

abbrev pub turned : Noisy → Noisy
turned w = record { near = w.far; far = w.near }

-- The same at either end, and one after the other.
pub data StepAt : Type 0 where
  at_near : Step → StepAt
  at_far : Step → StepAt

abbrev pub IsPossible : Service → ℕ → StepAt → Noisy → Type 0
IsPossible service tei (at_near act) w = IsPossibleAt service tei act w.near w.far.way
IsPossible service tei (at_far act) w = IsPossibleAt service tei act w.far w.near.way

abbrev pub doing : StepAt → Noisy → Noisy
doing (at_near act) w = acting act w
doing (at_far act) w = turned (acting act (turned w))

unfoldable pub doing_all : List StepAt → Noisy → Noisy
doing_all [] w = w
doing_all (h ∷ hs) w = doing_all hs (doing h w)

unfoldable pub ArePossible : Service → ℕ → List StepAt → Noisy → Type 0
ArePossible service tei [] w = Unit {0}
ArePossible service tei (h ∷ hs) w = IsPossible service tei h w × ArePossible service tei hs (doing h w)

-- What is seen at an end, as `Trace` of `laws_trace` has it: what its events mean to the card of frames inside, with what that answers.
abbrev pub meaning : port.Event → Endpoint → Option line.Event
meaning what s = port.meant s.card.card.config.n201 what (port_at s.line s.card)

abbrev pub seen_of : Endpoint → line.Event → List Seen
seen_of s e = seen e (answer_to s.card.card (frames.at s.line e))

abbrev pub seen_by : Step → Endpoint → List Seen
seen_by (happens what) s = flat_map (seen_of s) (option_to_list (meaning what s))
seen_by (completes value) s = flat_map (seen_of s) (option_to_list (meaning (port.octet value) s))
seen_by other s = []

abbrev pub seen_at_near : StepAt → Noisy → List Seen
seen_at_near (at_near act) w = seen_by act w.near
seen_at_near (at_far act) w = []

abbrev pub seen_at_far : StepAt → Noisy → List Seen
seen_at_far (at_near act) w = []
seen_at_far (at_far act) w = seen_by act w.far

unfoldable pub seen_near : List StepAt → Noisy → List Seen
seen_near [] w = []
seen_near (h ∷ hs) w = seen_at_near h w ++ seen_near hs (doing h w)

unfoldable pub seen_far : List StepAt → Noisy → List Seen
seen_far [] w = []
seen_far (h ∷ hs) w = seen_at_far h w ++ seen_far hs (doing h w)

-- The two ends as ends of a wire of frames.
abbrev pub as_frame_endpoint : Endpoint → FrameEndpoint
as_frame_endpoint s = record { card = s.card.card; line = s.line; way = s.way; granted = []; told = [] }

abbrev pub as_wire : Noisy → Wire
as_wire w = record { near = as_frame_endpoint w.near; far = as_frame_endpoint w.far }

-- What the card of frames at an end heard, among that.
abbrev pub heard_in_seen : Seen → List stream.Event
heard_in_seen (heard e) = e ∷ []
heard_in_seen other = []

abbrev pub heard_among : List Seen → List stream.Event
heard_among t = flat_map heard_in_seen t

-- It heard exactly what stands in the octets that came, beyond what stood in those that had come at first.
abbrev pub HearsWhatCame : Endpoint → Endpoint → List Seen → Type 0
HearsWhatCame before after here =
    let n201 = before.card.card.config.n201 in stream.heard_in n201 after.came ≡ stream.heard_in n201 before.came ++ heard_among here

-- What is told at each is in order (`Order` of `laws_order`), so long as every frame of the link that stands whole in what comes was
-- pulled whole, up to where its own establishment ends or is renewed; and each heard what came. The past of an end is of the card
-- of frames inside.
abbrev pub DeliveredThoughDamaged : Type 0
DeliveredThoughDamaged =
    (service : Service) (tei : ℕ) (w : Noisy) (p : Past (as_frame_endpoint w.near)) (q : Past (as_frame_endpoint w.far)) (hs : List StepAt) →
    let n = known service tei (as_frame_endpoint w.near) p in let m = known service tei (as_frame_endpoint w.far) q in
    FaceInStep service tei (as_wire w) n m → HasReceived w.near → HasReceived w.far → ArePossible service tei hs w →
    let near = seen_near hs w in let far = seen_far hs w in let v = doing_all hs w in
    IsToldInOrder service tei (kept_by m n) far near × IsToldInOrder service tei (kept_by n m) near far
    × HearsWhatCame w.near v.near near × HearsWhatCame w.far v.far far
