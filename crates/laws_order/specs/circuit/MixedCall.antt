-- A call between a card of frames and one of octets is a call between two cards of frames.
use Rattle.std.specs.Prelude.{◌≡◌, ℕ, List, [], ◌∷◌, ◌++◌, drop, flat_map, All, Option, None, Some, option_to_list}
use Rattle.lapd_frame.specs.declared.services.Service.{Service}
use Rattle.model_bits.specs.Stream as stream
use Rattle.model_line.specs.Event as line
use Rattle.model_line.specs.declared.config.Config.{Config}
use Rattle.model_line.specs.Request.{Request, Establish}
use Rattle.model_card.specs.ports.Card.{said}
use Rattle.model_card.specs.ports.Event.{at}
use Rattle.model_card.specs.ports.Port as port
use Rattle.laws_wire.specs.Call as call
use Rattle.laws_wire.specs.Call.{IsCallOf, IsCall, CanCall, calling, both_call, ComesThrough}
use Rattle.laws_wire.specs.Wire as frames
use Rattle.laws_wire.specs.Wire.{Endpoint, Wire, frames_by}
use Rattle.laws_order.specs.circuit.Circuit.{Endpoint as OctetEndpoint, port_of, happens}
use Rattle.laws_order.specs.circuit.Damaged.{IsFirst, completed}
use Rattle.laws_order.specs.circuit.Through.{assigned}

-- One end is a card of frames, with the frames that it gave and that have not come yet; the other one of octets; and back on their way
-- are the frames that its pulls began and that the first has not taken yet.
pub record Pair : Type 0 where
  pub near : Endpoint
  pub far : OctetEndpoint
  pub back : List (List ℕ)

abbrev pub as_wire : Pair → Wire
as_wire w = record {
  near = w.near;
  far = record { card = w.far.card.card; line = w.far.line; way = w.back; granted = w.far.granted; told = w.far.told };
}

-- What is done: at the card of frames as on a wire; at the other layer 3 asks for something, an octet is pulled, or one comes.
pub data StepAt : Type 0 where
  by_frames : frames.Step → StepAt
  requests : Request → StepAt
  sends : StepAt
  receives : ℕ → StepAt

-- The line and the controller are without fault: with an octet with which anything stands in those received, the first frame on
-- its way does, whole.
abbrev pub brings : ℕ → OctetEndpoint → Option stream.Event
brings value s = completed s.card.card.config.n201 (port_of s).received value

abbrev pub IsWhole : Option stream.Event → List (List ℕ) → Type 0
IsWhole None way = Unit {0}
IsWhole (Some e) way = IsFirst (Some e) way

abbrev pub left_by : Option stream.Event → List (List ℕ) → List (List ℕ)
left_by None way = way
left_by (Some e) way = drop 1 way

abbrev pub doing : StepAt → Pair → Pair
doing (by_frames act) w = let v = frames.acting act (as_wire w) in record { near = v.near; far = w.far; back = v.far.way }
doing (requests r) w = record w { far = happens (port.request r) w.far }
doing sends w =
    let begun = option_to_list (said (at w.far.line port.pull) w.far.card) in
    record w { far = happens port.pull w.far; back = w.back ++ flat_map frames_by begun }
doing (receives value) w =
    let left = left_by (brings value w.far) w.near.way in
    record { near = record w.near { way = left }; far = happens (port.octet value) w.far; back = w.back }

abbrev pub IsTalk : Service → ℕ → StepAt → Pair → Type 0
IsTalk service tei (by_frames act) w = IsCallOf service tei act
IsTalk service tei (requests r) w = IsCallOf service tei (frames.requests r)
IsTalk service tei sends w = Unit {0}
IsTalk service tei (receives value) w = IsWhole (brings value w.far) w.near.way

unfoldable pub doing_all : List StepAt → Pair → Pair
doing_all [] w = w
doing_all (d ∷ ds) w = doing_all ds (doing d w)

unfoldable pub AreTalk : Service → ℕ → List StepAt → Pair → Type 0
AreTalk service tei [] w = Unit {0}
AreTalk service tei (d ∷ ds) w = IsTalk service tei d w × AreTalk service tei ds (doing d w)

-- It is what is done in a call between two cards of frames, and leads where that leads: to what was granted and told, and what is on its
-- way. So whatever is proved of such a call, as that it comes through (`Call` of `laws_wire`), holds here, whichever end is the near one.
abbrev pub CallsAreOfFrames : Type 0
CallsAreOfFrames =
    (service : Service) (tei : ℕ) (w : Pair) (ds : List StepAt) → AreTalk service tei ds w →
    (es : List frames.StepAt) × All (IsCall service tei) es × (frames.doing_all es (as_wire w) ≡ as_wire (doing_all ds w))

-- Two cards that have just begun, with the TEI assigned: layer 3 of either asks for the establishment.
abbrev pub begun_by_frames : Service → ℕ → Config → ℕ → Config → ℕ → Pair
begun_by_frames service tei c number d other =
    let calls = frames.happens (line.request (Establish service tei)) (call.assigned c number tei) in
    record { near = calls; far = assigned d other tei; back = [] }

abbrev pub begun_by_octets : Service → ℕ → Config → ℕ → Config → ℕ → Pair
begun_by_octets service tei c number d other =
    let calls = happens (port.request (Establish service tei)) (assigned d other tei) in
    record { near = call.assigned c number tei; far = calls; back = [] }

-- The call comes through: it is one of two cards of frames, from where such a call begins, and so is what layer 3 of each is told.
abbrev pub IsThrough : Service → ℕ → Wire → Wire → Type 0
IsThrough service tei begun last =
    (es : List frames.StepAt) × All (IsCall service tei) es × (frames.doing_all es begun ≡ last)
    × ComesThrough service tei (frames.turns es begun) (both_call es begun) last

abbrev pub CallsComeThroughBetweenKinds : Type 0
CallsComeThroughBetweenKinds =
    (service : Service) (c d : Config) (number other tei : ℕ) (ds : List StepAt) → CanCall c number d other tei →
    (let w = begun_by_frames service tei c number d other in
    AreTalk service tei ds w → IsThrough service tei (calling service tei c number d other) (as_wire (doing_all ds w)))
    × (let w = begun_by_octets service tei c number d other in
    AreTalk service tei ds w → IsThrough service tei (calling service tei d other c number) (frames.turned (as_wire (doing_all ds w))))
