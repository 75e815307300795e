-- A card of frames faces a card of octets, or any two of them: what is told at each is in order.
use Rattle.std.specs.Prelude.{ℕ, List, [], ◌∷◌, ◌++◌}
use Rattle.lapd_frame.specs.declared.services.Service.{Service}
use Rattle.laws_trace.specs.Trace.{Seen}
use Rattle.laws_wire.specs.Wire.{Endpoint, Wire}
use Rattle.laws_order.specs.AnySteps as frames
use Rattle.laws_order.specs.Order.{Past, known, FaceInStep, IsToldInOrder, kept_by}
use Rattle.laws_order.specs.circuit.Damaged as octets
use Rattle.laws_order.specs.circuit.Damaged.{Endpoint as NoisyEndpoint, HasReceived, HearsWhatCame, as_frame_endpoint, with_step, left_by}

-- One end is a card of frames, whose controller takes what the other's pulls begin, and gives what the card gives: as an end of a wire.
-- The other is a card of octets: as an end of a circuit on which octets are damaged.
pub record Mixed : Type 0 where
  pub near : Endpoint
  pub far : NoisyEndpoint

abbrev pub as_wire : Mixed → Wire
as_wire w = record { near = w.near; far = as_frame_endpoint w.far }

pub data StepAt : Type 0 where
  by_frames : frames.AnyStep → StepAt
  by_octets : octets.Step → StepAt

abbrev pub IsPossible : Service → ℕ → StepAt → Mixed → Type 0
IsPossible service tei (by_frames act) w = frames.IsPossibleAt service tei w.near act
IsPossible service tei (by_octets act) w = octets.IsPossibleAt service tei act w.far w.near.way

abbrev pub doing : StepAt → Mixed → Mixed
doing (by_frames act) w = let v = frames.any_acting act (as_wire w) in record { near = v.near; far = record w.far { way = v.far.way } }
doing (by_octets act) w = record { near = record w.near { way = left_by act w.near.way }; far = with_step act w.far }

unfoldable pub doing_all : List StepAt → Mixed → Mixed
doing_all [] w = w
doing_all (h ∷ hs) w = doing_all hs (doing h w)

unfoldable pub ArePossible : Service → ℕ → List StepAt → Mixed → Type 0
ArePossible service tei [] w = Unit {0}
ArePossible service tei (h ∷ hs) w = IsPossible service tei h w × ArePossible service tei hs (doing h w)

-- What is seen at either end.
abbrev pub seen_by_frames : StepAt → Mixed → List Seen
seen_by_frames (by_frames act) w = frames.seen_by act (as_wire w)
seen_by_frames (by_octets act) w = []

abbrev pub seen_by_octets : StepAt → Mixed → List Seen
seen_by_octets (by_frames act) w = []
seen_by_octets (by_octets act) w = octets.seen_by act w.far

unfoldable pub seen_near : List StepAt → Mixed → List Seen
seen_near [] w = []
seen_near (h ∷ hs) w = seen_by_frames h w ++ seen_near hs (doing h w)

unfoldable pub seen_far : List StepAt → Mixed → List Seen
seen_far [] w = []
seen_far (h ∷ hs) w = seen_by_octets h w ++ seen_far hs (doing h w)

abbrev pub DeliveredBetweenKinds : Type 0
DeliveredBetweenKinds =
    (service : Service) (tei : ℕ) (w : Mixed) (p : Past w.near) (q : Past (as_frame_endpoint w.far)) (hs : List StepAt) →
    let n = known service tei w.near p in let m = known service tei (as_frame_endpoint w.far) q in
    FaceInStep service tei (as_wire w) n m → HasReceived w.far → ArePossible service tei hs w → let near = seen_near hs w in let far = seen_far hs w in
    IsToldInOrder service tei (kept_by m n) far near × IsToldInOrder service tei (kept_by n m) near far × HearsWhatCame w.far (doing_all hs w).far far
