-- What happens to a card of frames that faces one of octets is, at the card of frames inside, what happens on a wire of frames.
use Rattle.laws_order.proofs.Vocabulary.{arith, ℕ, List, [], ◌∷◌, Some, refl, Service, LineTold, Wire, Mixed, DeliveredBetweenKinds}
use Rattle.laws_order.specs.AnySteps as order
use Rattle.laws_order.specs.circuit.Damaged.{left_by, seen_by}
use Rattle.laws_order.proofs.OfCircuit.Received.{Hears, Receives, receives, away, as-meant, act-receives, act-heard, none-heard, one-heard}
use Rattle.laws_order.specs.circuit.Mixed as mixed
unfoldable use Rattle.laws_order.specs.circuit.Mixed.{ArePossible as mixed_possible, doing_all as mixed_all, seen_near as mixed_near, seen_far as mixed_far}
use Rattle.laws_order.proofs.OfCircuit.Damaged.{endpoint_with, one-done, One, Ran, Stay, stays, none-ran, one-ran, far-one, delivered-as}

all-mixed : (service : Service) (tei n : ℕ) (first : Wire) (hs : List mixed.StepAt) (w : Mixed) (h : List (List ℕ)) (u : List LineTold)
    → Stay first (record { near = w.near; far = endpoint_with h u w.far }) → Receives n w.far → mixed.ArePossible service tei hs w
    → Ran service tei first (record { near = w.near; far = endpoint_with h u w.far }) (mixed.seen_near hs w) (mixed.seen_far hs w)
unfolding mixed_possible mixed_near mixed_far
all-mixed service tei n first [] w h u stay b can = none-ran service tei first (record { near = w.near; far = endpoint_with h u w.far })
all-mixed service tei n first (mixed.by_frames act ∷ hs) w h u stay b can =
    let w' = mixed.doing (mixed.by_frames act) w in
    let seen = order.seen_by act (mixed.as_wire w) in
    let x : One service tei (record { near = w.near; far = endpoint_with h u w.far }) (record { near = w'.near; far = endpoint_with h u w'.far }) seen [] =
    record { step = Some (order.any_near act); same = grind arith; can = can.0; near_is = grind arith; far_is = refl } in
    one-ran service tei first (record { near = w.near; far = endpoint_with h u w.far }) (record { near = w'.near; far = endpoint_with h u w'.far }) seen [] (mixed.seen_near hs w') (mixed.seen_far hs w') stay x
    (λ stay'. all-mixed service tei n first hs w' h u stay' (away n w.far w'.far.way b) can.1)
all-mixed service tei n first (mixed.by_octets act ∷ hs) w h u stay b can =
    let w' = mixed.doing (mixed.by_octets act) w in
    let x = one-done service tei w.far w.near h u act (as-meant n w.far b service tei act w.near.way can.0) in
    one-ran service tei first (record { near = w.near; far = endpoint_with h u w.far }) (record { near = w'.near; far = endpoint_with x.granted x.told w'.far }) [] (seen_by act w.far)
    (mixed.seen_near hs w') (mixed.seen_far hs w') stay
    (far-one service tei first w.far w'.far w.near (left_by act w.near.way) h u (seen_by act w.far) x)
    (λ stay'. all-mixed service tei n first hs w' x.granted x.told stay' (act-receives n w.far b service tei act w.near.way can.0) can.1)

-- what the card of octets heard
all-heard : (service : Service) (tei n : ℕ) (hs : List mixed.StepAt) (w : Mixed) → Receives n w.far → mixed.ArePossible service tei hs w
    → Hears n w.far.came (mixed.doing_all hs w).far.came (mixed.seen_far hs w)
unfolding mixed_possible mixed_all mixed_far
all-heard service tei n [] w b can = none-heard n w.far.came
all-heard service tei n (mixed.by_frames act ∷ hs) w b can =
    let w' = mixed.doing (mixed.by_frames act) w in all-heard service tei n hs w' (away n w.far w'.far.way b) can.1
all-heard service tei n (mixed.by_octets act ∷ hs) w b can =
    let w' = mixed.doing (mixed.by_octets act) w in
    one-heard n w.far.came w'.far.came (mixed.doing_all hs w').far.came (seen_by act w.far) (mixed.seen_far hs w') (act-heard n w.far b act)
    (all-heard service tei n hs w' (act-receives n w.far b service tei act w.near.way can.0) can.1)

pub delivered-between-kinds : DeliveredBetweenKinds
delivered-between-kinds service tei w p q hs step came can =
    let n = w.far.card.card.config.n201 in
    let b = receives w.far came q.line.1 in
    let order =
    delivered-as service tei (mixed.as_wire w) p q (mixed.seen_near hs w) (mixed.seen_far hs w) step (all-mixed service tei n (mixed.as_wire w) hs w [] [] (stays (mixed.as_wire w)) b can) in
    (order.0, order.1, all-heard service tei n hs w b can)
