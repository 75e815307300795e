-- What happens on a circuit on which octets are damaged is, at the cards of frames inside, what happens on a wire of frames.
use Rattle.laws_order.proofs.Vocabulary.{arith, ◌≡◌, ℕ, List, [], ◌∷◌, ◌++◌, drop, Option, None, Some, option_map, option_to_list, refl, sym, ap, ◌∙◌, subst, append-nil, All, flat_map, option_map_or, All-nil, All-cons, Service, LineTold, Card, port_at, answer_to, card_after, gained, Seen, Endpoint, Wire, frames_by, Past, known, FaceInStep, IsToldInOrder, kept_by, stream_frame, StreamEvent, Port}
use Rattle.laws_order.proofs.Vocabulary.{port_pull, PortEvent, port_octet, port_meant}
use Rattle.model_line.specs.Event as line
use Rattle.model_card.specs.Event as frames
unfoldable use Rattle.model_card.specs.ports.Card.{after, meant}
use Rattle.model_card.specs.ports.Event.{Event}
use Rattle.laws_wire.specs.Wire as wire
use Rattle.laws_order.specs.AnySteps as order
unfoldable use Rattle.laws_order.specs.AnySteps.{seen_near as frames_near, seen_far as frames_far}
use Rattle.laws_order.proofs.Ordered.{StaysAt, near-place, far-place, still-possible, delivered-in-order}
use Rattle.laws_order.specs.circuit.Damaged.{Endpoint as NoisyEndpoint, Noisy, Step as NoisyStep, happens, completes, elsewhere, loses, meaning, with_step, left_by, acting, turned, StepAt as NoisyStepAt, at_near, at_far, seen_of, seen_by, as_wire, DeliveredThoughDamaged}
unfoldable use Rattle.laws_order.specs.circuit.Damaged.{ArePossible, doing_all, seen_near, seen_far}
use Rattle.laws_order.proofs.OfCircuit.Received.{Hears, IsOther, IsFirst, IsPossibleAt, Receives, receives, away, as-meant, act-receives, act-heard, none-heard, one-heard}
use Rattle.laws_order.proofs.OfCircuit.HeardWhole.{HasCome, gained-whole}

-- ---- the ends as endpoints

abbrev pub endpoint_with : List (List ℕ) → List LineTold → NoisyEndpoint → Endpoint
endpoint_with granted told s = record { card = s.card.card; line = s.line; way = s.way; granted = granted; told = told }

-- What an event means on the wire of frames, where it brings no frame on the other's way.
abbrev step_meant : Option line.Event → Option order.AnyStep
step_meant None = None
step_meant (Some (line.hears e)) = Some (order.disturbed e)
step_meant (Some (line.expiry timer)) = Some (order.step (wire.expires timer))
step_meant (Some (line.request r)) = Some (order.step (wire.requests r))
step_meant (Some line.next) = Some (order.step wire.sends)

abbrev pub if_done : Option order.AnyStep → Wire → Wire
if_done None x = x
if_done (Some act) x = order.any_acting act x

abbrev pub if_seen : Option order.AnyStep → Wire → List Seen
if_seen None x = []
if_seen (Some act) x = order.seen_by act x

abbrev pub CanBe : Service → ℕ → Endpoint → Option order.AnyStep → Type 0
CanBe service tei s None = Unit {0}
CanBe service tei s (Some act) = order.IsPossibleAt service tei s act

-- What is heard whole is heard as itself where it comes as a frame.
abbrev pub Comes : ℕ → Option line.Event → Type 0
Comes n201 (Some (line.hears e)) = HasCome n201 e
Comes n201 other = Unit {0}

heard-comes : (n201 : ℕ) (o : Option StreamEvent) → All (HasCome n201) (option_to_list o) → Comes n201 (option_map line.hears o)
heard-comes n201 o all = grind arith

pub meaning-comes : (n201 : ℕ) (what : PortEvent) (p : Port) → Comes n201 (port_meant n201 what p)
meaning-comes n201 (port_octet value) p = heard-comes n201 (gained n201 p.received value) (gained-whole n201 p.received value)
meaning-comes n201 port_pull p = grind arith
meaning-comes n201 other p = tt

-- What one step of an end is on the wire of frames, where this is the other end.
pub record Done (service : Service) (tei : ℕ) (s s' : NoisyEndpoint) (y : Endpoint) (way : List (List ℕ)) (g : List (List ℕ)) (t : List LineTold) (seen : List Seen) : Type 0 where
  pub act : Option order.AnyStep
  pub granted : List (List ℕ)
  pub told : List LineTold
  pub same : if_done act (record { near = endpoint_with g t s; far = y }) ≡ record { near = endpoint_with granted told s'; far = record y { way = way } }
  pub shown : if_seen act (record { near = endpoint_with g t s; far = y }) ≡ seen
  pub can : CanBe service tei (endpoint_with g t s) act

module _ (service : Service) (tei : ℕ) (s : NoisyEndpoint) (y : Endpoint) (g : List (List ℕ)) (t : List LineTold) where
  abbrev card : Card
  card = s.card.card

  abbrev x : Wire
  x = record { near = endpoint_with g t s; far = y }

  -- the end where an event meant this
  abbrev card_then : Option frames.Event → Card
  card_then o = option_map_or (card_after card) o card

  abbrev way_then : Option frames.Event → List (List ℕ)
  way_then o = s.way ++ flat_map frames_by (option_to_list (option_map (answer_to card) o))

  abbrev near_then : List (List ℕ) → List LineTold → Option frames.Event → Endpoint
  near_then granted told o = record { card = card_then o; line = s.line; way = way_then o; granted = granted; told = told }

  abbrev with_near : Endpoint → List (List ℕ) → Wire
  with_near z way = record { near = z; far = record y { way = way } }

  abbrev then_granted : line.Event → List (List ℕ)
  then_granted e = (wire.happens e (endpoint_with g t s)).granted

  abbrev then_told : line.Event → List LineTold
  then_told e = (wire.happens e (endpoint_with g t s)).told

  happened : (e : line.Event) → wire.happens e (endpoint_with g t s) ≡ near_then (then_granted e) (then_told e) (Some (frames.at s.line e))
  happened e = grind (arith, append-nil)

  -- an event that means this leads to where the machine of frames does
  record Led (o : Option line.Event) (act : Option order.AnyStep) (way : List (List ℕ)) : Type 0 where
    granted : List (List ℕ)
    told : List LineTold
    same : if_done act x ≡ with_near (near_then granted told (option_map (frames.at s.line) o)) way
    shown : if_seen act x ≡ flat_map (seen_of s) (option_to_list o)
    can : CanBe service tei (endpoint_with g t s) act

  led : (o : Option line.Event) → IsOther service tei card.config o → Led o (step_meant o) y.way
  led None other = record {
    granted = g;
    told = t;
    same = λ i. with_near (record { card = card; line = s.line; way = sym (append-nil s.way) i; granted = g; told = t }) y.way;
    shown = refl;
    can = tt;
  }
  led (Some (line.hears e)) other =
      record { granted = then_granted (line.hears e); told = then_told (line.hears e); same = ap (λ z. with_near z y.way) (happened (line.hears e)); shown = refl; can = other }
  led (Some (line.expiry timer)) other =
      let e = line.expiry timer in record { granted = then_granted e; told = then_told e; same = ap (λ z. with_near z y.way) (happened e); shown = refl; can = tt }
  led (Some (line.request r)) other =
      let e = line.request r in record { granted = then_granted e; told = then_told e; same = ap (λ z. with_near z y.way) (happened e); shown = refl; can = tt }
  led (Some line.next) other =
      record { granted = then_granted line.next; told = then_told line.next; same = ap (λ z. with_near z y.way) (happened line.next); shown = refl; can = tt }

  -- a frame of the other end has come
  come : (o : Option line.Event) → Comes card.config.n201 o → IsFirst o y.way → Led o (Some (order.step wire.receives)) (drop 1 y.way)
  come (Some (line.hears (stream_frame octets))) whole first =
      let e = line.hears (stream_frame octets) in
      let way : y.way ≡ octets ∷ first.0 = first.1 in
      record {
        granted = then_granted e;
        told = then_told e;
        same = grind (arith, happened);
        shown =
            ap (λ fs. flat_map (order.shown_by (endpoint_with g t s)) (order.first_heard card.config.n201 fs)) way
            ∙ ap (λ e. flat_map (order.shown_by (endpoint_with g t s)) (line.hears e ∷ [])) whole;
        can = tt;
      }
  come other whole first = absurd first

  by-event : (what : PortEvent) → IsPossibleAt service tei (happens what) s y.way → Done service tei s (with_step (happens what) s) y y.way g t (seen_by (happens what) s)
  unfolding after meant
  by-event what other = grind (arith, led)

  by-frame : (value : ℕ) → IsPossibleAt service tei (completes value) s y.way → Done service tei s (with_step (completes value) s) y (drop 1 y.way) g t (seen_by (completes value) s)
  unfolding after meant
  by-frame value first =
      let one = come (meaning (port_octet value) s) (meaning-comes card.config.n201 (port_octet value) (port_at s.line s.card)) first in
      record { act = Some (order.step wire.receives); granted = one.granted; told = one.told; same = one.same; shown = one.shown; can = tt }

  by-other : (e : Event) → IsPossibleAt service tei (elsewhere e) s y.way → Done service tei s (with_step (elsewhere e) s) y y.way g t []
  unfolding after meant
  by-other e is = go (port_meant card.config.n201 e.what (port_at e.line s.card))
    where
      go : (o : Option line.Event) → let m = card_then (option_map (frames.at e.line) o) in
          Done service tei s (record { card = record { card = m; ports = (after e s.card).ports }; line = s.line; way = s.way; came = s.came }) y y.way g t []
      go None = record { act = None; granted = g; told = t; same = refl; shown = refl; can = tt }
      go (Some f) =
          record { act = Some (order.elsewhere (frames.at e.line f)); granted = g; told = t; same = refl; shown = refl; can = is }

  pub one-done : (act : NoisyStep) → IsPossibleAt service tei act s y.way → Done service tei s (with_step act s) y (left_by act y.way) g t (seen_by act s)
  one-done (happens what) is = by-event what is
  one-done (completes value) is = by-frame value is
  one-done (elsewhere e) is = by-other e is
  one-done loses is = record { act = Some (order.step wire.loses); granted = g; told = t; same = refl; shown = refl; can = tt }

-- ---- a run of two ends, of which each step is one on the wire of frames, or none

abbrev pub if_happens : Option order.AnyStepAt → Wire → Wire
if_happens None v = v
if_happens (Some h) v = order.any_doing h v

abbrev pub if_near : Option order.AnyStepAt → Wire → List Seen
if_near None v = []
if_near (Some h) v = order.seen_at_near h v

abbrev pub if_far : Option order.AnyStepAt → Wire → List Seen
if_far None v = []
if_far (Some h) v = order.seen_at_far h v

abbrev pub CanHappen : Service → ℕ → Wire → Option order.AnyStepAt → Type 0
CanHappen service tei v None = Unit {0}
CanHappen service tei v (Some h) = order.IsPossible service tei v h

pub record One (service : Service) (tei : ℕ) (v v' : Wire) (near far : List Seen) : Type 0 where
  pub step : Option order.AnyStepAt
  pub same : if_happens step v ≡ v'
  pub can : CanHappen service tei v step
  pub near_is : if_near step v ≡ near
  pub far_is : if_far step v ≡ far

pub record Ran (service : Service) (tei : ℕ) (first v : Wire) (near far : List Seen) : Type 0 where
  pub run : List order.AnyStepAt
  pub can : All (order.IsPossible service tei first) run
  pub near_is : order.seen_near run v ≡ near
  pub far_is : order.seen_far run v ≡ far

pub record Stay (first v : Wire) : Type 0 where
  pub near : StaysAt first.near v.near
  pub far : StaysAt first.far v.far

pub stays : (v : Wire) → Stay v v
stays v = record { near = record { config = refl; line = refl }; far = record { config = refl; line = refl } }

back-at : (a b : Endpoint) → StaysAt a b → StaysAt b a
back-at a b x = record { config = sym x.config; line = sym x.line }

module _ (service : Service) (tei : ℕ) (first : Wire) where
  pub none-ran : (v : Wire) → Ran service tei first v [] []
  unfolding frames_near frames_far
  none-ran v = record { run = []; can = All-nil (order.IsPossible service tei first); near_is = refl; far_is = refl }

  pub one-ran : (v v' : Wire) (near far near' far' : List Seen) → Stay first v → One service tei v v' near far → (Stay first v' → Ran service tei first v' near' far')
      → Ran service tei first v (near ++ near') (far ++ far')
  unfolding frames_near frames_far
  one-ran v v' near far near' far' stay x others = go x.step x.same x.can x.near_is x.far_is
    where
      go : (o : Option order.AnyStepAt) → if_happens o v ≡ v' → CanHappen service tei v o → if_near o v ≡ near → if_far o v ≡ far → Ran service tei first v (near ++ near') (far ++ far')
      go None same can near-is far-is = grind arith
      go (Some h) same can near-is far-is =
          let rest = others (subst (Stay first) same (grind (arith, near-place, far-place))) in
          record {
            run = h ∷ rest.run;
            can = All-cons (order.IsPossible service tei first) h rest.run
                (still-possible service tei v first (back-at first.near v.near stay.near) (back-at first.far v.far stay.far) h can) rest.can;
            near_is = ap (λ u. order.seen_at_near h v ++ order.seen_near rest.run u) same ∙ ap (λ xs. order.seen_at_near h v ++ xs) rest.near_is ∙ ap (λ xs. xs ++ near') near-is;
            far_is = ap (λ u. order.seen_at_far h v ++ order.seen_far rest.run u) same ∙ ap (λ xs. order.seen_at_far h v ++ xs) rest.far_is ∙ ap (λ xs. xs ++ far') far-is;
          }

  -- an end for octets
  module _ (s s' : NoisyEndpoint) (y : Endpoint) (way : List (List ℕ)) (g : List (List ℕ)) (t : List LineTold) (seen : List Seen) (x : Done service tei s s' y way g t seen) where
    abbrev pub near_end : Endpoint
    near_end = endpoint_with g t s

    abbrev pub then_end : Endpoint
    then_end = endpoint_with x.granted x.told s'

    pub near-one : One service tei (record { near = near_end; far = y }) (record { near = then_end; far = record y { way = way } }) seen []
    near-one = go x.act x.same x.shown x.can
      where
        go : (o : Option order.AnyStep) → if_done o (record { near = near_end; far = y }) ≡ record { near = then_end; far = record y { way = way } }
            → if_seen o (record { near = near_end; far = y }) ≡ seen → CanBe service tei near_end o
            → One service tei (record { near = near_end; far = y }) (record { near = then_end; far = record y { way = way } }) seen []
        go None same shown can = record { step = None; same = same; can = tt; near_is = shown; far_is = refl }
        go (Some act) same shown can = record { step = Some (order.any_near act); same = same; can = can; near_is = shown; far_is = refl }

    pub far-one : One service tei (record { near = y; far = near_end }) (record { near = record y { way = way }; far = then_end }) [] seen
    far-one = go x.act x.same x.shown x.can
      where
        go : (o : Option order.AnyStep) → if_done o (record { near = near_end; far = y }) ≡ record { near = then_end; far = record y { way = way } }
            → if_seen o (record { near = near_end; far = y }) ≡ seen → CanBe service tei near_end o
            → One service tei (record { near = y; far = near_end }) (record { near = record y { way = way }; far = then_end }) [] seen
        go None same shown can = record { step = None; same = ap wire.turned same; can = tt; near_is = refl; far_is = shown }
        go (Some act) same shown can = record { step = Some (order.any_far act); same = ap wire.turned same; can = can; near_is = refl; far_is = shown }

-- so what is told is in order
pub delivered-as : (service : Service) (tei : ℕ) (w : Wire) (p : Past w.near) (q : Past w.far) (near far : List Seen) →
    let n = known service tei w.near p in let m = known service tei w.far q in FaceInStep service tei w n m → Ran service tei w w near far
    → IsToldInOrder service tei (kept_by m n) far near × IsToldInOrder service tei (kept_by n m) near far
delivered-as service tei w p q near far step ran =
    let n = known service tei w.near p in
    let m = known service tei w.far q in
    let both : (List Seen → List Seen → Type 0) =
    λ near far. IsToldInOrder service tei (kept_by m n) far near × IsToldInOrder service tei (kept_by n m) near far in
    subst (λ near. both near far) ran.near_is (subst (both (order.seen_near ran.run w)) ran.far_is (delivered-in-order service tei w p q ran.run step ran.can))

-- ---- two ends for octets

abbrev wire_of : List (List ℕ) → List (List ℕ) → List LineTold → List LineTold → Noisy → Wire
wire_of g h t u w = record { near = endpoint_with g t w.near; far = endpoint_with h u w.far }

all-ran : (service : Service) (tei n m : ℕ) (first : Wire) (hs : List NoisyStepAt) (w : Noisy) (g h : List (List ℕ)) (t u : List LineTold) → Stay first (wire_of g h t u w)
    → Receives n w.near → Receives m w.far → ArePossible service tei hs w → Ran service tei first (wire_of g h t u w) (seen_near hs w) (seen_far hs w)
unfolding ArePossible seen_near seen_far
all-ran service tei n m first [] w g h t u stay a b can = none-ran service tei first (wire_of g h t u w)
all-ran service tei n m first (at_near act ∷ hs) w g h t u stay a b can =
    let w' = acting act w in
    let y = endpoint_with h u w.far in
    let x = one-done service tei w.near y g t act (as-meant n w.near a service tei act w.far.way can.0) in
    one-ran service tei first (wire_of g h t u w) (wire_of x.granted h x.told u w') (seen_by act w.near) [] (seen_near hs w') (seen_far hs w') stay
    (near-one service tei first w.near w'.near y (left_by act w.far.way) g t (seen_by act w.near) x)
    (λ stay'. all-ran service tei n m first hs w' x.granted h x.told u stay' (act-receives n w.near a service tei act w.far.way can.0) (away m w.far (left_by act w.far.way) b) can.1)
all-ran service tei n m first (at_far act ∷ hs) w g h t u stay a b can =
    let w' = turned (acting act (turned w)) in
    let y = endpoint_with g t w.near in
    let x = one-done service tei w.far y h u act (as-meant m w.far b service tei act w.near.way can.0) in
    one-ran service tei first (wire_of g h t u w) (wire_of g x.granted t x.told w') [] (seen_by act w.far) (seen_near hs w') (seen_far hs w') stay
    (far-one service tei first w.far w'.far y (left_by act w.near.way) h u (seen_by act w.far) x)
    (λ stay'. all-ran service tei n m first hs w' g x.granted t x.told stay' (away n w.near (left_by act w.near.way) a) (act-receives m w.far b service tei act w.near.way can.0) can.1)

-- what each heard
all-heard : (service : Service) (tei n m : ℕ) (hs : List NoisyStepAt) (w : Noisy) → Receives n w.near → Receives m w.far → ArePossible service tei hs w → let v = doing_all hs w in
    Hears n w.near.came v.near.came (seen_near hs w) × Hears m w.far.came v.far.came (seen_far hs w)
unfolding ArePossible doing_all seen_near seen_far
all-heard service tei n m [] w a b can = (none-heard n w.near.came, none-heard m w.far.came)
all-heard service tei n m (at_near act ∷ hs) w a b can =
    let w' = acting act w in
    let rest = all-heard service tei n m hs w' (act-receives n w.near a service tei act w.far.way can.0) (away m w.far (left_by act w.far.way) b) can.1 in
    (one-heard n w.near.came w'.near.came (doing_all hs w').near.came (seen_by act w.near) (seen_near hs w') (act-heard n w.near a act) rest.0, rest.1)
all-heard service tei n m (at_far act ∷ hs) w a b can =
    let w' = turned (acting act (turned w)) in
    let rest = all-heard service tei n m hs w' (away n w.near (left_by act w.near.way) a) (act-receives m w.far b service tei act w.near.way can.0) can.1 in
    (rest.0, one-heard m w.far.came w'.far.came (doing_all hs w').far.came (seen_by act w.far) (seen_far hs w') (act-heard m w.far b act) rest.1)

pub delivered-though-damaged : DeliveredThoughDamaged
delivered-though-damaged service tei w p q hs step came others can =
    let n = w.near.card.card.config.n201 in
    let m = w.far.card.card.config.n201 in
    let a = receives w.near came p.line.1 in
    let b = receives w.far others q.line.1 in
    let order =
    delivered-as service tei (as_wire w) p q (seen_near hs w) (seen_far hs w) step (all-ran service tei n m (as_wire w) hs w [] [] [] [] (stays (as_wire w)) a b can) in
    let heard = all-heard service tei n m hs w a b can in
    (order.0, order.1, heard.0, heard.1)
