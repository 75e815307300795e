-- What is done between a card of frames and one of octets is, at the card of frames inside, done on a wire of frames.
use Rattle.laws_order.proofs.Vocabulary.{arith, ◌≡◌, ℕ, Bool, true, false, cond, List, [], ◌∷◌, ◌++◌, drop, Option, None, Some, refl, sym, ap, ◌∙◌, subst, append-nil, All, All-nil, All-cons, All-head, All-tail, All-append, Service, Config, is_due, Endpoint, Wire, CanCall, calling, calls-come-through, sides-turned, doing-append, IsCall, stream_frame, StreamEvent, option_map, port_octet}
use Rattle.laws_order.proofs.Vocabulary.{call_both_call, CallComesThrough, assigned, Establish, Assign, port_of}
use Rattle.model_line.specs.Event as line
unfoldable use Rattle.model_card.specs.ports.Card.{meant}
use Rattle.laws_wire.specs.Wire as frames
unfoldable use Rattle.laws_wire.specs.Wire.{doing_all as frames_done}
use Rattle.laws_order.specs.circuit.Through as octets
use Rattle.laws_order.specs.circuit.MixedCall.{Pair, as_wire, begun_by_frames, begun_by_octets, IsThrough, CallsComeThroughBetweenKinds, StepAt as PairStepAt, by_frames, requests as pair_requests, sends as pair_sends, receives as pair_receives, brings, IsWhole, left_by, doing, IsTalk, CallsAreOfFrames}
unfoldable use Rattle.laws_order.specs.circuit.MixedCall.{doing_all, AreTalk}
use Rattle.laws_order.proofs.OfCircuit.AsFrames.{as_endpoint, if_meant, asked-as, pulled-as, heard-as}
use Rattle.laws_order.proofs.OfCircuit.Damaged.{Comes, meaning-comes}

module _ (service : Service) (tei : ℕ) where
  -- what is done on the wire, which leads there
  record Led (v v' : Wire) : Type 0 where
    es : List frames.StepAt
    talk : All (IsCall service tei) es
    led : frames.doing_all es v ≡ v'

  none-led : (v v' : Wire) → v ≡ v' → Led v v'
  unfolding frames_done
  none-led v v' same = record { es = []; talk = All-nil (IsCall service tei); led = same }

  one-led : (v v' : Wire) (e : frames.StepAt) → IsCall service tei e → frames.doing e v ≡ v' → Led v v'
  unfolding frames_done
  one-led v v' e is same = record { es = e ∷ []; talk = All-cons (IsCall service tei) e [] is (All-nil (IsCall service tei)); led = same }

  -- ---- at the card of octets

  abbrev ends : Endpoint → Endpoint → Wire
  ends x y = record { near = x; far = y }

  pulled-led : (w : Pair) → Led (as_wire w) (as_wire (doing pair_sends w))
  unfolding meant
  pulled-led w = go (is_due (port_of w.far)) refl
    where
      there : (due : Bool) → is_due (port_of w.far) ≡ due → as_wire (doing pair_sends w) ≡ ends w.near (if_meant (cond due (Some line.next) None) (as_endpoint w.back w.far))
      there due e = grind (arith, as_endpoint, append-nil, pulled-as, if_meant)

      go : (due : Bool) → is_due (port_of w.far) ≡ due → Led (as_wire w) (as_wire (doing pair_sends w))
      go true e = one-led (as_wire w) (as_wire (doing pair_sends w)) (frames.at_far frames.sends) tt (sym (there true e))
      go false e = none-led (as_wire w) (as_wire (doing pair_sends w)) (sym (there false e))

  abbrev heard_with : Pair → Option StreamEvent → Wire
  heard_with w o = ends (record w.near { way = left_by o w.near.way }) (if_meant (option_map line.hears o) (as_endpoint w.back w.far))

  heard-led : (value : ℕ) (w : Pair) → IsWhole (brings value w.far) w.near.way → Led (as_wire w) (as_wire (doing (pair_receives value) w))
  heard-led value w whole = go (brings value w.far) refl whole (meaning-comes w.far.card.card.config.n201 (port_octet value) (port_of w.far))
    where
      there : (o : Option StreamEvent) → brings value w.far ≡ o → as_wire (doing (pair_receives value) w) ≡ heard_with w o
      there o e = ap (λ x. ends (record w.near { way = left_by (brings value w.far) w.near.way }) x) (heard-as value w.far w.back) ∙ ap (heard_with w) e

      go : (o : Option StreamEvent) → brings value w.far ≡ o → IsWhole o w.near.way → Comes w.far.card.card.config.n201 (option_map line.hears (brings value w.far)) → Led (as_wire w) (as_wire (doing (pair_receives value) w))
      go None e whole comes = none-led (as_wire w) (as_wire (doing (pair_receives value) w)) (sym (there None e))
      go (Some (stream_frame octets)) e whole comes =
          let n = w.far.card.card.config.n201 in
          let x = as_endpoint w.back w.far in
          one-led (as_wire w) (as_wire (doing (pair_receives value) w)) (frames.at_far frames.receives) tt
          (ap (λ fs. ends (record w.near { way = drop 1 w.near.way }) (frames.with_first_of fs x)) whole.1
          ∙ ap (λ h. ends (record w.near { way = drop 1 w.near.way }) (frames.happens (line.hears h) x)) (subst (λ o. Comes n (option_map line.hears o)) e comes) ∙ sym (there (Some (stream_frame octets)) e))
      go other e whole comes = absurd whole

  -- ---- one thing, and all

  step : (d : PairStepAt) (w : Pair) → IsTalk service tei d w → Led (as_wire w) (as_wire (doing d w))
  step (by_frames act) w is = one-led (as_wire w) (as_wire (doing (by_frames act) w)) (frames.at_near act) is (grind arith)
  step (pair_requests r) w is = one-led (as_wire w) (as_wire (doing (pair_requests r) w)) (frames.at_far (frames.requests r)) is (ap (λ x. ends w.near x) (sym (asked-as r w.far w.back)))
  step pair_sends w is = pulled-led w
  step (pair_receives value) w is = heard-led value w is

  all-led : (ds : List PairStepAt) (w : Pair) → AreTalk service tei ds w → Led (as_wire w) (as_wire (doing_all ds w))
  unfolding doing_all AreTalk
  all-led [] w is = none-led (as_wire w) (as_wire w) refl
  all-led (d ∷ ds) w is =
      let one = step d w is.0 in
      let rest = all-led ds (doing d w) is.1 in
      record {
        es = one.es ++ rest.es;
        talk = All-append (IsCall service tei) one.es rest.es one.talk rest.talk;
        led = doing-append one.es rest.es (as_wire w) ∙ ap (frames.doing_all rest.es) one.led ∙ rest.led;
      }

pub calls-are-of-frames : CallsAreOfFrames
calls-are-of-frames service tei w ds talk = let x = all-led service tei ds w talk in (x.es, x.talk, x.led)

-- ---- a call

assigned-as : (d : Config) (other tei : ℕ) → as_endpoint [] (octets.assigned d other tei) ≡ assigned d other tei
assigned-as d other tei = asked-as (Assign tei) (octets.octet_endpoint d other) []

abbrev ends_of : Endpoint → Endpoint → Wire
ends_of x y = record { near = x; far = y }

-- which ends are which
abbrev swapped : frames.StepAt → frames.StepAt
swapped (frames.at_near act) = frames.at_far act
swapped (frames.at_far act) = frames.at_near act

abbrev all_swapped : List frames.StepAt → List frames.StepAt
all_swapped [] = []
all_swapped (e ∷ es) = swapped e ∷ all_swapped es

all-turned : (es : List frames.StepAt) (v : Wire) → frames.doing_all (all_swapped es) (frames.turned v) ≡ frames.turned (frames.doing_all es v)
unfolding frames_done
all-turned [] v = refl
all-turned (e ∷ es) v = ap (frames.doing_all (all_swapped es)) (grind arith) ∙ all-turned es (frames.doing e v)

one-talk : (service : Service) (tei : ℕ) (e : frames.StepAt) → IsCall service tei e → IsCall service tei (swapped e)
one-talk service tei e is = grind arith

all-talk : (service : Service) (tei : ℕ) (es : List frames.StepAt) → All (IsCall service tei) es → All (IsCall service tei) (all_swapped es)
all-talk service tei [] all = All-nil (IsCall service tei)
all-talk service tei (e ∷ es) all =
    All-cons (IsCall service tei) (swapped e) (all_swapped es) (one-talk service tei e (All-head (IsCall service tei) e es all)) (all-talk service tei es (All-tail (IsCall service tei) e es all))

through : (service : Service) (c d : Config) (line other tei : ℕ) → CanCall c line d other tei → (es : List frames.StepAt) → All (IsCall service tei) es → (last : Wire)
    → frames.doing_all es (calling service tei c line d other) ≡ last → IsThrough service tei (calling service tei c line d other) last
through service c d line other tei can es talk last led =
    let begun = calling service tei c line d other in (
      es,
      talk,
      led,
      subst (CallComesThrough service tei (frames.turns es begun) (call_both_call es begun)) led (calls-come-through service c d line other tei es can talk),
    )

pub calls-come-through-between-kinds : CallsComeThroughBetweenKinds
calls-come-through-between-kinds service c d number other tei ds can = (by-frames, by-octets)
  where
    by-frames : let w = begun_by_frames service tei c number d other in AreTalk service tei ds w → IsThrough service tei (calling service tei c number d other) (as_wire (doing_all ds w))
    by-frames talk =
        let w = begun_by_frames service tei c number d other in
        let x = calls-are-of-frames service tei w ds talk in
        let begins : as_wire w ≡ calling service tei c number d other = ap (λ (s : Endpoint). ends_of w.near s) (assigned-as d other tei) in
        through service c d number other tei can x.0 x.1 (as_wire (doing_all ds w)) (ap (frames.doing_all x.0) (sym begins) ∙ x.2)

    by-octets : let w = begun_by_octets service tei c number d other in AreTalk service tei ds w → IsThrough service tei (calling service tei d other c number) (frames.turned (as_wire (doing_all ds w)))
    by-octets talk =
        let w = begun_by_octets service tei c number d other in
        let x = calls-are-of-frames service tei w ds talk in
        let begins : frames.turned (as_wire w) ≡ calling service tei d other c number =
        ap (λ (s : Endpoint). ends_of s w.near) (asked-as (Establish service tei) (octets.assigned d other tei) [] ∙ ap (frames.happens (line.request (Establish service tei))) (assigned-as d other tei)) in
        through service d c other number tei (record { near = can.far; far = can.near; opposite = (sides-turned c d can.opposite.0, sym can.opposite.1); terminal = can.terminal }) (all_swapped x.0) (all-talk service tei x.0 x.1) (frames.turned (as_wire (doing_all ds w)))
        (ap (frames.doing_all (all_swapped x.0)) (sym begins) ∙ all-turned x.0 (as_wire w) ∙ ap frames.turned x.2)
