-- A call by octets is a call of frames.
use Rattle.laws_order.proofs.Vocabulary.{arith, ◌≡◌, ℕ, ◌<◌, List, [], ◌∷◌, ◌++◌, refl, sym, ap, ◌∙◌, subst, append-nil, All, append_cancel_left, All-nil, Service, Item, idle, heard_in, Config, Assign, frames_among, Port, fresh_port, IsAtLine, IsSoundPort, fresh_at, GivesOctets, CanCall, Wire, IsStill, calls-come-through, IsInRange, Bool, false, ◌||◌, cond, Option, None, Some, is_some, option_map}
use Rattle.laws_order.proofs.Vocabulary.{option_to_list, All-head, All-tail, is_due, Request, request, port_request, Establish, or-both, IsTalk, calls_back}
unfoldable use Rattle.model_card.specs.Run.{moments as frame_moments}
use Rattle.model_card.specs.ports.Card.{fresh}
unfoldable use Rattle.model_card.specs.ports.Run.{after_all, meant_all}
use Rattle.laws_wire.specs.Call as call
use Rattle.laws_wire.specs.Wire as wire
use Rattle.laws_order.specs.circuit.Circuit.{Endpoint as OctetEndpoint, port_of, happens, Circuit, StepAt as OctetStepAt, doing_all}
use Rattle.laws_order.specs.circuit.Through.{octet_endpoint, assigned, calling, IsTalk, both_call, HasAllGone, ComesThrough, CallsComeThroughInOctets}
use Rattle.laws_order.proofs.OfCircuit.AsFrames.{asked-as}
use Rattle.laws_order.proofs.OfCircuit.OneWay.{Carries, all-given, framed}
use Rattle.laws_order.proofs.OfCircuit.Projected.{as_wire, doings_meant, port-after, asked-way, Fits, Follows, Done, all-done}
use Rattle.laws_order.proofs.OfCircuit.Ran.{Ran, goes-on, within-ports, sound-port, on-line}
unfoldable use Rattle.laws_wire.specs.Call.{both_call as frames_both}
unfoldable use Rattle.laws_wire.specs.Wire.{doing_all as frames_done}
use Rattle.laws_order.specs.circuit.Circuit.{Endpoint as OctetEndpoint, port_of, Circuit, requests as octet_requests, sends as octet_sends, receives as octet_receives, StepAt as OctetStepAt, at_near, at_far, doing}
unfoldable use Rattle.laws_order.specs.circuit.Through.{both_call}
use Rattle.laws_order.proofs.OfCircuit.AsFrames.{granted-as}
use Rattle.laws_order.proofs.OfCircuit.Projected.{as_wire, hearing_means, act_meant, doing_meant, Fits, Follows, one-done}
unfoldable use Rattle.laws_order.proofs.OfCircuit.Projected.{doings_meant}

pub or-none : (b : Bool) → (b || false) ≡ b
or-none b = grind arith

one-near : (o : Option wire.Step) (f : Wire) → call.both_call (option_to_list (option_map wire.at_near o)) f ≡ false
unfolding frames_both
one-near o f = grind arith

pulls-far : (due : Bool) (f : Wire) → call.both_call (option_to_list (option_map wire.at_far (cond due (Some wire.sends) None))) f ≡ false
unfolding frames_both
pulls-far due f = grind arith

ends-far : (ends : Bool) (f : Wire) → call.both_call (option_to_list (option_map wire.at_far (cond ends (Some wire.receives) None))) f ≡ false
unfolding frames_both
ends-far ends f = grind arith

hears-far : (way : List ℕ) (s : OctetEndpoint) (f : Wire) → call.both_call (option_to_list (option_map wire.at_far (hearing_means way s))) f ≡ false
unfolding frames_both
hears-far way s f = grind (arith, ends-far, is_some)

one-calls : (x : OctetStepAt) (w : Circuit) (there back : List (List ℕ)) → call.both_call (option_to_list (doing_meant x w)) (as_wire there back w) ≡ calls_back x w
unfolding frames_both
one-calls (at_near act) w there back = one-near (act_meant act w) (as_wire there back w)
one-calls (at_far (octet_requests r)) w there back = or-none (call.calls_back (wire.at_far (wire.requests r)) (as_wire there back w)) ∙ grind (arith, granted-as r w.far back)
one-calls (at_far octet_sends) w there back = pulls-far (is_due (port_of w.far)) (as_wire there back w)
one-calls (at_far octet_receives) w there back = hears-far w.near.way w.far (as_wire there back w)

both-append : (ds es : List wire.StepAt) (f : Wire) → call.both_call (ds ++ es) f ≡ (call.both_call ds f || call.both_call es (wire.doing_all ds f))
unfolding frames_both frames_done
both-append [] es f = refl
both-append (x ∷ ds) es f =
    ap (λ b. call.calls_back x f || b) (both-append ds es (wire.doing x f)) ∙ sym (or-both (call.calls_back x f) (call.both_call ds (wire.doing x f)) (call.both_call es (wire.doing_all ds (wire.doing x f))))

-- the same ends call
pub same-calls : (n201 : ℕ) (service : Service) (tei : ℕ) (c d : Config) (fits : Fits n201 c) (fits_far : Fits n201 d) (ds : List OctetStepAt) → All (IsTalk service tei) ds → (w : Circuit) (there back : List (List ℕ)) → Follows n201 c d w there back → call.both_call (doings_meant ds w) (as_wire there back w) ≡ both_call ds w
unfolding doings_meant both_call frames_both
same-calls n201 service tei c d fits fits_far [] all w there back h = refl
same-calls n201 service tei c d fits fits_far (x ∷ ds) all w there back h =
    let one = one-done n201 service tei c d fits fits_far x (All-head (IsTalk service tei) x ds all) w there back h in
    let first = option_to_list (doing_meant x w) in
    let others = doings_meant ds (doing x w) in
    both-append first others (as_wire there back w) ∙ ap (λ b. b || call.both_call others (wire.doing_all first (as_wire there back w))) (one-calls x w there back)
    ∙ ap (λ f. calls_back x w || call.both_call others f) one.same ∙ ap (λ b. calls_back x w || b) (same-calls n201 service tei c d fits fits_far ds (All-tail (IsTalk service tei) x ds all) (doing x w) one.there' one.back' one.follows)

-- ---- as it begins

ran-fresh : (c : Config) (number : ℕ) → number < c.lines → Ran c (octet_endpoint c number)
unfolding after_all meant_all frame_moments
ran-fresh c number within = record { within = within; events = []; at_lines = All-nil (IsAtLine (fresh c)); is = refl; exact = All-nil GivesOctets }

ran-assigned : (c : Config) (number tei : ℕ) → number < c.lines → Ran c (assigned c number tei)
ran-assigned c number tei within = goes-on c (octet_endpoint c number) (port_request (Assign tei)) (All-nil (λ octet. octet < 256)) (ran-fresh c number within)

ran-asked : (service : Service) (c : Config) (number tei : ℕ) → number < c.lines → Ran c (happens (port_request (Establish service tei)) (assigned c number tei))
ran-asked service c number tei within =
    goes-on c (assigned c number tei) (port_request (Establish service tei)) (All-nil (λ octet. octet < 256)) (ran-assigned c number tei within)

-- the port of an end at which only requests were made
record IsUnused (s : OctetEndpoint) : Type 0 where
  port : port_of s ≡ fresh_port
  way : s.way ≡ []

module _ (c : Config) (ranged : IsInRange c) where
  still-unused : (s : OctetEndpoint) (r : Request) → Ran c s → IsUnused s → IsUnused (happens (port_request r) s)
  still-unused s r ran h = record { port = port-after s (port_request r) (within-ports c ranged s ran) ∙ h.port; way = asked-way r s ∙ h.way }

  unused-assigned : (number tei : ℕ) → number < c.lines → IsUnused (assigned c number tei)
  unused-assigned number tei within =
      still-unused (octet_endpoint c number) (Assign tei) (ran-fresh c number within) (record { port = fresh_at c number within; way = refl })

  unused-asked : (service : Service) (number tei : ℕ) → number < c.lines → IsUnused (happens (port_request (Establish service tei)) (assigned c number tei))
  unused-asked service number tei within =
      still-unused (assigned c number tei) (Establish service tei) (ran-assigned c number tei within) (unused-assigned number tei within)

-- ---- where all has gone no frame is on its way

none-framed : (frames : List (List ℕ)) → framed frames ≡ [] → frames ≡ []
none-framed [] e = refl
none-framed (f ∷ fs) e = absurd (cc e)

pub all-heard : (n201 : ℕ) (p : Port) (received : List ℕ) (frames : List (List ℕ)) → framed (frames_among p.items) ≡ heard_in n201 received
    → framed (frames_among p.items) ≡ heard_in n201 received ++ framed frames → frames ≡ []
all-heard n201 p received frames all are =
    none-framed frames (append_cancel_left (heard_in n201 received) (framed frames) [] (sym are ∙ all ∙ sym (append-nil (heard_in n201 received))))

module _ (n201 : ℕ) (c : Config) (fits : Fits n201 c) (s : OctetEndpoint) (ran : Ran c s) (received : List ℕ) (frames : List (List ℕ)) (h : Carries n201 (port_of s) s.way received frames) where
  pub flag-ends : (front : List Item) → (port_of s).items ≡ front ++ idle ∷ [] → framed (frames_among (port_of s).items) ≡ heard_in n201 (port_of s).given
  flag-ends front is =
      all-given n201 (port_of s) s.way received frames h (subst (λ n. IsSoundPort n (port_of s)) fits.size (sound-port c fits.ranged s ran)) (on-line c fits.ranged s ran) front is

-- ---- a call

module _ (service : Service) (c d : Config) (line other tei : ℕ) (ds : List OctetStepAt) (can : CanCall c line d other tei) (talk : All (IsTalk service tei) ds) where
  abbrev pub size : ℕ
  size = c.n201

  pub fits : Fits size c
  fits = record { ranged = can.near.0; size = refl }

  pub fits-far : Fits size d
  fits-far = record { ranged = can.far.0; size = sym can.opposite.1 }

  abbrev pub begun : Circuit
  begun = calling service tei c line d other

  abbrev pub last : Circuit
  last = doing_all ds begun

  follows : Follows size c d begun [] []
  follows = grind (arith, unused-asked, unused-assigned, ran-asked, ran-assigned)

  pub done : Done size service tei c d fits fits-far (doings_meant ds begun) begun [] [] last
  done = all-done size service tei c d fits fits-far ds talk begun [] [] follows

  abbrev pub wire_begun : Wire
  wire_begun = call.calling service tei c line d other

  begins : as_wire [] [] begun ≡ wire_begun
  begins =
      let near =
      asked-as (Establish service tei) (assigned c line tei) [] ∙ ap (wire.happens (request (Establish service tei))) (asked-as (Assign tei) (octet_endpoint c line) []) in
      let far = asked-as (Assign tei) (octet_endpoint d other) [] in
      λ i. record { near = near i; far = far i }

  pub led : wire.doing_all (doings_meant ds begun) wire_begun ≡ as_wire done.there' done.back' last
  led = ap (wire.doing_all (doings_meant ds begun)) (sym begins) ∙ done.same

  pub same-both : call.both_call (doings_meant ds begun) wire_begun ≡ both_call ds begun
  same-both = ap (call.both_call (doings_meant ds begun)) (sym begins) ∙ same-calls size service tei c d fits fits-far ds talk begun [] [] follows

  pub on-wire : call.ComesThrough service tei (wire.turns (doings_meant ds begun) wire_begun) (both_call ds begun) (as_wire done.there' done.back' last)
  on-wire = grind (arith, doings_meant, as_wire, done, same-both, led, calls-come-through)

  pub still : HasAllGone last → IsStill (as_wire done.there' done.back' last)
  still gone = grind (arith, done, append-nil, all-heard, flag-ends)

  comes-through : ComesThrough service tei (both_call ds begun) last
  comes-through = grind (arith, on-wire, still)

pub calls-come-through-in-octets : CallsComeThroughInOctets
calls-come-through-in-octets service c d line other tei ds can talk = comes-through service c d line other tei ds can talk
