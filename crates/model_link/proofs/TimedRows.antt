-- A link that awaits something has its timer: the rows by state, and every event.
use Rattle.model_link.proofs.Vocabulary.{arith, ◌≡◌, ℕ, ◌+◌, Bool, true, false, cond, ◌&&◌, List, Option, Some, None, refl, Control, Ua, Dm, Refusal, State, TeiAssigned, AwaitingEstablishment, AwaitingRelease, Established, LinkTimer, T200, ControlFrame, Terms, Link, runs, Course, begun, changed, IsTimed, IsTimedIn, Event, Request, frame, received, pending_is, start, give_information}
use Rattle.model_link.proofs.Vocabulary.{is_established, offer_among, with_one_sent, after, course, expired_in, frame_in, frame_step}
use Rattle.model_link.proofs.Leads.{Leads, told_ways}
use Rattle.model_link.specs.Requests
use Rattle.model_link.proofs.Timing.{TimedBy, At, Ends, at_ends, failed_timed, ends, rows}

module _ (t : Terms) where
  frame_timed : (here : State) (b : Bool) (octets : List ℕ) (control : Control) → Leads (At here) (frame_in here t b octets control) Ends
  frame_timed AwaitingEstablishment b octets (Ua true) = search rows depth 14 fits 6000
  frame_timed AwaitingEstablishment b octets (Dm true) = search rows depth 14 fits 6000
  frame_timed AwaitingRelease b octets (Ua true) = search rows depth 14 fits 6000
  frame_timed AwaitingRelease b octets (Dm true) = search rows depth 14 fits 6000
  frame_timed TeiAssigned b octets (Ua true) = search rows depth 14 fits 6000
  frame_timed here b octets (Dm true) = search rows depth 14 fits 6000
  frame_timed here b octets other = search rows depth 14 fits 6000

  expired_timed : (here : State) (timer : LinkTimer) → Leads (At here) (expired_in here timer t) Ends
  expired_timed AwaitingEstablishment T200 = search rows depth 14 fits 6000
  expired_timed here timer = grind (arith, ends, here)

-- as the law says it, and back
to-law : (here : State) (l : Link) → TimedBy here l.running l.a l.s → IsTimedIn here l
to-law here l h = grind arith

module _ (t : Terms) (l : Link) (timed : IsTimed l) where
  here : At l.state (begun l)
  here = record { state_is = refl; timer = grind arith }

  unchanged : Ends (begun l)
  unchanged = record { timer = grind arith }

  frames : (b : Bool) (octets : List ℕ) (control : Control) → Ends (frame_step t b octets control (begun l))
  frames b octets control = (frame_timed t l.state b octets control).leads (begun l) here

  granted : (request : Request) → Ends (Requests.granted t request (begun l))
  granted request = grind (arith, here, ends, at_ends)

  requests : (request : Request) (o : Option Refusal) → Ends (elim o as (λ o. Course) [ None ↦ Requests.granted t request (begun l) | Some _ ↦ begun l ])
  requests request o = grind (arith, granted, unchanged)

-- an I-frame goes: T200 runs then
goes_on : (running : Option LinkTimer) (a s : ℕ) (b : Bool) → runs T200 running ≡ b → TimedBy Established running a s → TimedBy Established (cond b running (Some T200)) a (s + 1)
goes_on running a s b e h = grind arith

gone : Link → Course
gone l = pending_is false (changed with_one_sent (give_information (begun l)))

goes : (l : Link) → l.state ≡ Established → TimedBy Established l.running l.a l.s → (b : Bool) → runs T200 l.running ≡ b → Ends (cond b (gone l) (start T200 (gone l)))
unfolding gone
goes l at h b e = grind (arith, goes_on)

established : (here : State) (x y z : Bool) → (is_established here && x && y && z) ≡ true → here ≡ Established
established here x y z e = grind arith

offers : (t : Terms) (l : Link) → IsTimed l → (ws : List ControlFrame) → Ends (offer_among t ws (begun l))
unfolding gone
offers t l timed ws = grind (arith, told_ways, established, goes)

event-timed : (t : Terms) (e : Event) (l : Link) → IsTimed l → Ends (course t e l)
event-timed t (received (frame f)) l h = frames t l h f.address.command f.info f.control
event-timed t e l h = grind (arith, failed_timed, ends, here, told_ways, expired_timed, unchanged, requests, offers)

pub timed-after : (t : Terms) (e : Event) (l : Link) → IsTimed l → IsTimed (after t e l)
timed-after t e l h = record { timer = to-law (after t e l).state (after t e l) (event-timed t e l h).timer }
