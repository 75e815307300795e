-- What layer 3 is told is what becomes of the link: the rows by state, and every event that does not meet state 5.
use Rattle.laws_link.proofs.Vocabulary.{arith, ◌≡◌, ℕ, true, List, Option, Some, None, refl, sym, ◌∙◌, Control, Ua, Dm, Refusal, State, TeiAssigned, AwaitingEstablishment, AwaitingRelease, Terms, Link, Course, begun, establish_in_4, Leads, nothing_leads, depending_leads, known, is_up, Event, Request, frame, received, after, course, frame_in, frame_step, told, Bool, false, true≢false}
use Rattle.model_link.specs.Requests
use Rattle.laws_link.proofs.Knowing.{At, Ends, at_ends, words, ends, rows}

-- There layer 3 may ask for the establishment, or for the release, of which nothing is told at once (annex B).
abbrev pub is_decided : State → Bool
is_decided AwaitingEstablishment = false
is_decided other = true

module _ (up : Bool) (t : Terms) where
  frame_knows : (here : State) → is_decided here ≡ true → (b : Bool) (octets : List ℕ) (control : Control) → Leads (At up here) (frame_in here t b octets control) (Ends up)
  frame_knows AwaitingEstablishment calm b octets control = absurd (true≢false (sym calm))
  frame_knows AwaitingRelease calm b octets (Ua true) = search rows depth 14 fits 6000
  frame_knows AwaitingRelease calm b octets (Dm true) = search rows depth 14 fits 6000
  frame_knows TeiAssigned calm b octets (Ua true) = search rows depth 14 fits 6000
  frame_knows here calm b octets (Dm true) = search rows depth 14 fits 6000
  frame_knows here calm b octets other = search rows depth 14 fits 6000

-- an establishment is granted in state 4 alone
module _ (t : Terms) (l : Link) (calm : is_decided l.state ≡ true) where
  here : At (is_up l) l.state (begun l)
  here = record { state_is = refl; known_is = grind arith }

  unchanged : Ends (is_up l) (begun l)
  unchanged = record { known_is = grind arith }

  frames : (b : Bool) (octets : List ℕ) (control : Control) → Ends (is_up l) (frame_step t b octets control (begun l))
  frames b octets control = (frame_knows (is_up l) t l.state calm b octets control).leads (begun l) here

  establishes : l.state ≡ TeiAssigned → Ends (is_up l) (establish_in_4 t (begun l))
  establishes at = grind (arith, ends)

  granted : (request : Request) (full : Bool) → Requests.refusal t l full request ≡ None → Ends (is_up l) (Requests.granted t request (begun l))
  granted request full e = grind (arith, calm, establishes, rows, here, at_ends, words)

  requests : (request : Request) (full : Bool) (o : Option Refusal) → Requests.refusal t l full request ≡ o
      → Ends (is_up l) (elim o as (λ o. Course) [ None ↦ Requests.granted t request (begun l) | Some _ ↦ begun l ])
  requests request full o e = grind (arith, granted, unchanged)

  event-knows : (e : Event) → Ends (is_up l) (course t e l)
  event-knows (received (frame f)) = frames f.address.command f.info f.control
  event-knows e = grind (arith, calm, here, depending_leads, at_ends, nothing_leads, requests, ends)

pub layer_3_knows : (t : Terms) (e : Event) (l : Link) → is_decided l.state ≡ true → known (is_up l) (told t e l).notes ≡ is_up (after t e l)
layer_3_knows t e l calm = (event-knows t l calm e).known_is ∙ sym (grind arith)
