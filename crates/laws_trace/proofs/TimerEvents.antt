-- What is known of a link, and when its timers are started anew: any event of a link but an offer.
use Rattle.laws_trace.proofs.Vocabulary.{◌≡◌, ◌≤◌, Bool, true, false, Option, Some, None, refl, arith, if◌then◌else◌, HasItsTimer, needed_in, requested, State, AwaitingEstablishment, Established, TimerRecovery, Terms, LinkTimer, received, expired, offer, cleared, Link, course, ◌then◌, runs, is_timer, eqb-true, Control, T200, T203, LinkEvent as Event, frame, LinkIsSound as IsSound, Step, begun}
use Rattle.laws_trace.proofs.Vocabulary.{LinkRequest as Request, expired_step, request_step}
use Rattle.laws_trace.proofs.TimersWatched.{Known}
use Rattle.laws_trace.proofs.TimerActs.{timing, whichever}
use Rattle.laws_trace.proofs.TimerClaims.{IsKnown, Agrees, Good, Fair, fair, asked-4, ended, failed-8, released-7, released-8, same-4, same-5, same-6, same-7, same-8}
use Rattle.laws_trace.proofs.TimerRows.{in_state}
use Rattle.laws_trace.proofs.TimerRows as rows

-- The timers that ran, and had not just expired.
abbrev pub ran_before : Event → Option LinkTimer → LinkTimer → Bool
ran_before (expired other) r timer = if is_timer other timer then false else runs timer r
ran_before other r timer = runs timer r

abbrev pub control_of : Event → Option Control
control_of (received (frame f)) = Some f.control
control_of other = None

abbrev pub is_request : Event → Bool
is_request (requested asks full) = true
is_request other = false

abbrev pub ran_with : Option LinkTimer → LinkTimer → Bool
ran_with r timer = runs timer r

module _ (t : Terms) (k : Known) (l : Link) where
  abbrev Facts : (LinkTimer → Bool) → State → Type 0
  Facts ran here = rows.Facts t k ran l here

  abbrev Row : (LinkTimer → Bool) → State → Step → Option Control → Type 0
  Row ran here f o = Good k ran (timing (begun (in_state here l))) (timing (f (begun (in_state here l)))) o

  -- Requests.
  refused : (ran : LinkTimer → Bool) (here : State) → Facts ran here → Row ran here (λ c. c) None
  refused ran here facts = rows.unchanged t k ran l here facts (λ c. c) (record { acts = λ c. refl })

  abbrev is_five : State → Bool
  is_five AwaitingEstablishment = true
  is_five other = false

  asked : (ran : LinkTimer → Bool) (asks : Request) (full : Bool) (here : State) → is_five here ≡ false → Facts ran here → Row ran here (request_step t asks full) None
  asked ran asks full here other facts = grind (arith, facts, asked-4, refused, released-7, released-8, rows.unchanged, whichever)

  -- In state 5 layer 3 may decide.
  abbrev FairRow : (LinkTimer → Bool) → State → Step → Type 0
  FairRow ran here f = Fair k ran (timing (begun (in_state here l))) (timing (f (begun (in_state here l)))) None

  decided : (ran : LinkTimer → Bool) (asks : Request) (full : Bool) → FairRow ran AwaitingEstablishment (request_step t asks full)
  decided ran asks full = grind arith

  fairly : (ran : LinkTimer → Bool) (asks : Request) (full : Bool) (here : State) → Facts ran here → FairRow ran here (request_step t asks full)
  fairly ran asks full AwaitingEstablishment facts = decided ran asks full
  fairly ran asks full here facts = fair k ran _ _ None (asked ran asks full here refl facts)

  -- Expiries, by the timer that runs.
  abbrev with_running : State → Option LinkTimer → Link
  with_running here r = record l { state = here; running = r }

  abbrev Expires : LinkTimer → State → Option LinkTimer → Type 0
  Expires timer here r =
      let c = begun (with_running here r) in
      Good k (ran_before (expired timer) r) (timing c) (timing (expired_step t timer c)) None

  -- T200 in states 5 and 6
  expires-5 : (timer : LinkTimer) → Expires timer AwaitingEstablishment (Some T200)
  expires-5 timer = grind (arith, same-5, Good, timing, ended)

  -- and in state 8
  expires-8 : IsKnown k l.a l.s l.peer_busy → (timer : LinkTimer) → Expires timer TimerRecovery (Some T200)
  expires-8 known timer = grind (arith, same-8, Good, timing, failed-8)

-- A link that runs the timer that it needs.
module _ (t : Terms) (k : Known) (l : Link) (s : IsSound t l) (small : t.k ≤ 127) (timed : HasItsTimer l) (agrees : Agrees l.state k l.a l.s l.peer_busy) where
  -- T203 runs in state 7 where nothing is outstanding, and the terminal is not busy
  idle : (r : Option LinkTimer) → r ≡ needed_in Established l → runs T203 r ≡ true → (l.s ≡ l.a) × (l.peer_busy ≡ false)
  idle r is now = grind (arith, eqb-true)

  facts : rows.Facts t k (ran_with l.running) l l.state
  facts = grind (arith, idle)

  -- Any event but an offer, a request, and the end of the TEI.
  pub event-whole : (e : Event) → (e ≡ offer → ⊥) → (e ≡ cleared → ⊥) → is_request e ≡ false
      → Good k (ran_before e l.running) (timing (begun l)) (timing (course t e l)) (control_of e)
  event-whole (received (frame f)) a b other = rows.by-frame t k (ran_with l.running) l l.state facts f.address.command f.info f.control
  event-whole e a b other = grind (arith, rows.malformed, facts, same-4, expires-5, same-6, expires-8, same-7, idle)

  -- And a request.
  pub event-good : (e : Event) → (e ≡ offer → ⊥) → (e ≡ cleared → ⊥)
      → Fair k (ran_before e l.running) (timing (begun l)) (timing (course t e l)) (control_of e)
  event-good (requested asks full) a b = fairly t k l (ran_with l.running) asks full l.state facts
  event-good e a b = go (is_request e) refl
    where
      go : (r : Bool) → is_request e ≡ r → Fair k (ran_before e l.running) (timing (begun l)) (timing (course t e l)) (control_of e)
      go false other = fair k (ran_before e l.running) _ _ (control_of e) (event-whole e a b other)
      go true other = grind (arith, fairly, facts)
