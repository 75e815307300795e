-- Own busy ends at an end: what its request and its RR leave, at that end and at the other.
use Rattle.laws_link.proofs.Vocabulary.{◌≡◌, ℕ, ◌≤◌, Bool, true, false, cond, IsTrue, List, [], ◌∷◌, ◌++◌, Some, refl, sym, ap, subst, ◌∙◌, append-nil, arith, nat_lt, lt-ltb, seq, named, ReceiveReady, Parts, State, T200, Terms, Link, is_multiple_frame, frame, received, requested, ClearBusy, IsInRange, Course, begun, Endpoint, with_link, with_sent, without_first, response}
use Rattle.laws_link.proofs.OfTwo.Plain.{acknowledgement_frame}
use Rattle.laws_link.proofs.OfTwo.Shapes.{in_8_with, in_7_with, having, acknowledged-8}
use Rattle.laws_link.proofs.OfTwo.Acknowledging.{Acknowledges, by-rr}

-- An end that is left as it was, except for V(A), that own busy is off, whether it takes the other for busy, and
-- whether it owes an acknowledgement.
pub record IsLeft (va : ℕ) (taken owed : Bool) (n n' : Endpoint) : Type 0 where
  pub terms : n'.terms ≡ n.terms
  pub contents : n'.link.contents ≡ n.link.contents
  pub a : n'.link.a ≡ va
  pub s : n'.link.s ≡ n.link.s
  pub r : n'.link.r ≡ n.link.r
  pub delivered : n'.delivered ≡ n.delivered
  pub state : n'.link.state ≡ n.link.state
  pub repeats : n'.link.repeats ≡ n.link.repeats
  pub peer_busy : n'.link.peer_busy ≡ taken
  pub pending : n'.link.pending ≡ owed
  pub own_busy : n'.link.own_busy ≡ false
  pub waiting : n'.link.waiting ≡ []
  pub way : n'.way ≡ []

-- The end that was busy gives RR.
module _ (n : Endpoint) (ranges : IsInRange n.terms) (busy : n.link.own_busy ≡ true) (waits : n.link.waiting ≡ []) (ways : n.way ≡ []) where
  abbrev over : Endpoint → Endpoint
  over x = with_sent (with_link (requested ClearBusy false) x)

  room : nat_lt 0 n.terms.control ≡ true
  room = let low : 2 ≤ n.terms.control = ranges.control_low in lt-ltb 0 n.terms.control (omega arith)

  abbrev known : State → Endpoint
  known here = record n { link = record n.link { state = here; own_busy = true; waiting = [] }; way = [] }

  abbrev told : State → Bool → Endpoint
  told here b =
      record n {
        link = record n.link { state = here; own_busy = false; pending = false; waiting = cond b (response (ReceiveReady (seq n.link.r) false) ∷ []) [] };
        way = [];
        delivered = n.delivered ++ [];
      }

  abbrev quiet : State → List Parts → List (List ℕ) → Endpoint
  quiet here fs ds = record n { link = record n.link { state = here; own_busy = false; pending = false; waiting = [] }; way = fs; delivered = ds }

  pub record Gives (x : Endpoint) : Type 0 where
    pub way : x.way ≡ acknowledgement_frame n.terms n.link ∷ []
    pub left : IsLeft n.link.a n.link.peer_busy false n (without_first x)

  in-7 : n.link.state ≡ State.Established → over n ≡ quiet State.Established (acknowledgement_frame n.terms n.link ∷ []) n.delivered
  in-7 s = grind (arith, room, acknowledgement_frame, append-nil)

  in-8 : n.link.state ≡ State.TimerRecovery → over n ≡ quiet State.TimerRecovery (acknowledgement_frame n.terms n.link ∷ []) n.delivered
  in-8 s = grind (arith, room, acknowledgement_frame, append-nil)

  by-state : (here : State) → n.link.state ≡ here → IsTrue (is_multiple_frame here) → Gives (over n)
  by-state here e up = grind (arith, in-7, in-8)

  pub gives : IsTrue (is_multiple_frame n.link.state) → Gives (over n)
  gives up = by-state n.link.state refl up

-- The other receives it.
module _ (m : Endpoint) (free : m.link.own_busy ≡ false) (waiting : m.link.waiting ≡ []) (way : m.way ≡ []) (t : Terms) (l : Link) (x : ℕ)
    (names : named m.link.a m.link.s (seq l.r) ≡ Some x) (low : m.link.a ≤ x) where
  abbrev hears : Endpoint → Endpoint
  hears y = with_link (received (frame (acknowledgement_frame t l))) y

  abbrev Hears : Endpoint → Type 0
  Hears y = IsLeft x false m.link.pending m y

  is-8 : m.link.state ≡ State.TimerRecovery → m.link.running ≡ Some T200 → m ≡ in_8_with false m [] m.link.peer_busy m.link.a m.link.pending m.delivered
  is-8 e r = λ i. record m { link = record m.link { state = e i; own_busy = free i; waiting = waiting i; running = r i }; way = way i }

  abbrev here : Course
  here = begun (in_7_with false false m [] m.link.a m.link.s m.link.pending m.link.running m.delivered).link

  ended : (c : Course) → Acknowledges x here c → m.link.state ≡ State.Established → Hears (having (in_7_with false false m [] m.link.a m.link.s m.link.pending m.link.running m.delivered) c)
  ended c h e = grind (arith, having, in_7_with, append-nil)

  hears-8 : m.link.state ≡ State.TimerRecovery → m.link.running ≡ Some T200 → Hears (hears m)
  hears-8 e r = subst Hears (sym (ap hears (is-8 e r) ∙ acknowledged-8 false m [] m.link.peer_busy m.link.a m.link.pending m.delivered t l x names)) (grind arith)

  pub heard : (here : State) → m.link.state ≡ here → IsTrue (is_multiple_frame here) → (here ≡ State.TimerRecovery → m.link.running ≡ Some T200) → Hears (hears m)
  heard here e up ran = grind (arith, ended, by-rr, hears-8)
