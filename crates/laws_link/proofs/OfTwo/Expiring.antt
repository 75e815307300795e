-- What the expiry of T200 makes of an end that is cut off: it asks, or it has nothing outstanding.
use Rattle.laws_link.proofs.Vocabulary.{LinkCounts, ◌≡◌, ℕ, ◌≤◌, Bool, true, false, cond, IsTrue, [], ◌∷◌, ◌++◌, Option, Some, refl, ap, ◌∙◌, ◌⊎◌, append-nil, arith, nat_lt, lt-ltb, State, LinkTimer, T200, T203, is_multiple_frame, expired, Endpoint, with_link, IsTimedIn, HeedsIn, IsCutOffWith}
use Rattle.laws_link.proofs.OfTwo.Shapes.{enquiry_with, in_8_with, in_7_with}

abbrev pub with_count : ℕ → LinkCounts → Endpoint → Endpoint
with_count c k n = record n { link = record n.link { repeats = c; counts = k } }

pub record Asking (own : Bool) (n n' : Endpoint) : Type 0 where
  pub count : ℕ
  pub counts : LinkCounts
  pub is : n' ≡ in_8_with own (with_count count counts n) (enquiry_with own n.link.r ∷ []) n.link.peer_busy n.link.a false n.delivered

pub record Resting (own : Bool) (n n' : Endpoint) : Type 0 where
  pub running : Option LinkTimer
  pub is : n' ≡ in_7_with own false n [] n.link.a n.link.s n.link.pending running n.delivered
  pub all : n.link.s ≤ n.link.a
  pub before : n.link.running ≡ Some T203

module _ (own : Bool) (n m : Endpoint) (h : IsCutOffWith own n m) where
  abbrev after : Endpoint → Endpoint
  after x = with_link (expired T200) x

  room : nat_lt 0 n.terms.control ≡ true
  room = let low : 2 ≤ n.terms.control = h.ranges.control_low in lt-ltb 0 n.terms.control (omega arith)

  -- the end with what is known of it
  abbrev known : State → Bool → Option LinkTimer → Endpoint
  known here busy running =
      record n { link = record n.link { state = here; own_busy = own; peer_busy = busy; waiting = []; running = running }; way = [] }

  is-known : (here : State) (busy : Bool) (running : Option LinkTimer) → n.link.state ≡ here → n.link.peer_busy ≡ busy → n.link.running ≡ running → n ≡ known here busy running
  is-known here busy running s b r = grind arith

  abbrev asked : Bool → ℕ → LinkCounts → Endpoint
  asked b count counts =
      record n {
        link = record n.link { state = State.TimerRecovery; own_busy = own; pending = false; waiting = cond b (enquiry_with own n.link.r ∷ []) []; running = Some T200; repeats = count; counts = counts };
        way = [];
        delivered = n.delivered ++ [];
      }

  asks : (b : Bool) (count : ℕ) (counts : LinkCounts) → b ≡ true → asked b count counts ≡ in_8_with own (with_count count counts n) (enquiry_with own n.link.r ∷ []) n.link.peer_busy n.link.a false n.delivered
  asks b count counts e = ap (λ x. asked x count counts) e ∙ ap (λ ds. in_8_with own (with_count count counts n) (enquiry_with own n.link.r ∷ []) n.link.peer_busy n.link.a false ds) (append-nil n.delivered)

  by-state : (here : State) → n.link.state ≡ here → IsTrue (is_multiple_frame here) → IsTimedIn here n.link → HeedsIn here n.link.peer_busy n.link.running
      → Asking own n (after n) ⊎ Resting own n (after n)
  by-state here e up timed heeds = grind (arith, is-known, asks, nat_lt, room, in_7_with, append-nil, lt-ltb)

  pub expires-one : Asking own n (after n) ⊎ Resting own n (after n)
  expires-one = by-state n.link.state refl h.up h.timed.timer h.heeds.heeds
