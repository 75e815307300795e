-- Every word of the tables keeps a link sound, over the plain values of which soundness speaks.
pub use Rattle.model_link.proofs.FrameRows.{named-within}
use Rattle.model_link.proofs.Vocabulary.{◌≡◌, ℕ, ◌+◌, ◌-◌, ◌<◌, ◌≤◌, Bool, true, false, cond, not, ◌&&◌, IsTrue, List, [], ◌∷◌, ◌++◌, length, take, drop, Option, Some, None, refl, sym, ap, subst, ◌∙◌, true≢false, arith, length-append, length-drop, length-take-le, All, nat_lt, nat_le, ltb-true, ltb-false, leb-false, and_parts, All-push, All-tail, All-take, All-drop, Refusal, WrongState, TooLong}
use Rattle.model_link.proofs.Vocabulary.{QueueFull, State, TeiAssigned, AwaitingEstablishment, AwaitingRelease, Established, TimerRecovery, ControlFrame, Terms, is_multiple_frame, IsWaitingFrame, Course, ◌then◌, LinkTimer, data_in_7_8, Data, begin_anew, enter, own_busy_is, report_receiver_status, send_again_from, start, with_own_busy, refusal, is_established}
use Rattle.std.specs.Prelude.{min}
use Rattle.model_link.proofs.Waits.{Waits, ready_waits}
use Rattle.model_link.proofs.Careful.{is_at_rest, idle, Careful}

-- What is settled of the number of contents in each state.
abbrev pub settled : ℕ → ℕ → State → Bool → Type 0
settled a n TeiAssigned asked = n ≡ a
settled a n AwaitingEstablishment asked = IsTrue asked → n ≡ a
settled a n AwaitingRelease asked = n ≡ a
settled a n Established asked = Unit {0}
settled a n TimerRecovery asked = Unit {0}

-- What is sound of a link whose queue holds q contents at most.
pub record Standing (t : Terms) (q : ℕ) (contents : List (List ℕ)) (a s g : ℕ) (state : State) (asked : Bool) (waiting : List ControlFrame) (own pending : Bool) : Type 0 where
  pub ordered : a ≤ s
  pub accepted : s ≤ length contents
  pub again : s + g ≤ length contents
  pub within : s ≤ a + t.k
  pub settles : settled a (length contents) state asked
  pub queue : length contents ≤ a + q
  pub ring : length waiting ≤ t.control
  pub quiet : IsTrue own → pending ≡ false
  pub sizes : All (λ octets. length octets ≤ t.n201) contents
  pub frames : All (IsWaitingFrame t) waiting

abbrev pub CourseStands : Terms → ℕ → Course → Type 0
CourseStands t q c = Standing t q c.link.contents c.link.a c.link.s c.link.again c.link.state c.link.asked c.link.waiting c.link.own_busy c.link.pending

-- nothing queued is settled in every state, and anything in states 7 and 8
settles-none : (a n : ℕ) (state : State) (asked : Bool) → n ≡ a → settled a n state asked
settles-none a n state asked h = grind arith

-- in a state in which nothing is queued
at-rest : (a n : ℕ) (here : State) (asked : Bool) → is_at_rest here ≡ true → settled a n here asked → n ≡ a
at-rest a n here asked e h = grind arith

abbrev pub is_in : State → State → Type 0
is_in state here = state ≡ here

module _ {t : Terms} {q : ℕ} {contents : List (List ℕ)} {a s g : ℕ} {state : State} {asked : Bool} {ws : List ControlFrame} {own pending : Bool} (h : Standing t q contents a s g state asked ws own pending) where
  -- flags
  flagged : (own' pending' : Bool) → (IsTrue own' → pending' ≡ false) → Standing t q contents a s g state asked ws own' pending'
  flagged own' pending' x = search

  silent : (own' : Bool) → Standing t q contents a s g state asked ws own' false
  silent own' = flagged own' false (λ on. refl)

  owes : own ≡ false → Standing t q contents a s g state asked ws own true
  owes off = flagged own true (λ on. absurd (true≢false (sym on ∙ off)))

  -- a state is entered: the link is in one in which nothing is queued, or nothing is now
  entering : (state' : State) (asked' : Bool) → settled a (length contents) state' asked' → Standing t q contents a s g state' asked' ws own pending
  entering state' asked' x = search

  resting : (here : State) → idle is_in a s (length contents) state → Standing t q contents a s g here asked ws own pending
  resting here i = entering here asked (settles-none a (length contents) here asked (grind (arith, at-rest)))

  asking : (b : Bool) → (IsTrue b → idle is_in a s (length contents) state) → Standing t q contents a s g AwaitingEstablishment b ws own pending
  asking b i = entering AwaitingEstablishment b (λ on. grind (arith, at-rest))

  -- layer 3 asks in state 5, for the establishment or for the release
  asking-anew : idle is_in a s (length contents) state → Standing t q contents a s g state true ws own pending
  asking-anew i = entering state true (settles-none a (length contents) state true (grind (arith, at-rest)))

  owing : state ≡ AwaitingEstablishment → Standing t q contents a s g state false ws own pending
  owing e = entering state false (grind arith)

  up : (here : State) → IsTrue (is_multiple_frame here) → Standing t q contents a s g here asked ws own pending
  up here m = entering here asked (grind arith)

  -- other control frames wait
  waiting : (ws' : List ControlFrame) → length ws' ≤ t.control → All (IsWaitingFrame t) ws' → Standing t q contents a s g state asked ws' own pending
  waiting ws' x y = search

  one-more : (b : Bool) (f : ControlFrame) → nat_lt (length ws) t.control ≡ b → IsWaitingFrame t f
      → Standing t q contents a s g state asked (cond b (ws ++ f ∷ []) ws) own pending
  one-more true f e w =
      let small : length ws < t.control = ltb-true (length ws) t.control e in
      waiting (ws ++ f ∷ []) (simp length-append (omega arith)) (All-push (IsWaitingFrame t) ws f h.frames w)
  one-more false f e w = h

  sending : (f : ControlFrame) → t.tei ≤ 126 → Waits t f
      → Standing t q contents a s g state asked (cond (nat_lt (length ws) t.control) (ws ++ f ∷ []) ws) own pending
  sending f r w = one-more (nat_lt (length ws) t.control) f refl (w.waits r)

  gone : (f : ControlFrame) (fs : List ControlFrame) → ws ≡ f ∷ fs → Standing t q contents a s g state asked fs own pending
  gone f fs e =
      let size : length ws ≡ length (f ∷ fs) = ap length e in
      waiting fs (omega arith) (All-tail (IsWaitingFrame t) f fs (subst (All (IsWaitingFrame t)) e h.frames))

  -- other numbers and other contents
  numbered : (contents' : List (List ℕ)) (a' s' g' : ℕ) → a' ≤ s' → s' + g' ≤ length contents' → s' ≤ a' + t.k → length contents' ≤ a' + q
      → settled a' (length contents') state asked → All (λ octets. length octets ≤ t.n201) contents' → Standing t q contents' a' s' g' state asked ws own pending
  numbered contents' a' s' g' ordered again within queue settles sizes = record {
    ordered = ordered;
    accepted = omega (arith, again);
    again = again;
    within = within;
    settles = settles;
    queue = queue;
    ring = h.ring;
    quiet = h.quiet;
    sizes = sizes;
    frames = h.frames;
  }

  -- what an N(R) acknowledges, and what is to be sent again
  acknowledging : (i : ℕ) (here : State) → a ≤ i → i ≤ s → state ≡ here → IsTrue (is_multiple_frame here) → Standing t q contents i s g state asked ws own pending
  acknowledging i here from to e m = grind (arith, numbered)

  going-back : (i : ℕ) → a ≤ i → i ≤ s → Standing t q contents a i (min (g + (s - i)) 255) state asked ws own pending
  going-back i from to = numbered contents a i (min (g + (s - i)) 255) from (omega (arith, h.again, to)) (omega (arith, h.within, to)) h.queue h.settles h.sizes

  -- all contents are released
  discarding : Standing t q (take a contents) a a 0 state asked ws own pending
  discarding =
      let low : a ≤ s = h.ordered in
      let e : length (take a contents) ≡ a = length-take-le a contents (omega arith) in
      numbered (take a contents) a a 0 (omega arith) (omega arith) (omega arith) (omega arith) (settles-none a (length (take a contents)) state asked e)
      (All-take (λ octets. length octets ≤ t.n201) a contents h.sizes)

  zeroing : Standing t q (drop s contents) 0 0 0 state asked ws own pending
  zeroing =
      let low : a ≤ s = h.ordered in
      let e : length (drop s contents) ≡ length contents - s = length-drop s contents in
      numbered (drop s contents) 0 0 0 (omega arith) (omega arith) (omega arith) (omega arith) (grind arith)
      (All-drop (λ octets. length octets ≤ t.n201) s contents h.sizes)

  -- contents that are not refused go to the queue
  queueing : (octets : List ℕ) → IsTrue (is_multiple_frame state) → length octets ≤ t.n201 → length (drop a contents) < q
      → Standing t q (contents ++ octets ∷ []) a s g state asked ws own pending
  queueing octets m small free =
      let low : a ≤ s = h.ordered in
      let e : length (drop a contents) ≡ length contents - a = length-drop a contents in
      let more : length (contents ++ octets ∷ []) ≡ length contents + 1 = length-append contents (octets ∷ []) in
      numbered (contents ++ octets ∷ []) a s g low (omega (arith, h.again, more)) h.within (omega arith) (grind arith)
      (All-push (λ os. length os ≤ t.n201) contents octets h.sizes small)

  -- one that is not sent goes, within the window
  sent : (here : State) (busy : Bool) → (is_established here && not busy && nat_lt (s - a) t.k && nat_lt s (length contents)) ≡ true
      → Standing t q contents a (s + 1) (g - 1) state asked ws own pending
  sent here busy e = grind (arith, and_parts, ltb-true, numbered)

-- contents that are not refused find room
not-refused : (b : Bool) (o : Option Refusal) (w : Refusal) → cond b o (Some w) ≡ None → (b ≡ true) × (o ≡ None)
not-refused b o w e = grind arith

not-first : (b : Bool) (o : Option Refusal) (w : Refusal) → cond b (Some w) o ≡ None → (b ≡ false) × (o ≡ None)
not-first b o w e = grind arith

module _ (t : Terms) (r : t.tei ≤ 126) (q : ℕ) (Queued : Type 0) (room : Queued → q ≡ t.queue) where
  -- words that are put together
  transfers : Queued → (octets : List ℕ) (full : Bool) (c : Course) → refusal t c.link full (Data octets) ≡ None
      → CourseStands t q c → CourseStands t q (data_in_7_8 octets c)
  transfers may octets full c e h =
      let parts = not-refused (is_multiple_frame c.link.state) _ WrongState e in
      let small = not-first (nat_lt t.n201 (length octets)) _ TooLong parts.1 in
      let free = not-first (nat_le t.queue (length (drop c.link.a c.link.contents))) _ QueueFull small.1 in
      queueing h octets parts.0 (ltb-false t.n201 (length octets) small.0) (omega (arith, (room may), leb-false t.queue (length (drop c.link.a c.link.contents)) free.0))

  reports : (b : Bool) (c : Course) → CourseStands t q c → CourseStands t q (report_receiver_status t (own_busy_is b c))
  reports b c h = sending (silent h b) _ r (ready_waits t false false (with_own_busy b c.link))

  pub begins : (c : Course) → CourseStands t q (begin_anew c)
  begins c = grind arith

  recovers : (i : ℕ) (timer : LinkTimer) (c : Course) → c.link.a ≤ i → i ≤ c.link.s → CourseStands t q c
      → CourseStands t q ((send_again_from i then start timer then enter Established) c)
  recovers i timer c from to h = up (going-back h i from to) Established refl

  pub stand : Careful t (Unit {0}) (Unit {0}) (Unit {0}) (Unit {0}) Queued (Unit {0}) is_in (CourseStands t q) (λ p p' c. CourseStands t q c) (CourseStands t q)
  stand = search (silent, owes, resting, asking, asking-anew, owing, up, sending, r, gone, acknowledging, going-back, recovers, discarding, zeroing, transfers, sent, reports, begins) depth 12 fits 4000
