-- Which state an event of a link leads to, and how often its command was repeated: by what an observer knows, row by row.
use Rattle.laws_trace.proofs.Vocabulary.{◌≡◌, ℕ, ◌+◌, ◌≤◌, ◌==◌, ◌&&◌, ◌||◌, not, Bool, true, false, cond, length, Option, Some, None, Parts, LinkTimer, is_ui, ap, ◌∙◌, arith, nat_le, nat_lt, is_some, leb-true, leb-false, ReceiveReady, Seq, named, distance_of, seq, HasItsTimer, State, TeiAssigned, AwaitingEstablishment, Established, TimerRecovery, Terms, received, expired, requested, offer}
use Rattle.laws_trace.proofs.Vocabulary.{cleared, Link, state_number, as_heard, state_after}
use Rattle.laws_trace.proofs.Vocabulary.{moves, event-follows, ltb-true, ltb-false, LinkEvent as Event, frame, LinkEstablish as Establish, LinkRelease as Release, is_up, link_after as after}
use Rattle.lapd_frame.specs.Readings.{by_reading}
use Rattle.model_link.specs.Link.{most_repeats}
use Rattle.laws_link.specs.States as states
use Rattle.laws_trace.proofs.MovesWatched.{is_invalid, by_frame, by_expiry, first_of}
use Rattle.laws_trace.proofs.States.{one_more}
use Rattle.laws_trace.proofs.TimersWatched.{Known}
use Rattle.laws_trace.proofs.TimerClaims.{IsKnown, Agrees}
use Rattle.laws_trace.proofs.TimersAreTimely.{by-state}

-- An N(R) that names none of V(A) to V(S) is invalid by what is known.
opposite : (b : Bool) (n : ℕ) → not (is_some (cond b (Some n) None)) ≡ not b
opposite b n = grind arith

module _ (k : Known) (a s : ℕ) (busy : Bool) (known : IsKnown k a s busy) (ordered : a ≤ s) (within : s ≤ a + 127) where
  pub invalid-is : (nr : Seq) → not (is_some (named a s nr)) ≡ is_invalid k nr
  unfolding named distance_of seq
  invalid-is nr = grind (arith, opposite, nat_le, leb-true, ltb-true, leb-false, ltb-false)

-- How often T200 has expired in states 5, 6 and 8 is RC.
abbrev pub Counts : State → ℕ → ℕ → Type 0
Counts TeiAssigned n repeats = Unit {0}
Counts Established n repeats = Unit {0}
Counts other n repeats = n ≡ repeats

abbrev pub ticks : Event → ℕ
ticks (expired timer) = one_more timer
ticks other = 0

-- Whether a release is owed is known in state 5, in which alone one is.
abbrev pub Owes : State → Bool → Bool → Type 0
Owes AwaitingEstablishment owed is = owed ≡ is
Owes other owed is = Unit {0}

-- As an observer says it, by the terms of a link.
abbrev pub is_long : Terms → Parts → Bool
is_long t f = (not (is_ui f.control) || by_reading t.reading false true) && nat_lt t.n201 (length f.info)

abbrev pub timer_of : Event → Option LinkTimer
timer_of (expired timer) = Some timer
timer_of other = None

abbrev pub first_at : Terms → State → Event → ℕ
first_at t from e = first_of t.reading (most_repeats t 8) (state_number from == 7) (timer_of e)

-- What an observer says that an event leads to.
abbrev pub expected : Terms → Known → Bool → ℕ → Event → ℕ → ℕ
expected t k owed n (received (frame f)) state = by_frame t.reading k owed state f.address.command (is_long t f) f.control
expected t k owed n (expired timer) state = by_expiry (nat_lt n (most_repeats t state)) k state timer
expected t k owed n (requested Establish full) state = cond (state == 4) 5 state
expected t k owed n (requested Release full) state = cond (is_up state) 6 state
expected t k owed n (requested other full) state = state
expected t k owed n offer state = state
expected t k owed n cleared state = state
expected t k owed n other state = cond (is_up state) 5 state

module _ (t : Terms) (k : Known) (l : Link) (n : ℕ) (ordered : l.a ≤ l.s) (within : l.s ≤ l.a + 127) where
  -- an N(R) in state 7 or 8
  numbered : IsKnown k l.a l.s l.peer_busy → (nr : Seq) (to : State) (m : ℕ) → state_number to ≡ m
      → state_number (cond (not (is_some (named l.a l.s nr))) AwaitingEstablishment to) ≡ cond (is_invalid k nr) 5 m
  numbered known nr to m is = grind (arith, invalid-is, is_invalid)

  -- RR, RNR and REJ in state 8
  ready-8 : IsKnown k l.a l.s l.peer_busy → (command f : Bool) (nr : Seq)
      → state_number (cond (not (is_some (named l.a l.s nr))) AwaitingEstablishment (states.by_frame t.reading l.owed TimerRecovery command (ReceiveReady nr f)))
      ≡ by_frame t.reading k l.owed 8 command false (ReceiveReady nr f)
  ready-8 known command f nr = grind (arith, numbered)

  same-owed : (here : State) (owed own : Bool) → Owes here owed own → (e : Event) → expected t k own n e (state_number here) ≡ expected t k owed n e (state_number here)
  same-owed here owed own owes e = grind arith

  -- Any event but the end of the TEI.
  pub event-leads : HasItsTimer l → Agrees l.state k l.a l.s l.peer_busy → Counts l.state n l.repeats → (owed : Bool) → Owes l.state owed l.owed → (e : Event) → (e ≡ cleared → ⊥)
      → state_number (after t e l).state ≡ expected t k owed n e (state_number l.state)
  event-leads timed known counts owed owes e some = ap state_number (event-follows t e l).leaves.state ∙ go e some ∙ same-owed l.state owed l.owed owes e
    where
      go : (e : Event) → (e ≡ cleared → ⊥) → state_number (state_after t (as_heard t e) l) ≡ expected t k l.owed n e (state_number l.state)
      go (received (frame f)) some = grind (arith, numbered, ready-8)
      go e some = grind (arith, by-state)

-- RC, where T200 runs in states 5, 6 and 8.
module _ (t : Terms) (l : Link) (n : ℕ) (e : Event) (some : e ≡ cleared → ⊥) where
  pub event-counted : HasItsTimer l → Counts l.state n l.repeats → let y = after t e l in Counts y.state (cond (moves l.state y.state) (first_at t l.state e) (n + ticks e)) y.repeats
  event-counted timed counts = grind (arith, event-follows)
