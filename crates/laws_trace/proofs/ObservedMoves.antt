-- How an event moves what an observer knows of a link: the state, the numbers, what layer 3 asked and how often T200 expired.
use Rattle.laws_trace.proofs.Vocabulary.{arith, ◌≡◌, ℕ, ◌==◌, ◌&&◌, ◌||◌, Bool, true, false, refused, gave, malformed, frame_of, sym, subst, refl, and_parts, is_for, hears, next, Establish, Release, cond, Option, Some, None, is_some, option_map_or, Service, Timer, Parts, State, TeiAssigned, AwaitingEstablishment, AwaitingRelease, Established, TimerRecovery, LinkTimer, state_number, Config, expiry}
use Rattle.laws_trace.proofs.Vocabulary.{request, Answer, LineTold, Control, T200, Event, told, Request, its_frame, Observed, anew}
use Rattle.laws_trace.proofs.Vocabulary.{while_up}
use Rattle.laws_trace.proofs.Vocabulary.{while_down, observer_by_frame as by_frame, by_t200, observer_by_expiry as by_expiry, enquires, by_event, is_own, is_up, seen, TimerT200}
use Rattle.lapd_frame.specs.declared.readings.Reading.{Reading}
use Rattle.model_line.specs.Line.{repeats_in}
use Rattle.laws_trace.specs.Observer.{may_repeat}
use Rattle.laws_trace.proofs.TimersWatched.{sent_by, Known, nothing_yet}
use Rattle.laws_trace.proofs.States as states
use Rattle.laws_trace.proofs.MovesWatched as moves
use Rattle.laws_trace.proofs.TimersWatched as known
use Rattle.laws_trace.specs.LinkFrames.{is_too_long}
use Rattle.laws_trace.proofs.ObservedShape.{When, at_state, Shape, Moved, none_more, one_more}
use Rattle.laws_trace.proofs.NewsWatched.{wish_of}

-- The numbers behind a control field.
abbrev heard_known : ℕ → ℕ → Known → Option Control → Known
heard_known s to k o = cond (to == 7 || to == 8) (option_map_or (known.listens (s == 8 && to == 7) (to == 7) k) o k) nothing_yet

abbrev Frame : Config → State → Known → Bool → Bool → Control → Type 0
Frame c x k long command control =
    (owed : Bool) (o : Observed) → let s = state_number x in When (s == 5) (o.owed ≡ owed) → let to = moves.by_frame c.reading k owed s command long control in let p = at_state s k o in
    Moved s to (heard_known s to k (Some control)) (s == 4) None 0 none_more p (cond (is_up s) (while_up long command control p) (while_down c control p))

-- In state 4.
in_4 : (c : Config) (long command : Bool) (control : Control) → Frame c TeiAssigned nothing_yet long command control
in_4 c long command control owed o h = grind arith

-- In state 5.
in_5 : (c : Config) (long command : Bool) (control : Control) → Frame c AwaitingEstablishment nothing_yet long command control
in_5 c long command control owed o h = grind arith

-- In state 6.
in_6 : (c : Config) (long command : Bool) (control : Control) → Frame c AwaitingRelease nothing_yet long command control
in_6 c long command control owed o h = grind arith

module _ (k : Known) where
  -- An N(R) in state 7 or 8, by whether it is invalid.
  -- RR, RNR and REJ.
  -- In state 7.
  in_7 : (c : Config) (long command : Bool) (control : Control) → Frame c Established k long command control
  in_7 c long command control owed o h = grind (arith, moves.is_invalid)

  -- In state 8.
  in_8 : (c : Config) (long command : Bool) (control : Control) → Frame c TimerRecovery k long command control
  in_8 c long command control owed o h = grind (arith, moves.is_invalid)

-- Nothing moves.
abbrev Stays : State → Known → Type 0
Stays x k = (new : Bool) (wish : Option Bool) → When (state_number x == 5) (wish ≡ None) → (first : ℕ) (o : Observed) → let s = state_number x in let p = at_state s k o in Moved s s (cond (s == 7 || s == 8) k nothing_yet) new wish first none_more p p

stays : (x : State) (k : Known) → Shape x k → Stays x k
stays x k shape = grind arith

no-wish : (x : State) → When (state_number x == 5) (◌≡◌ {A = Option Bool} None None)
no-wish x = grind arith

-- A frame, in any state.
by-state : (c : Config) (x : State) (k : Known) → Shape x k → (long command : Bool) (control : Control) → Frame c x k long command control
by-state c TeiAssigned k shape long command control = subst (λ (k : Known). Frame c TeiAssigned k long command control) (sym shape) (in_4 c long command control)
by-state c AwaitingEstablishment k shape long command control = subst (λ (k : Known). Frame c AwaitingEstablishment k long command control) (sym shape) (in_5 c long command control)
by-state c AwaitingRelease k shape long command control = subst (λ (k : Known). Frame c AwaitingRelease k long command control) (sym shape) (in_6 c long command control)
by-state c Established k shape long command control = in_7 k c long command control
by-state c TimerRecovery k shape long command control = in_8 k c long command control

-- No timer expires.
with_first : {s to : ℕ} {k : Known} {new : Bool} {wish : Option Bool} {more : ℕ → ℕ} {p q : Observed} (r : Reading) (n : ℕ) (up : Bool) → Moved s to k new wish 0 more p q
    → Moved s to k new wish (moves.first_of r n up None) more p q
with_first r n true h = h
with_first r n false h = h

module _ (c : Config) (service : Service) (tei : ℕ) where
  -- What is heard, by whether it is malformed, and as it is read.
  abbrev Heard : State → Known → Bool → Observed → Bool → Option Parts → Type 0
  Heard x k owed o m f =
      let s = state_number x in let p = at_state s k o in
      let to = cond {A = ℕ} (is_up s && m) 5 (moves.by_parts c service tei k owed s f) in
      Moved s to (heard_known s to k (known.control_in service tei f)) (s == 4) None 0 none_more p
      (cond (is_up s && m) (anew p) (option_map_or (by_frame c p) (its_frame service tei f) p))

  of-frame : (x : State) (k : Known) → Shape x k → (owed : Bool) (o : Observed) → When (state_number x == 5) (o.owed ≡ owed) → (f : Parts) (b : Bool) → let s = state_number x in let p = at_state s k o in
      let to = cond {A = ℕ} b (moves.by_frame c.reading k owed s f.address.command (is_too_long c f) f.control) s in
      Moved s to (heard_known s to k (cond b (Some f.control) None)) (s == 4) None 0 none_more p (option_map_or (by_frame c p) (cond b (Some f) None) p)
  of-frame x k shape owed o h f true = by-state c x k shape (is_too_long c f) f.address.command f.control owed o h
  of-frame x k shape owed o h f false = stays x k shape (state_number x == 4) None (no-wish x) 0 o

  -- a fault
  faulty : (x : State) (k : Known) → is_up (state_number x) ≡ true → (o : Observed) → let p = at_state (state_number x) k o in Moved (state_number x) 5 nothing_yet (state_number x == 4) None 0 none_more p (anew p)
  faulty x k up o = grind arith

  heard-moves : (x : State) (k : Known) → Shape x k → (owed : Bool) (o : Observed) → When (state_number x == 5) (o.owed ≡ owed) → (m : Bool) (f : Option Parts) → Heard x k owed o m f
  heard-moves x k shape owed o h m f = go (is_up (state_number x) && m) refl f
    where
      go : (b : Bool) → (is_up (state_number x) && m) ≡ b → (f : Option Parts) → let s = state_number x in let p = at_state s k o in
          let to = cond {A = ℕ} b 5 (moves.by_parts c service tei k owed s f) in
          Moved s to (heard_known s to k (known.control_in service tei f)) (s == 4) None 0 none_more p (cond b (anew p) (option_map_or (by_frame c p) (its_frame service tei f) p))
      go true is f = faulty x k (and_parts (is_up (state_number x)) m is).0 o
      go false is None = stays x k shape (state_number x == 4) None (no-wish x) 0 o
      go false is (Some f) = of-frame x k shape owed o h f (is_for service tei f.address)

  -- What runs out.
  enquiry : (k : Known) (o : Observed) (more : ℕ → ℕ) (n : ℕ) (b : Bool) → let p = at_state 7 k o in let to = cond {A = ℕ} b 8 7 in
      Moved 7 to (cond (to == 7 || to == 8) k nothing_yet) false None n more p (cond b (enquires n p) p)
  enquiry k o more n b = grind arith

  abbrev pub grown : Event → ℕ → ℕ
  grown (expiry (TimerT200 of by)) = cond (is_own service tei of by) one_more none_more
  grown other = none_more

  -- An event of the line.
  abbrev pub EventMoves : State → Known → Bool → Observed → Event → Answer → Type 0
  EventMoves x k owed o what a =
      let s = state_number x in let p = at_state s k o in
      let to = moves.led c service tei k owed o.expiries what (seen what a) s in
      Moved s to (known.learned c service tei (Some s) (Some to) k (seen what a)) (s == 4) (wish_of c service tei what a) (moves.first c (Some s) (states.expired_of service tei what)) (grown what) p (by_event c service tei what a p)

  abbrev Timed : State → Known → (ℕ → ℕ) → Option LinkTimer → Observed → Observed → Type 0
  Timed x k more timer p q =
      let s = state_number x in let to = option_map_or (moves.by_expiry (may_repeat c p) k s) timer s in Moved s to (cond (to == 7 || to == 8) k nothing_yet) (s == 4) None (moves.first c (Some s) timer) more p q

  by-t200 : (x : State) (k : Known) → Shape x k → (o : Observed) (b : Bool) → let p = at_state (state_number x) k o in
      Timed x k (cond b one_more none_more) (cond b (Some T200) None) p (cond b (by_t200 c p) p)
  by-t200 x k shape o b = grind (arith, enquiry, one_more, known.awaits, stays)

  timer-moves : (x : State) (k : Known) → Shape x k → (o : Observed) (timer : Timer) → let p = at_state (state_number x) k o in
      Timed x k (grown (expiry timer)) (states.expired_of service tei (expiry timer)) p (by_expiry c service tei timer p)
  timer-moves x k shape o timer = grind (arith, by-t200, enquiry, none_more, known.awaits, stays)

  -- What is asked.
  asked-moves : (x : State) (k : Known) → Shape x k → (owed : Bool) (o : Observed) (r : Request) (t : LineTold) → EventMoves x k owed o (request r) (told t)
  asked-moves x k shape owed o (Establish of by) t = grind (arith, stays)
  asked-moves x k shape owed o (Release of by) t = grind (arith, stays)
  asked-moves x k shape owed o r t = grind (arith, stays)

  -- Any event of the line.
  pub event-moves : (x : State) (k : Known) → Shape x k → (owed : Bool) (o : Observed) → When (state_number x == 5) (o.owed ≡ owed) → (what : Event) (a : Answer) → EventMoves x k owed o what a
  event-moves x k shape owed o h (request r) (told t) = asked-moves x k shape owed o r t
  event-moves x k shape owed o h (request r) (refused why) = stays x k shape (state_number x == 4) None (no-wish x) (moves.first c (Some (state_number x)) None) o
  event-moves x k shape owed o h (request r) (gave frame) = stays x k shape (state_number x == 4) None (no-wish x) (moves.first c (Some (state_number x)) None) o
  event-moves x k shape owed o h (hears e) (told t) =
      with_first c.reading (repeats_in c 8) (states.is_state 7 (Some (state_number x))) (heard-moves x k shape owed o h (is_some (malformed c service tei e)) (frame_of c e))
  event-moves x k shape owed o h (hears e) (refused why) =
      with_first c.reading (repeats_in c 8) (states.is_state 7 (Some (state_number x))) (heard-moves x k shape owed o h (is_some (malformed c service tei e)) (frame_of c e))
  event-moves x k shape owed o h (hears e) (gave frame) =
      with_first c.reading (repeats_in c 8) (states.is_state 7 (Some (state_number x))) (heard-moves x k shape owed o h (is_some (malformed c service tei e)) (frame_of c e))
  event-moves x k shape owed o h (expiry timer) a = grind (arith, timer-moves)
  event-moves x k shape owed o h next a = grind (arith, stays, at_state, sent_by)
