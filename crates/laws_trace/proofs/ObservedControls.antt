-- The control frames of a link that are due by what the observer knows are those that are due by how the link stands.
use Rattle.laws_trace.proofs.Vocabulary.{arith, ◌≡◌, ℕ, ◌&&◌, not, Bool, true, false, cond, length, List, [], ◌++◌, Some, None, is_some, refl, ap, nat_lt, Result, Ok, Err, option_map_or, seq, Reject, ReadFault, Service, Timer, Parts, reading, Config, request, Answer, heard_side, as_response, is_granted, Request, SetBusy, ClearBusy, result_ok, brought, frame_of, its_frame, is_for}
use Rattle.laws_trace.proofs.Vocabulary.{Managed, due, nothing_due}
use Rattle.laws_trace.proofs.Vocabulary.{Observed, observer_by_expiry as by_expiry, observer_by_request as by_request, by_event, is_up, heard, seen_told, seen_granted, T201, cond_both, stream_frame, StreamEvent}
use Rattle.model_line.specs.Event as line_event
use Rattle.model_line.specs.Line.{is_terminal}
use Rattle.laws_trace.specs.ControlFrames as now_due
use Rattle.laws_trace.proofs.ControlsSeen.{answers_seen, asked-answers}
use Rattle.laws_trace.proofs.ControlsWatched as old
use Rattle.laws_trace.proofs.DeliveriesWatched.{Standing, busy_asked}
use Rattle.laws_trace.proofs.ObservedAnswers.{is_answered}
use Rattle.laws_trace.proofs.ObservedCount.{Same}
use Rattle.laws_trace.proofs.Facts.{either-none, as-busy}

-- What the link says, by the observer and by how it stands.
module _ (c : Config) (service : Service) (tei : ℕ) (o q : Observed) (w u : Standing) (before : is_up o.state ≡ true → Same o w.told.count w.busy w.rejected) where
  -- An I-frame, and RR, RNR and REJ.
  informed : (p long up : Bool) → is_up o.state ≡ up → (up ≡ true → long ≡ false → Same q u.told.count u.busy u.rejected)
      → cond long [] (cond up (old.to_information p w u) [])
      ≡ cond up (cond long [] (cond (q.rejected && not o.rejected) (as_response (Reject (seq q.count) p)) (now_due.polled q p))) []
  informed p long up is behind = grind (arith, old.polled)

  -- A frame that comes.
  abbrev Behind : StreamEvent → Type 0
  Behind e =
      (f : Parts) → its_frame service tei (frame_of c e) ≡ Some f → is_up o.state ≡ true → is_answered (nat_lt c.n201 (length f.info)) f.control ≡ true
      → Same q u.told.count u.busy u.rejected

  abbrev Answers : StreamEvent → Type 0
  Answers e = old.answers_at c service tei w u o.state (heard e) ≡ option_map_or (λ (f : Parts). now_due.answer_to c o q f f.control) (its_frame service tei (frame_of c e)) []

  by-frame : (octets : List ℕ) → Behind (stream_frame octets) → Answers (stream_frame octets)
  by-frame octets behind = go (reading (heard_side c) octets) behind
    where
      go : (r : Result Parts ReadFault)
          → ((f : Parts) → its_frame service tei (result_ok r) ≡ Some f → is_up o.state ≡ true → is_answered (nat_lt c.n201 (length f.info)) f.control ≡ true → Same q u.told.count u.busy u.rejected)
          → old.answers_to_frame c service tei w u o.state r ≡ option_map_or (λ (f : Parts). now_due.answer_to c o q f f.control) (its_frame service tei (result_ok r)) []
      go (Err fault) behind = refl
      go (Ok f) behind = on (is_for service tei f.address) (λ is. behind f (ap (λ b. cond b (Some f) None) is))
        where
          on : (b : Bool)
              → (b ≡ true → is_up o.state ≡ true → is_answered (nat_lt c.n201 (length f.info)) f.control ≡ true → Same q u.told.count u.busy u.rejected)
              → cond b (old.answer_to w u o.state f.address.command (nat_lt c.n201 (length f.info)) f.control) []
              ≡ option_map_or (λ (f : Parts). now_due.answer_to c o q f f.control) (cond b (Some f) None) []
          on b behind = grind (arith, informed, either-none)

  pub by-heard : (e : StreamEvent) → Behind e → Answers e
  by-heard e behind = grind (arith, by-frame)

  -- A request.
  pub asked-answers-is : (r : Request) (a : Answer) → (is_up q.state ≡ true → Same q u.told.count u.busy u.rejected) → (is_up o.state ≡ false → is_up q.state ≡ false)
      → (is_granted a ≡ true → is_up o.state ≡ true → is_up q.state ≡ false → old.changed w u ≡ [])
      → answers_seen c service tei w u o.state (seen_granted r a ++ seen_told a) ≡ cond (is_granted a) (now_due.changed o q) []
  asked-answers-is r a behind down as_before = grind (arith, asked-answers, old.changed, old.receipt)

-- Where nothing is due of TEI management, of whatever side, the same TEIs are on the line.
pub none-due : (c : Config) (w : Managed) → (cond (is_terminal c) (nothing_due w) (nothing_due w)).on ≡ w.on
none-due c w = grind (arith, nothing_due)

-- What is kept while layer 3 asks for something else.
module _ (service : Service) (tei : ℕ) where
  pub stays-down : (c : Config) (r : Request) (o : Observed) → is_up o.state ≡ false → is_up (by_request c service tei r o).state ≡ false
  stays-down c r o down = grind (arith, cond_both)

  -- layer 3 is as busy as before, unless it says so
  abbrev pub busies : Request → Bool
  busies (SetBusy of by) = true
  busies (ClearBusy of by) = true
  busies other = false

  pub still-busy : (r : Request) (busy : Bool) → busies r ≡ false → busy_asked service tei busy r ≡ busy
  still-busy r busy is = grind arith

  pub none-led : (c : Config) (r : Request) (w : Managed) → busies r ≡ true → (due c (request r) w).on ≡ w.on
  none-led c other w is = grind (arith, none-due)

-- Where no frame comes, and nothing is granted, layer 3 is as busy as before.
abbrev pub AsBusy : Observed → Observed → Type 0
AsBusy o q = is_up q.state ≡ true → q.own_busy ≡ o.own_busy

pub unchanged : (o q : Observed) → AsBusy o q → now_due.changed o q ≡ []
unchanged o q same = grind (arith, as-busy)

module _ (c : Config) (service : Service) (tei : ℕ) (o : Observed) where
  ran-out : (timer : Timer) → AsBusy o (by_expiry c service tei timer o)
  ran-out T201 = λ up. refl
  ran-out other = grind arith

  pub as-busy-before : (what : line_event.Event) (a : Answer) → brought c service tei what ≡ None → ((r : Request) → what ≡ request r → is_granted a ≡ false)
      → AsBusy o (by_event c service tei what a o)
  as-busy-before what a none idle = grind (arith, is_some, ran-out)
