-- How an event of a line moves what an observer knows of this side of a link: how many contents were told, whether layer 3
-- is busy, and whether an I-frame is rejected.
use Rattle.laws_trace.proofs.Vocabulary.{arith, ◌≡◌, ℕ, ◌+◌, ◌==◌, ◌&&◌, ◌||◌, not, Bool, true, false, cond, Option, is_some, option_map_or, Sabme, Ua, Service, Parts, State, Established, TimerRecovery, state_number, Config, Answer, Control, Event, brings_next, brought, Observed, anew, while_up, while_down, observer_by_frame as by_frame, by_event, is_up}
use Rattle.laws_trace.specs.Deliveries.{is_taken}
use Rattle.laws_trace.specs.Units.{is_ui}
use Rattle.laws_trace.proofs.ObservedShape.{When}
use Rattle.laws_trace.proofs.Standing.{asked_busy}
use Rattle.model_link.specs.Sound.{is_information}

-- The numbers begin by SABME in states 4, 7 and 8, and by UA with F=1 in state 5.
abbrev pub begun_by : ℕ → Control → Bool
begun_by s (Sabme p) = s == 4 || is_up s
begun_by s (Ua f) = f && s == 5
begun_by s other = false

-- Behind a step that leads to state 7 or 8, by whether the link was there before, the numbers begin, data is told, and an I-frame comes; and by whether layer 3 is busy then.
pub record Stood (up begins taken information busy : Bool) (o q : Observed) : Type 0 where
  pub before : (up || begins) ≡ true
  pub count_is : q.count ≡ cond begins 0 (cond taken (o.count + 1) o.count)
  pub busy_is : q.own_busy ≡ cond begins false busy
  pub rejected_is : q.rejected ≡ cond (begins || taken) false (cond (information && not busy) true o.rejected)

abbrev pub in_number : ℕ → Observed → Observed
in_number s o = record o { state = s }

abbrev Frame : Config → State → Bool → Bool → Bool → Control → Type 0
Frame c x units long command control =
    (o : Observed) → let s = state_number x in let p = in_number s o in let q = cond (is_up s) (while_up ((not (is_ui control) || units) && long) command control p) (while_down c control p) in
    When (is_up q.state) (Stood (is_up s) (begun_by s control) (is_up s && (not long && brings_next p control)) (is_information control) p.own_busy p q)

-- An N(R) in states 7 and 8, by whether it is invalid. The first bit says that a UI may be too long, too.
in_7 : (c : Config) (units long command : Bool) (control : Control) → Frame c Established units long command control
in_7 c units long command control o = grind arith

in_8 : (c : Config) (units long command : Bool) (control : Control) → Frame c TimerRecovery units long command control
in_8 c units long command control o = grind arith

-- Nothing moves.
rests : (x : State) (o : Observed) → let p = in_number (state_number x) o in When (is_up (state_number x)) (Stood (is_up (state_number x)) false false false p.own_busy p p)
rests x o = grind arith

module _ (c : Config) (service : Service) (tei : ℕ) where
  abbrev pub begins_by : State → Option Parts → Bool
  begins_by x f = option_map_or (λ (f : Parts). begun_by (state_number x) f.control) f false

  abbrev pub taken_by : Observed → Option Parts → Bool
  taken_by p f = option_map_or (is_taken c p) f false

  abbrev pub informs : Option Parts → Bool
  informs f = option_map_or (λ (f : Parts). is_information f.control) f false

  abbrev Heard : State → Observed → Bool → Option Parts → Type 0
  Heard x o m f =
      let s = state_number x in let p = in_number s o in
      let q = cond (is_up s && m) (anew p) (option_map_or (by_frame c p) f p) in
      When (is_up q.state) (Stood (is_up (state_number x)) (begins_by x f) (taken_by p f) (informs f) p.own_busy p q)

  heard-stands : (x : State) (o : Observed) (m : Bool) (f : Option Parts) → Heard x o m f
  heard-stands x o m f = grind (arith, rests, in_7, in_8)

  abbrev Busied : State → Observed → Bool → Observed → Type 0
  Busied x o busy q = let p = in_number (state_number x) o in When (is_up q.state) (Stood (is_up (state_number x)) false false false busy p q)

  ends-busy : (x : State) (o : Observed) (b : Bool) → let p = in_number (state_number x) o in Busied x o (not b && p.own_busy) (cond b (record p { own_busy = false }) p)
  ends-busy x o b = grind (arith, rests)

  -- An event of the line.
  abbrev pub EventStands : State → Observed → Event → Answer → Type 0
  EventStands x o what a =
      let p = in_number (state_number x) o in let q = by_event c service tei what a p in let f = brought c service tei what in
      When (is_up q.state) (Stood (is_up (state_number x)) (begins_by x f) (taken_by p f) (informs f) (asked_busy service tei what a p.own_busy) p q)

  pub event-stands-so : (x : State) (o : Observed) (what : Event) (a : Answer) → EventStands x o what a
  event-stands-so x o what a = grind (arith, heard-stands, is_some, rests, ends-busy)
