-- Each row of the tables tells at most two notes.
use Rattle.model_link.proofs.Vocabulary.{◌≡◌, ℕ, ◌+◌, ◌≤◌, zero-add, Bool, cond, ◌&&◌, List, [], ◌∷◌, ◌++◌, length, Option, None, is_some, ◌⊎◌, inr, refl, sym, ap, ◌∙◌, arith, length-append, Control, Ui, ErrorCode, Note, State, TeiAssigned, AwaitingEstablishment, AwaitingRelease, Established, TimerRecovery, LinkTimer, T200, T203, Terms, Link, Course, begun, Step, by_bit}
use Rattle.model_link.proofs.Vocabulary.{is_owed, list_any, Timer, Order, Start, Stop, is_data, is_unit, runs, orders_for, starts, Event, cleared, frame, received, nat_lt, deliver_unit, failed, long_unit_in_7_8, leave_unserved, malformed, read_as}
use Rattle.model_link.specs.Machine
use Rattle.model_link.proofs.Leads.{Leads, depending_leads}
use Rattle.model_link.proofs.Telling.{Purse, no_more, another, how_many, Telling, HasTold, ToldWithin, untold, note-told, words}
use Rattle.model_link.proofs.Kept.{two, Fits, FitsEvent}
use Rattle.model_link.proofs.Careful.{anything, Careful, plainly}
use Rattle.model_link.proofs.Rows.{malformed_by, frame_row, event_row}

-- any frame but a UI
abbrev IsNoUnit : Control → Type 0
IsNoUnit (Ui p) = ⊥
IsNoUnit other = Unit {0}

-- and so one that the words speak of
fits : (control : Control) → IsNoUnit control → Fits ⊥ (Unit {0}) (Unit {0}) control
fits control h = grind arith

module _ (t : Terms) where
  told : Careful t ⊥ (Unit {0}) (Unit {0}) (Unit {0}) (Unit {0}) (Unit {0}) (λ state here. Unit {0}) (Telling 2 two) (λ p q c. Telling 2 q c) (HasTold 2)
  told = plainly (words t)

  frames_in : (here : State) (b : Bool) (octets : List ℕ) (control : Control) → IsNoUnit control → Leads (Telling 2 two) (Machine.frame_in here t b octets control) (HasTold 2)
  frames_in here b octets control h = frame_row (words t) here b octets control (fits control h)

  pub cleared_tells : (here : State) → Leads (Telling 1 (another no_more)) (Machine.told_of_clearing here t) (Telling 1 no_more)
  cleared_tells TeiAssigned = search (untold)
  cleared_tells AwaitingEstablishment = depending_leads is_owed (search (note-told)) (search (note-told))
  cleared_tells other = search (note-told)

  -- Each event.
  begins : (p : Purse) (total : ℕ) → how_many p ≤ total → (l : Link) → Telling total p (begun l)
  begins p total room l = record { count = omega (arith, room); data_told = refl; no_unit = refl; no_note = refl }

  -- what is told: notes of data where contents are delivered, and unit data only where none are
  TellsOf : Course → Type 0
  TellsOf c = (length c.notes ≤ 2) × (list_any is_data c.notes ≡ is_some c.delivered) × ((c.delivered ≡ None) ⊎ (c.unit ≡ None)) × (list_any is_unit c.notes ≡ is_some c.unit)

  from-told : {ns : List Note} {d u : Option (List ℕ)} → ToldWithin 2 ns d u
      → (length ns ≤ 2) × (list_any is_data ns ≡ is_some d) × ((d ≡ None) ⊎ (u ≡ None)) × (list_any is_unit ns ≡ is_some u)
  from-told h = (h.count, h.data_told, inr h.no_unit, h.no_note ∙ sym (ap is_some h.no_unit))

  units : (b : Bool) (long : Step) (octets : List ℕ) (l : Link) → TellsOf (long (begun l)) → TellsOf (by_bit b long (deliver_unit t octets) (begun l))
  unfolding TellsOf
  units b long octets l h = grind arith

  -- UI that is too long
  too-long : (here : State) (l : Link) → TellsOf (Machine.malformed_in here t ErrorCode.O (begun l))
  unfolding TellsOf how_many
  too-long here l = from-told ((malformed_by told {X = anything} here ErrorCode.O).leads (begun l) (record { known = tt; holds = begins two 2 (omega arith) l }))

  unserved-or : (f : Step) (l : Link) → TellsOf (f (begun l)) → TellsOf (read_as t leave_unserved f (begun l))
  unfolding TellsOf
  unserved-or f l h = grind arith

  unit-tells : (here : State) (b : Bool) (octets : List ℕ) (p : Bool) (l : Link) → TellsOf (Machine.frame_in here t b octets (Ui p) (begun l))
  unit-tells Established b octets p l = units (nat_lt t.n201 (length octets)) (long_unit_in_7_8 t) octets l (unserved-or (failed t ErrorCode.O) l (too-long Established l))
  unit-tells TimerRecovery b octets p l = units (nat_lt t.n201 (length octets)) (long_unit_in_7_8 t) octets l (unserved-or (failed t ErrorCode.O) l (too-long TimerRecovery l))
  unit-tells TeiAssigned b octets p l = units (nat_lt t.n201 (length octets)) (malformed t ErrorCode.O) octets l (too-long TeiAssigned l)
  unit-tells AwaitingEstablishment b octets p l = units (nat_lt t.n201 (length octets)) (malformed t ErrorCode.O) octets l (too-long AwaitingEstablishment l)
  unit-tells AwaitingRelease b octets p l = units (nat_lt t.n201 (length octets)) (malformed t ErrorCode.O) octets l (too-long AwaitingRelease l)

  tells : (e : Event) → FitsEvent ⊥ (Unit {0}) (Unit {0}) e → (l : Link) → TellsOf (Machine.course t e l)
  unfolding TellsOf how_many
  tells e may l = from-told ((event_row (words t) e may).leads (begun l) (begins two 2 (omega arith) l))

  frame-tells : (b : Bool) (octets : List ℕ) (control : Control) (l : Link) → TellsOf (Machine.frame_step t b octets control (begun l))
  unfolding TellsOf how_many
  frame-tells b octets (Ui p) l = unit-tells l.state b octets p l
  frame-tells b octets other l = from-told ((frames_in l.state b octets other tt).leads (begun l) (begins two 2 (omega arith) l))

  -- the TEI leaves the line: one note
  clears : (here : State) (l : Link) → Telling 1 no_more (Machine.told_of_clearing here t (begun l))
  unfolding how_many
  clears here l = (cleared_tells here).leads (begun l) (begins (another no_more) 1 (omega arith) l)

  pub cleared-tells : (l : Link) → length (Machine.told t cleared l).notes ≤ 1
  cleared-tells l = omega (arith, (clears l.state l).count)

  pub event-tells : (e : Event) (l : Link)
      → (length (Machine.told t e l).notes ≤ 2) × (list_any is_data (Machine.told t e l).notes ≡ is_some (Machine.told t e l).delivered)
      × (((Machine.told t e l).delivered ≡ None) ⊎ ((Machine.told t e l).unit ≡ None))
      × (list_any is_unit (Machine.told t e l).notes ≡ is_some (Machine.told t e l).unit)
  unfolding TellsOf
  event-tells (received (frame f)) l = frame-tells f.address.command f.info f.control l
  event-tells (received other) l = tells (received other) tt l
  event-tells other l = tells other tt l

-- At most one order for each timer, and at a clear only for the one that runs.
one-order : (a b : Bool) (x y : Order) → length (cond a (x ∷ []) (cond b (y ∷ []) [])) ≤ 1
one-order a b x y = grind arith

pub two-orders : (t : Terms) (before started after : Option LinkTimer) → length (orders_for t before started after) ≤ 2
two-orders t before started after = grind (arith, one-order, two, length-append)

-- At most one of them starts a timer.
starts-append : (xs ys : List Order) → starts (xs ++ ys) ≡ starts xs + starts ys
unfolding starts
starts-append [] ys = sym (zero-add (starts ys))
starts-append (x ∷ xs) ys =
    let more : starts (xs ++ ys) ≡ starts xs + starts ys = starts-append xs ys in
    omega (arith, more)

starts-order : (a b : Bool) (x : Timer) → starts (cond a (Start x ∷ []) (cond b (Stop x ∷ []) [])) ≡ cond {A = ℕ} a 1 0
unfolding starts
starts-order a b x = grind arith

one-started : (started after : Option LinkTimer)
    → cond {A = ℕ} (runs T200 started && runs T200 after) 1 0 + cond {A = ℕ} (runs T203 started && runs T203 after) 1 0 ≤ 1
one-started started after = grind arith

pub one-start : (t : Terms) (before started after : Option LinkTimer) → starts (orders_for t before started after) ≤ 1
one-start t before started after = grind (arith, starts-order, two, starts-append, one-started)

stopped : (t : Terms) (before : Option LinkTimer) → length (orders_for t before None None) ≤ 1
stopped t before = grind arith

pub cleared-orders : (t : Terms) (l : Link) → length (Machine.told t cleared l).orders ≤ 1
cleared-orders t l = stopped t l.running
