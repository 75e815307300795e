-- How a link stands behind an event: own busy, and whether REJ stands.
use Rattle.laws_trace.proofs.Vocabulary.{arith, ◌≡◌, ℕ, ◌&&◌, ◌||◌, Bool, true, false, cond, List, Some, None, sym, ap, ◌∙◌, not, is_some, and_right, or_parts, or_right, none-some, State, AwaitingEstablishment, Terms, restarts, received, Link, is_multiple_frame, event-delivers, delivered-at_once, flag_left, busy_asked, own_busy_left, rejecting_heard, pending_left, as_heard, is_anew}
use Rattle.laws_trace.proofs.Vocabulary.{numbers_begin, state_after, event-follows, LinkEvent as Event, frame, link_told, link_after}
use Rattle.laws_trace.proofs.Counting.{Watched}
use Rattle.laws_trace.proofs.DeliveriesWatched.{Standing}
use Rattle.model_link.specs.Sound.{is_information}
use Rattle.laws_trace.proofs.Begins.{in-state, up-before}
use Rattle.laws_trace.proofs.ReceiptsNumbered.{PendsUp, pends-up, taken-is}
use Rattle.laws_trace.proofs.Facts.{never}

-- What whoever watches a link has in mind between events.
abbrev pub quiet : ℕ → Watched
quiet m = record { frame = None; count = m }

abbrev pub calm : ℕ → Bool → Bool → Standing
calm m busy rejected = record { told = quiet m; busy = busy; rejected = rejected }

-- State 5 is led to with both flags off.
abbrev pub is_awaiting : State → Bool
is_awaiting AwaitingEstablishment = true
is_awaiting other = false

-- Where the numbers begin a flag is off,
module _ (t : Terms) (x flag : Bool) where
  abbrev Off : Event → Link → Type 0
  Off e l =
      numbers_begin e l.state (state_after t e l) ≡ true → (is_awaiting l.state ≡ true → flag ≡ false) → flag_left e l (state_after t e l) x flag ≡ false

  pub off-where-begun : (e : Event) (l : Link) → Off e l
  off-where-begun e l is h = grind (arith, in-state, never, or_right)

  -- and so it is in state 5;
  off-awaiting : (e : Event) (from to : State) (l : Link) → is_awaiting to ≡ true → (is_awaiting from ≡ true → flag ≡ false) → flag_left e (record l { state = from }) to x flag ≡ false
  off-awaiting e from to l is h = grind (arith, never)

  -- while the link stays up, it is as the event leaves it.
  not-anew : (e : Event) (from to : State) → is_multiple_frame to ≡ true → numbers_begin e from to ≡ false → is_anew e from to ≡ false
  not-anew e from to up on = grind (arith, or_parts, and_right, never)

  pub as-left : (e : Event) (l : Link) (to : State) → is_multiple_frame l.state ≡ true → is_multiple_frame to ≡ true → numbers_begin e l.state to ≡ false → flag_left e l to x flag ≡ x
  as-left e l to was up on = grind (arith, not-anew)

-- An acknowledgement is owed only while own busy is off.
free : (anew up owed pending x busy : Bool) → (up ≡ true → owed ≡ true → x ≡ false) → (pending ≡ true → busy ≡ false) → cond anew false (cond up owed pending) ≡ true
    → cond anew false (cond up x busy) ≡ false
free anew up owed pending x busy h k is = grind arith

module _ (t : Terms) (l : Link) (to : State) (pends : l.pending ≡ true → l.own_busy ≡ false) where
  off-all : (anew up busy : Bool) → busy ≡ false → cond anew false (cond up busy busy) ≡ false
  off-all anew up busy off = grind arith

  still-free : (e : Event) → pending_left e l to ≡ true → own_busy_left e l to ≡ false
  still-free e is = grind (arith, free, off-all, never)

-- What whoever watches the link has in mind of it.
pub record IsStanding (k : Link) (busy rejected : Bool) : Type 0 where
  pub busy_is : is_multiple_frame k.state ≡ true → k.own_busy ≡ busy
  pub rejected_is : is_multiple_frame k.state ≡ true → k.rejecting ≡ rejected
  pub not_busy : is_awaiting k.state ≡ true → k.own_busy ≡ false
  pub not_rejecting : is_awaiting k.state ≡ true → k.rejecting ≡ false
  pub pends_up : PendsUp k
  pub pends_free : k.pending ≡ true → k.own_busy ≡ false

-- What an event is to it, by whether the numbers begin with it, and whether it delivers contents.
abbrev pub brings : Event → Bool
brings (received (frame f)) = is_information f.control
brings other = false

abbrev pub busy_behind : Bool → Event → Bool → Bool
busy_behind anew e busy = cond anew false (busy_asked e busy)

abbrev pub rejected_behind : Bool → Bool → Event → Bool → Bool → Bool
rejected_behind anew delivers e busy rejected = cond (anew || delivers) false (cond (brings e && not busy) true rejected)

module _ (t : Terms) (e : Event) (l : Link) (busy rejected : Bool) (stands : IsStanding l busy rejected) where
  abbrev next : Link
  next = link_after t e l

  abbrev heard : Event
  heard = as_heard t e

  abbrev to : State
  to = state_after t heard l

  abbrev delivers : Bool
  delivers = is_some (link_told t e l).delivered

  state-is : next.state ≡ to
  state-is = (event-follows t e l).leaves.state

  begin-is : restarts t e l ≡ numbers_begin heard l.state to
  begin-is = (event-follows t e l).numbers ∙ ap (numbers_begin heard l.state) state-is

  own-is : next.own_busy ≡ own_busy_left heard l to
  own-is = (event-follows t e l).leaves.own_busy ∙ ap (own_busy_left heard l) state-is

  rejecting-is : next.rejecting ≡ flag_left heard l to (rejecting_heard heard l) l.rejecting
  rejecting-is = (event-follows t e l).leaves.rejecting ∙ ap (λ s. flag_left heard l s (rejecting_heard heard l) l.rejecting) state-is

  pub link-stands : IsStanding next (busy_behind (restarts t e l) e busy) (rejected_behind (restarts t e l) delivers e busy rejected)
  link-stands = record {
    busy_is = λ up. grind (arith, own-is, off-where-begun, begin-is, up-before, as-left, state-is);
    rejected_is = λ up. grind (arith, rejecting-is, off-where-begun, begin-is, up-before, taken-is, as-left, state-is, is_some, event-delivers);
    not_busy = λ at. own-is ∙ off-awaiting t (busy_asked heard l.own_busy) l.own_busy heard l.state to l (ap is_awaiting (sym state-is) ∙ at) stands.not_busy;
    not_rejecting = λ at. rejecting-is ∙ off-awaiting t (rejecting_heard heard l) l.rejecting heard l.state to l (ap is_awaiting (sym state-is) ∙ at) stands.not_rejecting;
    pends_up = pends-up t e l stands.pends_up;
    pends_free = λ is. own-is ∙ still-free t l to stands.pends_free heard (sym ((event-follows t e l).leaves.pending ∙ ap (pending_left heard l) state-is) ∙ is);
  }

-- Contents are delivered only in states 7 and 8 with own busy off, and by a frame.
module _ (t : Terms) (l : Link) (busy : Bool) where
  abbrev Free : Event → Type 0
  Free e = (is_multiple_frame l.state ≡ true) × (l.own_busy ≡ false) × (busy_asked e busy ≡ busy)

  pub delivers-free : (e : Event) (contents : List ℕ) → (link_told t e l).delivered ≡ Some contents → Free e
  delivers-free e contents is = let x = delivered-at_once t e l contents is in grind (arith, none-some)
