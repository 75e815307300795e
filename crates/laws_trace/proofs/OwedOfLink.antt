-- Whether a link owes an acknowledgement behind one of its events.
use Rattle.laws_trace.proofs.Vocabulary.{arith, ◌≡◌, ◌&&◌, ◌||◌, Bool, true, false, refl, sym, ap, ◌∙◌, true≢false, is_some, flag_left, takes_contents, unless_put, owed_in, pending_left, as_heard, numbers_begin, state_after, put, event-follows, State, Terms, restarts, Link, is_multiple_frame, event-delivers, LinkEvent as Event, is_empty, or_comm, link_after as after, link_told as told}
use Rattle.laws_trace.proofs.Vocabulary.{cond_both}
use Rattle.laws_trace.proofs.Vocabulary.{false_from_ne_true}
use Rattle.laws_trace.proofs.Begins.{in-state, up-before}
use Rattle.laws_trace.proofs.CommandsCaused.{IsNoOther}
use Rattle.laws_trace.proofs.ReceiptsNumbered.{PendsUp, pends-up, taken-is}
use Rattle.laws_trace.proofs.StandingOfLink.{off-where-begun, as-left}
use Rattle.laws_trace.proofs.Facts.{never}

-- Where the numbers begin in states 7 and 8, UA is put.
module _ (t : Terms) where
  abbrev Puts : Event → Link → Type 0
  Puts e l = is_multiple_frame l.state ≡ true → numbers_begin e l.state (state_after t e l) ≡ true → is_empty (put e l (state_after t e l)) ≡ false

  puts-begun : (e : Event) (l : Link) → IsNoOther e → Puts (as_heard t e) l
  puts-begun e l other = grind (arith, cond_both, never, in-state)

module _ (t : Terms) (e : Event) (l : Link) (other : IsNoOther e) (owed : PendsUp l) where
  abbrev next : Link
  next = after t e l

  abbrev heard : Event
  heard = as_heard t e

  abbrev to : State
  to = state_after t heard l

  abbrev delivers : Bool
  delivers = is_some (told t e l).delivered

  abbrev owes : Bool
  owes = unless_put (put heard l to) (takes_contents heard l || l.pending)

  state-is : next.state ≡ to
  state-is = (event-follows t e l).leaves.state

  begin-is : restarts t e l ≡ numbers_begin heard l.state to
  begin-is = (event-follows t e l).numbers ∙ ap (numbers_begin heard l.state) state-is

  left-is : next.pending ≡ flag_left heard l to (owed_in to owes) l.pending
  left-is = (event-follows t e l).leaves.pending ∙ ap (pending_left heard l) state-is ∙ (grind arith)

  -- it is false
  none-down : (k : Link) → PendsUp k → is_multiple_frame k.state ≡ false → k.pending ≡ false
  none-down k h down = false_from_ne_true k.pending (λ is. true≢false (sym (h is) ∙ down))

  none-begun : restarts t e l ≡ true → next.pending ≡ false
  none-begun begins = left-is ∙ off-where-begun t (owed_in to owes) l.pending heard l (sym begin-is ∙ begins) (λ waits. none-down l owed (grind (arith, never)))

  pub pends-then : next.pending ≡ ((is_multiple_frame l.state && is_multiple_frame next.state && is_empty (put heard l to)) && (l.pending || delivers))
  pends-then = go (is_multiple_frame l.state) refl (is_multiple_frame next.state) refl (restarts t e l) refl
    where
      go : (u : Bool) → is_multiple_frame l.state ≡ u → (v : Bool) → is_multiple_frame next.state ≡ v → (r : Bool) → restarts t e l ≡ r
          → next.pending ≡ ((u && v && is_empty (put heard l to)) && (l.pending || delivers))
      go true was false down r is = none-down next (pends-up t e l owed) down
      go false was false down r is = none-down next (pends-up t e l owed) down
      go false was true up true begins = none-begun begins
      go true was true up true begins = none-begun begins ∙ sym (ap (λ b. b && (l.pending || delivers)) (puts-begun t e l other was (sym begin-is ∙ begins)))
      go false was true up false on = absurd (true≢false (sym (up-before t e l up on) ∙ was))
      go true was true up false on = grind (arith, state-is, left-is, as-left, begin-is, taken-is, event-delivers, or_comm)
