-- What follows an event, from what it leaves.
use Rattle.laws_link.proofs.Vocabulary.{arith, ◌≡◌, ap, State, Terms, Link, after, told, Follows, as_heard, state_after, put, waiting_left, Event}
use Rattle.laws_link.proofs.Columns.{Left, queued_by}
use Rattle.laws_link.proofs.Placing.{placed}
use Rattle.laws_link.proofs.EachRow.{each-row}

waiting-is : (t : Terms) (e : Event) (l : Link) (to : State) → queued_by t e l (put e l to) ≡ waiting_left t e l to
waiting-is t e l to = grind (arith, placed)

module _ (t : Terms) (e : Event) (l : Link) where
  abbrev heard : Event
  heard = as_heard t e

  leads : (after t e l).state ≡ state_after t heard l
  leads = ap (λ (x : Left). x.state) (each-row t e l)

  pub event-follows : Follows t e l (after t e l) (told t e l).notes (told t e l).lost
  event-follows = grind (arith, each-row, leads, Left, waiting-is, placed)
