-- When the numbers of a link begin, by what is heard and noted.
use Rattle.laws_trace.proofs.Vocabulary.{arith, ◌≡◌, Bool, true, false, Parts, Ua, State, Terms, restarts, received, Link, is_multiple_frame, state_after, numbers_begin, told_by, event-follows, Control, LinkEvent as Event, frame, link_after as after, link_told as told}
use Rattle.laws_trace.proofs.Counting.{begins_by}

-- A link in a state is itself.
pub in-state : (P : Link → Type 0) (l : Link) → ((here : State) → P (record l { state = here })) → P l
in-state P l h = h l.state

-- What is never true is false.
pub unless : (b : Bool) → (b ≡ true → ⊥) → false ≡ b
unless b h = grind arith

module _ (t : Terms) (f : Parts) where
  abbrev e : Event
  e = received (frame f)

  abbrev IsSame : Control → Link → Type 0
  IsSame control l =
      let e = received (frame (record f { control = control })) in
      begins_by control (told_by t e l (state_after t e l)) ≡ numbers_begin e l.state (state_after t e l)

  -- by whether layer 3 asked for the establishment, and whether contents are outstanding
  ua : (here : State) (l : Link) → IsSame (Ua true) (record l { state = here })
  ua here l = grind arith

  -- What is heard and noted says whether the numbers begin.
  pub begins-is : (l : Link) → begins_by f.control (told t (received (frame f)) l).notes ≡ restarts t (received (frame f)) l
  begins-is l = grind (arith, event-follows, begins_by, in-state, ua, unless)

-- A link that is in states 7 and 8, and whose numbers do not begin, was there before.
abbrev IsUp : State → Type 0
IsUp state = is_multiple_frame state ≡ true

abbrev ComesUp : State → Event → State → Type 0
ComesUp from e to = IsUp to → numbers_begin e from to ≡ false → IsUp from

by-state : (t : Terms) (e : Event) (l : Link) → ComesUp l.state e (state_after t e l)
by-state t e l = grind arith

pub up-before : (t : Terms) (e : Event) (l : Link) → IsUp (after t e l).state → restarts t e l ≡ false → IsUp l.state
up-before t e l up none = grind (arith, event-follows, by-state)
