-- V(R) of a link behind an event, and when an acknowledgement is owed.
use Rattle.laws_trace.proofs.Vocabulary.{◌≡◌, ℕ, ◌%◌, ◌==◌, ◌&&◌, Bool, true, cond, length, Some, None, arith, is_some, nat_le, nat_lt, leb-true, leb-false, Information, Parts, Seq, seq, Terms, Arrived, eligible, received, Link, is_multiple_frame, delivery, takes_contents, as_heard, event-follows, ltb-true, ltb-false, Control, LinkEvent as Event, frame, link_after as after}

-- Contents that are next are delivered.
next-one : (b : Bool) (r : ℕ) (i : Arrived) → is_some (delivery r (cond b (Some i) None)) ≡ (b && (i.ns.value == r % 128))
next-one b r i = grind arith

module _ (t : Terms) (l : Link) (up : is_multiple_frame l.state ≡ true) where
  abbrev Taken : Event → Type 0
  Taken e = is_some (delivery l.r (eligible t e l)) ≡ takes_contents (as_heard t e) l

  by-size : (f : Parts) (ns nr : Seq) (p b : Bool) → nat_lt t.n201 (length f.info) ≡ b → Taken (received (frame (record f { control = Information ns nr p })))
  unfolding seq
  by-size f ns nr p b is = grind (arith, nat_le, ltb-true, leb-true, ltb-false, leb-false, next-one)

  by-control : (f : Parts) (control : Control) → Taken (received (frame (record f { control = control })))
  by-control f control = grind (arith, by-size)

  pub taken-is : (e : Event) → Taken e
  taken-is e = grind (arith, by-control)

-- An acknowledgement is owed in states 7 and 8 alone.
abbrev pub PendsUp : Link → Type 0
PendsUp l = l.pending ≡ true → is_multiple_frame l.state ≡ true

pub pends-up : (t : Terms) (e : Event) (l : Link) → PendsUp l → PendsUp (after t e l)
pends-up t e l h is = grind (arith, event-follows)
