-- What an event of a link puts is what it makes due.
use Rattle.laws_trace.proofs.Vocabulary.{◌≡◌, ℕ, ◌+◌, ◌-◌, ◌≤◌, ◌==◌, ◌||◌, Bool, true, false, cond, List, [], ◌∷◌, ◌++◌, length, take, drop, zero, suc, Some, refl, sym, ap, ◌∙◌, subst, arith, nat_lt, flat_map-append, All-take, Information, Ua, Dm, Parts, HasItsTimer, State, ControlFrame, Terms, LinkTimer, restarts, overlong, received, expired, Link, is_multiple_frame, state_number, busy_asked}
use Rattle.laws_trace.proofs.Vocabulary.{takes_contents, as_heard, moves, state_after, receipt_as, as_command, to_sabme, answers, commands, put, event-follows, Seq, length-drop, Control, T200, LinkEvent as Event, frame, room, link_after as after, link_told as told, false_from_ne_true}
use Rattle.laws_link.specs.Waiting as waiting
use Rattle.laws_trace.proofs.ControlsWatched.{control_in, receipt, polled, while_up, answer_to, command_of}
use Rattle.laws_trace.proofs.DeliveriesWatched.{Standing}
use Rattle.laws_trace.proofs.CommandsCaused.{enquires, IsNoOther, none-heard, none-asked}
use Rattle.laws_trace.proofs.ControlsDue.{controls, answers_of, put_by, IsControl, all-put, all-controls}
use Rattle.laws_trace.proofs.MovesOfLink.{ticks}
use Rattle.laws_trace.proofs.StandingOfLink.{calm, rejected_behind}
use Rattle.laws_trace.proofs.Facts.{either-none}

-- V(R), own busy and whether REJ stands while the link is up, before an event and behind it.
abbrev pub number_after : Event → Link → ℕ
number_after e l = cond (takes_contents e l) (l.r + 1) l.r

pub record IsNumbered (t : Terms) (e : Event) (l : Link) (m : ℕ) (busy rejected : Bool) (n : ℕ) (busy_now rejected_now : Bool) : Type 0 where
  pub number_is : is_multiple_frame l.state ≡ true → l.r ≡ m
  pub busy_is : is_multiple_frame l.state ≡ true → l.own_busy ≡ busy
  pub rejected_is : is_multiple_frame l.state ≡ true → l.rejecting ≡ rejected
  pub number_on : is_multiple_frame l.state ≡ true → restarts t e l ≡ false → number_after (as_heard t e) l ≡ n
  pub busy_on : is_multiple_frame l.state ≡ true → restarts t e l ≡ false → busy_asked e busy ≡ busy_now
  pub rejected_on : is_multiple_frame l.state ≡ true → restarts t e l ≡ false → rejected_behind false (takes_contents (as_heard t e) l) e busy rejected ≡ rejected_now

-- SABME and DISC.
by-sabme : (s : State) (p : Bool) → to_sabme s p ≡ cond (state_number s == 6) (Dm p) (Ua p)
by-sabme s p = grind arith

-- States 7 and 8 are those of multiple-frame operation.
pub both-up : (s : State) (xs ys : List ControlFrame) → (is_multiple_frame s ≡ true → xs ≡ ys) → cond (is_multiple_frame s) xs [] ≡ while_up (state_number s) ys
both-up s xs ys h = grind arith

module _ (t : Terms) (l : Link) (m : ℕ) (busy rejected : Bool) (n : ℕ) (busy_now rejected_now : Bool) where
  abbrev Seen : Event → Type 0
  Seen e = IsNumbered t e l m busy rejected n busy_now rejected_now

  abbrev was : Standing
  was = calm m busy rejected

  abbrev now : Standing
  now = calm n busy_now rejected_now

  abbrev Answers : Event → List ControlFrame
  Answers e = answers_of t.n201 was now (state_number l.state) e

  -- numbers begin by no frame but these
  goes-on : (e : Event) → (restarts t e l ≡ true → ⊥) → restarts t e l ≡ false
  goes-on e never = false_from_ne_true (restarts t e l) never

  -- A frame is heard as itself, but for an I-frame whose information is too long, which has no answer.
  by-size : (f : Parts) (ns nr : Seq) (p long : Bool) → nat_lt t.n201 (length f.info) ≡ long → let e = received (frame (record f { control = Information ns nr p })) in
      Seen e → answers (received (cond long overlong (frame (record f { control = Information ns nr p })))) l
      ≡ answer_to was now (state_number l.state) f.address.command long (Information ns nr p)
  by-size f ns nr p long is h = grind (arith, both-up)

  by-frame : (f : Parts) (control : Control) → let e = received (frame (record f { control = control })) in
      Seen e → answers (as_heard t e) l ≡ answer_to was now (state_number l.state) f.address.command (nat_lt t.n201 (length f.info)) control
  by-frame f control h = grind (arith, by-size, both-up, calm, rejected_behind, polled, goes-on, by-sabme, either-none)

  answers-are : (e : Event) → IsNoOther e → Seen e → answers (as_heard t e) l ≡ Answers e
  answers-are (received (frame f)) other h = by-frame f f.control h
  answers-are e other h = grind (arith, either-none, both-up, goes-on)

  -- Commands: those of a state that awaits an answer, where T200 expires, or the link comes there.
  enquired : (e : Event) (timer : LinkTimer) → e ≡ expired timer → Seen e → enquires (state_after t e l) ≡ true
      → as_command (receipt_as l.own_busy l.r true) ≡ as_command (receipt now true)
  enquired e timer is h lead = grind (arith, calm, rejected_behind, was, receipt, now, enquires, goes-on)

  abbrev Timed : Event → Type 0
  Timed e = let to = state_after t e l in commands e l to ≡ cond (moves l.state to || waiting.is_time e l) (command_of now (Some (state_number to))) []

  -- What is heard in place of a frame leads to no enquiry.
  heard-times : (e : Event) → IsNoOther e → Seen e → Timed (as_heard t e)
  heard-times e other h = grind (arith, command_of, now, none-heard, none-asked, enquired)

  -- Where a command is due by the timer, T200 runs.
  again : (e : Event) → l.running ≡ Some T200 → waiting.is_time e l ≡ (ticks e == 1)
  again e is = grind arith

  pub put-is : (e : Event) → IsNoOther e → HasItsTimer l → Seen e → let to = state_after t (as_heard t e) l in put (as_heard t e) l to ≡ put_by t.n201 was now e l.state to
  put-is e other timed h = grind (arith, answers-are, heard-times, either-none, again, command_of)

-- Of those that are put as many wait as there is room for.
as-many : (n : ℕ) (xs : List ControlFrame) → take n xs ≡ take (length xs - length (drop n xs)) xs
as-many zero xs = grind arith
as-many (suc n) [] = refl
as-many (suc n) (x ∷ xs) =
    ap (λ ys. x ∷ ys) (as-many n xs)
    ∙ ap (λ k. take k (x ∷ xs)) (one-more (length xs) (length (drop n xs)) (subst (λ k. k ≤ length xs) (sym (length-drop n xs)) (fewer (length xs) n)))
  where
    fewer : (k n : ℕ) → k - n ≤ k
    fewer k n = omega arith

    one-more : (k d : ℕ) → d ≤ k → suc (k - d) ≡ suc k - d
    one-more k d h = omega (arith, h)

-- What waits behind those that waited.
pub puts : (t : Terms) (e : Event) (l : Link) (m : ℕ) (busy rejected : Bool) (n : ℕ) (busy_now rejected_now : Bool) → IsNoOther e → HasItsTimer l
    → IsNumbered t e l m busy rejected n busy_now rejected_now
    → let due = put_by t.n201 (calm m busy rejected) (calm n busy_now rejected_now) e l.state (after t e l).state in
    controls (after t e l).waiting ≡ controls l.waiting ++ take (length due - (told t e l).lost) due
puts t e l m busy rejected n busy_now rejected_now other timed h =
    ap controls waits ∙ flat_map-append (λ (f : ControlFrame). control_in f.command f.control) l.waiting (take (room t l) due)
    ∙ ap (λ xs. controls l.waiting ++ xs) (all-controls (take (room t l) due) (All-take IsControl (room t l) due (all-put t.n201 was now e l.state to)) ∙ as-many (room t l) due
    ∙ ap (λ k. take (length due - k) due) (sym ((event-follows t e l).leaves.lost_is ∙ ap (λ fs. length (drop (room t l) fs)) is)))
  where
    was : Standing
    was = calm m busy rejected

    now : Standing
    now = calm n busy_now rejected_now

    heard : Event
    heard = as_heard t e

    to : State
    to = (after t e l).state

    due : List ControlFrame
    due = put_by t.n201 was now e l.state to

    to-is : to ≡ state_after t heard l
    to-is = (event-follows t e l).leaves.state

    is : put heard l to ≡ due
    is = subst (λ s. put heard l s ≡ put_by t.n201 was now e l.state s) (sym to-is) (put-is t l m busy rejected n busy_now rejected_now e other timed h)

    waits : (after t e l).waiting ≡ l.waiting ++ take (room t l) due
    waits = (event-follows t e l).leaves.waiting ∙ (grind arith) ∙ ap (λ fs. l.waiting ++ take (room t l) fs) is
