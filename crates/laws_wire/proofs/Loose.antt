-- Two ends that are up, either of which may be busy, and whose T200 is timely: they stay up, and no frame that one takes makes it tell an
-- error.
use Rattle.laws_wire.proofs.Vocabulary.{◌≡◌, false, length, true≢false, arith, nat_lt, lt-ltb, ltb-false, take_all, Established, runs, LinkEndpoint, Ends, Joined, joined-turned, done-at, rising-low, IsTimelyStep, HasNothingToSend, Sane, sane-doing, Flows, acted-flows, same-after, T200, line_of, flows-low, Bool, Flow, IsTrue, IsUp, Kind, Link, LinkTimer, List, NoAlien, Parts, Rising, State}
use Rattle.laws_wire.proofs.Vocabulary.{TeiAssigned, Terms, after, alien}
use Rattle.model_link.specs.TwoEnds.{Step as EndStep, at_near, acting, with_first_of}
use Rattle.model_link.specs.Events.{Event, overlong}
use Rattle.laws_link.specs.Telling.{told_by}
use Rattle.laws_wire.proofs.Vocabulary.{answer, ap, cond, course, done-up, event-follows, expired, frame, frame-taken, frames_of, is-no-alien, is_error, is_multiple_frame, is_overlong, is_recovering, kind_of, line, link_receives, list_any, no-answer, received, refl, state_after, subst, sym, told_expired, true, with_link, ◌∷◌, ◌++◌, ◌⊎◌, ◌∙◌}
use Rattle.laws_wire.proofs.Fair.{Fine, HasError, frame-fair}

-- ---- what is told of a frame

abbrev pub IsQuiet : Bool → Kind → Type 0
IsQuiet b (answer nr) = b ≡ true
IsQuiet b alien = ⊥
IsQuiet b other = Unit {0}

module _ (t : Terms) where
  -- an I-frame over N201 would lead the link out
  pub no-error : (l : Link) (f : Parts) → IsTrue (is_multiple_frame l.state) → IsTrue (is_multiple_frame (after t (received (frame f)) l).state)
      → IsQuiet (is_recovering l.state) (kind_of f.address.command f.control) → list_any is_error (course t (received (frame f)) l).notes ≡ false
  no-error l f is up h = go (is_overlong t f.control f.info) (event-follows t (received (frame f)) l).leaves.state (event-follows t (received (frame f)) l).leaves.tells
    where
      to : State
      to = (after t (received (frame f)) l).state

      heard : Bool → Event
      heard b = received (cond b overlong (frame f))

      go : (b : Bool) → to ≡ state_after t (heard b) l → (course t (received (frame f)) l).notes ≡ told_by t (heard b) l to → list_any is_error (course t (received (frame f)) l).notes ≡ false
      go true leads tells = grind (arith, up)
      go false leads tells = ap (list_any is_error) tells ∙ grind arith

  -- nor does a timer tell one, where the link stays up
  expired-quiet : (here to : State) (owed : Bool) → IsTrue (is_multiple_frame here) → IsTrue (is_multiple_frame to) → list_any is_error (told_expired here owed t to) ≡ false
  expired-quiet TeiAssigned to owed is up = absurd (true≢false (sym is))
  expired-quiet here to owed is up = grind (arith, up)

  pub timer-quiet : (l : Link) (timer : LinkTimer) → IsTrue (is_multiple_frame l.state) → IsTrue (is_multiple_frame (after t (expired timer) l).state)
      → HasError (course t (expired timer) l).notes → ⊥
  timer-quiet l timer is up error =
      true≢false (sym error ∙ ap (list_any is_error) ((event-follows t (expired timer) l).leaves.tells) ∙ expired-quiet l.state (after t (expired timer) l).state l.owed is up)

-- Two ends that are up: they stay so, and what an end takes leaves its contents, and is told as it is delivered.
module _ (n m : LinkEndpoint) (joined : Joined n m) (same : n.terms.n201 ≡ m.terms.n201) (there : Flows n m) (back : Flows m n) where
  pub up-after : (act : EndStep) → IsTimelyStep act n m → IsUp (acting act (record { near = n; far = m }))
  up-after act x = done-up (at_near act) (record { near = n; far = m }) joined same (flows-low n m there, flows-low m n back) (grind arith)

  module _ (f : Parts) (fs : List Parts) (first : m.way ≡ f ∷ fs) where
    abbrev rest : List Kind
    rest = line m.terms fs m.link.waiting

    abbrev own_line : List Kind
    own_line = line n.terms n.way n.link.waiting

    abbrev x : Kind
    x = kind_of f.address.command f.control

    quiet-kind : (x : Kind) (b : Bool) → NoAlien x → Flow n.link.s m.link.r b m.link.rejecting own_line (x ∷ rest) → IsQuiet b x
    quiet-kind (answer nr) true known flow = refl
    quiet-kind x b known flow = grind (arith, no-answer)

    rising : Rising n.link.a m.link.r (f ∷ fs ++ frames_of m.terms m.link.waiting)
    rising = subst (λ way. Rising n.link.a m.link.r (way ++ frames_of m.terms m.link.waiting)) first joined.there.rising

    up : IsTrue (is_multiple_frame (after n.terms (received (frame f)) n.link).state)
    up = subst (λ way. IsTrue (is_multiple_frame (with_first_of way n).link.state)) first (up-after link_receives tt).0

    pub takes-fine : let c = course n.terms (received (frame f)) n.link in Fine n.terms c.link.state c.notes c.delivered c.unit
    takes-fine =
        go (frame-fair n.terms n.link joined.near_up f rising.0 rising.2).fair
      where
        go : let c = course n.terms (received (frame f)) n.link in HasError c.notes ⊎ Fine n.terms c.link.state c.notes c.delivered c.unit → Fine n.terms c.link.state c.notes c.delivered c.unit
        go o = grind (arith, no-error, up, quiet-kind, is-no-alien)

    pub takes-kept : (with_link (received (frame f)) n).link.contents ≡ n.link.contents
    takes-kept = ((frame-taken n.terms n.link joined.near_up f.address.command f.info rising.0 f.control rising.2).took.by.stay up).2.same

pub record Loose (n m : LinkEndpoint) : Type 0 where
  pub joined : Joined n m
  pub same : n.terms.n201 ≡ m.terms.n201
  pub there : Flows n m
  pub back : Flows m n
  pub near_sane : Sane n.link
  pub far_sane : Sane m.link

pub loose-turned : (n m : LinkEndpoint) → Loose n m → Loose m n
loose-turned n m h = grind (arith, joined-turned)

module _ (n m : LinkEndpoint) (h : Loose n m) where
  abbrev e : Ends
  e = record { near = n; far = m }

  pub loose-after : (act : EndStep) → IsTimelyStep act n m → Loose (acting act e).near (acting act e).far
  loose-after act x =
      let up = up-after n m h.joined h.same h.there h.back act x in
      let flows = acted-flows n m h.joined h.there h.back act x up in
      let sane = sane-doing (at_near act) e (h.near_sane, h.far_sane) in
      assumption (done-at (at_near act) e up h.joined, same-after (at_near act) e h.same)

  -- Where T200 does not run, all that the end has has come, and it has sent all that it has: it takes the other for free then.
  module _ (quiet : HasNothingToSend n.terms n.link) (none : runs T200 n.link.running ≡ false) where
    -- It is in state 7, all that it has is acknowledged, and has come.
    pub record HasAll : Type 0 where
      pub state : n.link.state ≡ Established
      pub acknowledged : n.link.a ≡ length n.link.contents
      pub delivered : m.delivered ≡ n.link.contents

    pub loose-came : HasAll
    loose-came = grind (arith, true≢false, runs, rising-low, line_of, flows-low, nat_lt, lt-ltb, ltb-false, take_all)
