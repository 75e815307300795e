-- Two ends of which neither was ever busy: no RNR waits or is on its way, and what waits at either is enquiries, answers, REJ, and frames of an
-- establishment.
use Rattle.laws_wire.proofs.Vocabulary.{arith, ◌≡◌, ℕ, ◌+◌, Bool, true, false, cond, not, ◌&&◌, ◌||◌, List, [], ◌∷◌, ◌++◌, take, refl, sym, subst, All, All-nil, All-cons, All-head, All-append, All-take, All-drop, seq, Control, Information, ReceiveReady, ReceiveNotReady, Reject, Sabme, Disc, Parts, State, ControlFrame, Terms, Link, is_multiple_frame, undefined, wrong_size, received, expired}
use Rattle.laws_wire.proofs.Vocabulary.{requested, offer, cleared, given_of}
use Rattle.laws_wire.proofs.Vocabulary.{begun, LinkEndpoint, with_link, frame_given, busy_by, busy_heard, as_heard, is_overlong, as_response, answers_to, command_in, is_time, room, waiting_left, event-follows, Kind, kind_of, one_enquiry, one_answer, one_rejection, after, Course, has_next_number, alien, busy_asked, TimerRecovery, Ends, TwoEndsStep, two_ends_acting, link_requests, link_expires}
use Rattle.laws_wire.proofs.Vocabulary.{link_sends, link_receives, ◌⊎◌}
use Rattle.laws_wire.proofs.Vocabulary.{inl}
use Rattle.model_link.specs.TwoEnds as two_ends
use Rattle.model_link.specs.TwoEnds.{with_first_of, without_first}
use Rattle.laws_link.specs.Waiting.{receipt_as}
use Rattle.laws_link.specs.States.{moves}
use Rattle.model_link.specs.Events.{Event, frame, overlong, Data}
use Rattle.model_link.specs.Offers

abbrev pub IsFree : Control → Type 0
IsFree control = busy_by control false ≡ false

abbrev pub IsFreeFrame : Parts → Type 0
IsFreeFrame f = IsFree f.control

-- one of the three kinds
abbrev pub counts : Kind → ℕ
counts x = one_enquiry x + one_answer x + one_rejection x

pub record WaitsSo (f : ControlFrame) : Type 0 where
  pub free : IsFree f.control
  pub one : (counts (kind_of f.command f.control) ≡ 1) ⊎ (kind_of f.command f.control ≡ alien)

pub record Tame (n : LinkEndpoint) : Type 0 where
  pub own_free : n.link.own_busy ≡ false
  pub peer_free : n.link.peer_busy ≡ false
  pub waiting : All WaitsSo n.link.waiting
  pub way : All IsFreeFrame n.way

abbrev Few : Event → Type 0
Few (received (frame f)) = IsFree f.control
Few (requested (Data octets) full) = Unit {0}
Few (requested other full) = ⊥
Few other = Unit {0}

off : (b c x : Bool) → x ≡ false → cond b false (cond c x false) ≡ false
off b c x e = grind arith

module _ (t : Terms) (l : Link) (own : l.own_busy ≡ false) where
  either : (b : Bool) (xs ys : List ControlFrame) → All WaitsSo xs → All WaitsSo ys → All WaitsSo (cond b xs ys)
  either b xs ys x y = grind arith

  none : All WaitsSo []
  none = All-nil WaitsSo

  alone : (f : ControlFrame) → WaitsSo f → All WaitsSo (f ∷ [])
  alone f h = All-cons WaitsSo f [] h none

  receipts : (command : Bool) (r : ℕ) → All WaitsSo (record { command = command; control = receipt_as l.own_busy r true } ∷ [])
  receipts command r =
      subst (λ b. All WaitsSo (record { command = command; control = receipt_as b r true } ∷ [])) (sym own) (alone _ (record { free = refl; one = inl (grind arith) }))

  rejects : (p : Bool) → All WaitsSo (as_response (Reject (seq l.r) p))
  rejects p = alone _ (record { free = refl; one = grind arith })

  supervisory : (b p : Bool) → All WaitsSo (cond (is_multiple_frame l.state) (cond (b && p) (as_response (receipt_as l.own_busy l.r true)) []) [])
  supervisory b p = either (is_multiple_frame l.state) _ _ (either (b && p) _ _ (receipts false l.r) none) none

  -- what a frame is answered by
  answers-so : (b : Bool) (control : Control) → All WaitsSo (answers_to b control l)
  answers-so b (Information ns nr p) =
      either (is_multiple_frame l.state) _ _ (either (not l.own_busy && (not (has_next_number ns l) && not l.rejecting)) _ _ (rejects p) (either p _ _ (receipts false _) none)) none
  answers-so b (ReceiveReady nr p) = supervisory b p
  answers-so b (ReceiveNotReady nr p) = supervisory b p
  answers-so b (Reject nr p) = supervisory b p
  answers-so b (Sabme p) = alone _ (grind arith)
  answers-so b (Disc p) = alone _ (grind arith)
  answers-so b control = either (is_multiple_frame l.state) _ _ none none

  commands-so : (to : State) → All WaitsSo (command_in to l)
  commands-so TimerRecovery = receipts true l.r
  commands-so to = grind (arith, none, alone)

  module _ (waits : All WaitsSo l.waiting) (to : State) where
    behind-so : (frames : List ControlFrame) (b : Bool) → All WaitsSo frames
        → All WaitsSo (l.waiting ++ take (room t l) (frames ++ cond b (command_in to l) []))
    behind-so frames b h =
        let more = cond b (command_in to l) [] in
        All-append WaitsSo l.waiting (take (room t l) (frames ++ more)) waits
        (All-take WaitsSo (room t l) (frames ++ more) (All-append WaitsSo frames more h (either b (command_in to l) [] (commands-so to) none)))

    left-so : (e : Event) → Few e → All WaitsSo (waiting_left t e l to)
    left-so (received (frame f)) may = behind-so (answers_to f.address.command f.control l) (moves l.state to || false) (answers-so f.address.command f.control)
    left-so (received undefined) may = behind-so [] (moves l.state to || false) none
    left-so (received wrong_size) may = behind-so [] (moves l.state to || false) none
    left-so (received overlong) may = behind-so [] (moves l.state to || false) none
    left-so (expired timer) may = behind-so [] (moves l.state to || is_time (expired timer) l) none
    left-so (requested (Data octets) full) may = behind-so [] (moves l.state to || false) none
    left-so offer may = All-drop WaitsSo 1 l.waiting waits
    left-so cleared may = none
    left-so other may = absurd may

    heard-so : (b : Bool) (f : Parts) → Few (received (frame f)) → All WaitsSo (waiting_left t (received (cond b overlong (frame f))) l to)
    heard-so true f may = left-so (received overlong) tt
    heard-so false f may = left-so (received (frame f)) may

    by-event : (e : Event) → Few e → All WaitsSo (waiting_left t (as_heard t e) l to)
    by-event (received (frame f)) may = heard-so (is_overlong t f.control f.info) f may
    by-event (requested request full) may = left-so (requested request full) may
    by-event other may = left-so other tt

  -- the other end is never taken for busy, nor is it said that this one is
  unheard : (e : Event) → Few e → (busy_heard (as_heard t e) false ≡ false) × (busy_asked (as_heard t e) false ≡ false)
  unheard e may = grind arith

  -- what an offer gives
  abbrev GivesFree : Course → Type 0
  GivesFree c = All IsFreeFrame (frame_given t (given_of t l c c.sent))

  offers-free : (ws : List ControlFrame) → All WaitsSo ws → GivesFree (Offers.offer_among t ws (begun l))
  offers-free (f ∷ fs) h = All-cons IsFreeFrame _ [] (All-head WaitsSo f fs h).free (All-nil IsFreeFrame)
  offers-free [] h = grind arith

-- own busy stays off
pub free : (t : Terms) (e : Event) (l : Link) → busy_asked (as_heard t e) false ≡ false → l.own_busy ≡ false → (after t e l).own_busy ≡ false
free t e l asked is = grind (arith, event-follows, off)

-- ---- as something happens

tame-event : (e : Event) (n : LinkEndpoint) → Tame n → Few e → Tame (with_link e n)
tame-event e n h may = record {
  own_free = free n.terms e n.link (unheard n.terms n.link h.own_free e may).1 h.own_free;
  peer_free = grind (arith, event-follows, off, unheard);
  waiting =
      subst (All WaitsSo) (sym (event-follows n.terms e n.link).leaves.waiting) (by-event n.terms n.link h.own_free h.waiting (after n.terms e n.link).state e may);
  way = h.way;
}

tame-takes : (way : List Parts) → All IsFreeFrame way → (n : LinkEndpoint) → Tame n → Tame (with_first_of way n)
tame-takes [] free n h = h
tame-takes (f ∷ fs) free n h = tame-event (received (frame f)) n h (All-head IsFreeFrame f fs free)

tame-loses : (n : LinkEndpoint) → Tame n → Tame (without_first n)
tame-loses n h = record { own_free = h.own_free; peer_free = h.peer_free; waiting = h.waiting; way = All-drop IsFreeFrame 1 n.way h.way }

-- nothing but data is asked for
abbrev pub IsMild : TwoEndsStep → Type 0
IsMild (link_requests (Data octets) full) = Unit {0}
IsMild (link_requests other full) = ⊥
IsMild other = Unit {0}

pub tame-after : (act : TwoEndsStep) → IsMild act → (e : Ends) → Tame e.near × Tame e.far → Tame (two_ends_acting act e).near × Tame (two_ends_acting act e).far
tame-after (link_requests (Data octets) full) mild e (near, far) = (tame-event (requested (Data octets) full) e.near near tt, far)
tame-after (link_requests other full) mild e h = absurd mild
tame-after (link_expires timer) mild e (near, far) = (tame-event (expired timer) e.near near tt, far)
tame-after link_sends mild e (near, far) =
    let x = tame-event offer e.near near tt in (
      record {
        own_free = x.own_free;
        peer_free = x.peer_free;
        waiting = x.waiting;
        way = All-append IsFreeFrame e.near.way _ near.way (offers-free e.near.terms e.near.link near.own_free e.near.link.waiting near.waiting);
      },
      far,
    )
tame-after link_receives mild e (near, far) = (tame-takes e.far.way far.way e.near near, tame-loses e.far far)
tame-after two_ends.loses mild e (near, far) = (tame-loses e.near near, far)
