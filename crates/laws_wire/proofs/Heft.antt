-- What is left to do on a wire, as its stations are; and what is done at an end makes it less, whatever its phase.
use Rattle.laws_wire.proofs.Vocabulary.{◌≡◌, ℕ, ◌+◌, ◌≤◌, Bool, false, cond, List, [], length, refl, sym, subst, inl, inr, append-nil, arith, Service, Timer, T200, T203, Terms, Link, Course, course, begun, LinkEndpoint, with_link, Config, LineTold, request, Line, place_in, Request, SetBusy, ClearBusy, at_requested, aim_of_request, contents_requested, Endpoint, Wire, happens}
use Rattle.laws_wire.proofs.Vocabulary.{EndStep, requests, expires, receives, acting, is_granted, answered, IsAsked, IsOfLink, IsFullTalkOf, IsTimelyOf, is_move_of, expiries_of, requested, LinkClearBusy, LinkRequest, LinkSetBusy, timer_T200, timer_T203, reports_of}
use Rattle.laws_wire.proofs.Awaited.{may-there}
use Rattle.laws_wire.proofs.Held.{Held}
use Rattle.laws_wire.proofs.Loads.{load, load_way, one-waits}
use Rattle.laws_wire.proofs.LoadsTimed.{timer-fairly}
use Rattle.laws_wire.proofs.Simulated.{for-asked, each-timer}
use Rattle.laws_wire.proofs.Rested.{then-gives, then-loses, then-asks, fairly-expires}
use Rattle.laws_wire.proofs.Standing.{StationStands, Granted, asks-stands}
use Rattle.laws_wire.proofs.Talking.{Face}
use Rattle.laws_wire.proofs.Weighing.{undelivered, weigh, Pays, heft, heft-is}

-- ---- own busy begins or ends: one frame waits

pub record Reports (w : ℕ) (l : Link) (c : Course) : Type 0 where
  pub contents : c.link.contents ≡ l.contents
  pub received : c.link.r ≡ l.r
  pub within : load w c.link ≤ load w l + 2

module _ (w : ℕ) (t : Terms) (l : Link) where
  either : (b : Bool) (u v : Course) → Reports w l u → Reports w l v → Reports w l (cond b u v)
  either b u v x y = grind arith

  nothing-said : Reports w l (begun l)
  nothing-said = record { contents = refl; received = refl; within = omega arith }

  pub ready-reports : Reports w l (course t (requested LinkClearBusy false) l)
  ready-reports = grind (arith, one-waits, nothing-said, either)

module _ (service : Service) (tei : ℕ) where
  module _ (c d : Config) (p q : ℕ) (past_n past_m : List LineTold) (face : Face c d) (v : ℕ) (w : Wire) (n m : LinkEndpoint) (near : Held c service tei p past_n w.near n)
      (far : Held d service tei q past_m w.far m) (low : m.link.r ≤ length n.link.contents) where
    here : heft service tei v w ≡ weigh v n m
    here = heft-is service tei v c d p q w n m near.stands far.stands

    abbrev moved_by : EndStep → ℕ
    moved_by act = cond {A = ℕ} (is_move_of act w) 1 0

    -- ---- layer 3 asks

    module _ (r : Request) (rq : LinkRequest) (aims : (l : Line) → aim_of_request r l ≡ at_requested service tei rq (place_in l tei)) (none : contents_requested r ≡ [])
        (said : Reports v n.link (course n.terms (requested rq false) n.link)) where
      abbrev s' : Endpoint
      s' = happens (request r) w.near

      own : StationStands w.near.card.config service tei p w.near n
      own = subst (λ k. StationStands k service tei p w.near n) (sym near.stands.config) near.stands

      abbrev n' : LinkEndpoint
      n' = with_link (requested rq false) n

      abbrev bit : Bool
      bit = is_granted (answered (request r) w.near)

      reported : Granted service tei p w.near n own r rq aims s' → Pays service tei v 0 0 (cond {A = ℕ} bit 1 0) w (record w { near = s' })
      reported g = grind (arith, append-nil, load, load_way, undelivered, heft-is, StationStands, here)

      busy-pays : Pays service tei v 0 0 (cond {A = ℕ} bit 1 0) w (acting (requests r) w)
      busy-pays = elim (asks-stands service tei p w.near n own r rq aims) [ inl e ↦ (grind arith) | inr g ↦ reported g ]

    asks-pays : (r : Request) → IsAsked service tei r → Pays service tei v 0 0 (reports_of (requests r) w) w (acting (requests r) w)
    asks-pays r is =
        for-asked service tei (λ r. Pays service tei v 0 0 (reports_of (requests r) w) w (acting (requests r) w))
        (λ octets. then-asks service tei c d p q past_n past_m face v w n m near far low octets)
        (busy-pays (SetBusy service tei) LinkSetBusy (λ l. refl) refl (grind (arith, one-waits, nothing-said, either)))
        (busy-pays (ClearBusy service tei) LinkClearBusy (λ l. refl) refl (ready-reports v n.terms n.link)) r is

    -- ---- a timer expires

    pub expires-pays : (timer : Timer) → IsOfLink service tei timer → IsTimelyOf (expires timer) w → Pays service tei v 0 1 0 w (acting (expires timer) w)
    expires-pays timer is x =
        each-timer service tei (λ timer. IsTimelyOf (expires timer) w → Pays service tei v 0 1 0 w (acting (expires timer) w))
        (λ x. fairly-expires service tei c d p q past_n past_m face v w n m near far low (timer_T200 service tei) T200 (λ l. refl) (timer-fairly v n.terms n.link T200 (λ e. may-there service tei c p w.near n near.stands x.1)))
        (λ x. fairly-expires service tei c d p q past_n past_m face v w n m near far low (timer_T203 service tei) T203 (λ l. refl) (timer-fairly v n.terms n.link T203 (λ e. cc e))) timer is x

    -- ---- each act, but that it takes

    pub acts-pays : (act : EndStep) → (act ≡ receives → ⊥) → IsFullTalkOf service tei act → IsTimelyOf act w → Pays service tei v (moved_by act) (expiries_of act) (reports_of act w) w (acting act w)
    acts-pays (requests r) not is x = asks-pays r is
    acts-pays act o is x = grind (arith, expires-pays, then-gives, then-loses)
