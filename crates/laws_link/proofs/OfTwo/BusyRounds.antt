-- Turn after turn of an end that is busy itself and of the other, until all contents of the busy end have arrived.
use Rattle.laws_link.proofs.Vocabulary.{◌≡◌, ℕ, zero, suc, ◌+◌, ◌≤◌, Bool, false, List, [], ◌∷◌, ◌++◌, length, take, sym, ap, subst, ◌∙◌, ◌⊎◌, inl, inr, arith, All, nat_lt, slice_get, unwrap_or, lt-ltb, le-ltb, ltb-false, and_right, take-length, offer, Endpoint, Ends, sound-after, IsTaken, HasUnsent, HasArrived, rounds, IsBusyItself, IsUpAndIdle, IsDropped, GetsThrough}
use Rattle.laws_link.proofs.OfTwo.Halves.{take-one, One, Nothing, giver_of, taker_of}
use Rattle.laws_link.proofs.OfTwo.Arriving.{near_moves, far_moves, no-more, one-more}
use Rattle.laws_link.proofs.OfTwo.BusyMoves.{BusyMoved, busy-moves, open-moves}
use Rattle.laws_link.proofs.OfTwo.Recovering.{sound-taker}

-- The busy end n and the other, m: what holds of them between two turns, with the busy end's numbers as they were at first.
pub record Paired (busy : Bool) (r : ℕ) (ds cn cm : List (List ℕ)) (n m : Endpoint) : Type 0 where
  pub itself : IsBusyItself n
  pub other : IsUpAndIdle m
  pub taken : IsTaken n m
  pub dropped : IsDropped n m
  pub taken_for : m.link.peer_busy ≡ busy
  pub received : n.link.r ≡ r
  pub delivered : n.delivered ≡ ds
  pub kept_n : n.link.contents ≡ cn
  pub kept_m : m.link.contents ≡ cm

module _ (busy : Bool) (r : ℕ) (ds cn cm : List (List ℕ)) (n m : Endpoint) (h : Paired busy r ds cn cm n m) where
  by-busy : BusyMoved n m (giver_of n) (taker_of n m)
  by-busy = busy-moves n m h.itself h.other h.taken h.dropped

  -- what was sent is taken
  taken-after : One n m (giver_of n) (taker_of n m) ⊎ Nothing n m (giver_of n) (taker_of n m) → IsTaken (giver_of n) (taker_of n m)
  taken-after (inl x) =
      let from : m.link.r ≡ n.link.s = h.taken.received in
      let up : suc n.link.s ≡ (taker_of n m).link.r = omega (arith, x.received, from) in
      record {
        received = x.received ∙ ap (λ i. i + 1) from ∙ sym x.sent;
        delivered =
            x.delivered ∙ ap (λ ds. ds ++ unwrap_or (slice_get n.link.contents n.link.s) [] ∷ []) (h.taken.delivered ∙ ap (λ i. take i n.link.contents) from)
            ∙ take-one n.link.contents n.link.s x.unsent ∙ ap (λ i. take i n.link.contents) up ∙ ap (λ cs. take (taker_of n m).link.r cs) (sym by-busy.giver.contents);
        owed = λ less. x.pending;
        sizes = subst (λ t. All (λ octets. length octets ≤ t.n201) (giver_of n).link.contents) (sym by-busy.taker.terms) (subst (λ cs. All (λ octets. length octets ≤ m.terms.n201) cs) (sym by-busy.giver.contents) h.taken.sizes);
      }
  taken-after (inr x) = grind (arith, taker_of, giver_of)

  pub busy-turn : Paired busy r ds cn cm (giver_of n) (taker_of n m)
  busy-turn =
      let x = by-busy in
      let g = x.giver_flags in
      let t = x.taker_flags in
      record {
        itself = record { ranges = h.itself.ranges; sound = sound-after n.terms h.itself.ranges offer n.link h.itself.sound; state = g.state; peer_busy = g.peer_busy; own_busy = g.own_busy; waiting = g.waiting; way = g.way };
        other = grind (arith, sound-taker);
        taken = taken-after x.moved;
        dropped = record {
          low = subst (λ i. (taker_of n m).link.a ≤ i) (sym x.received) x.low;
          high = subst (λ i. i ≤ (taker_of n m).link.s) (sym x.received) (subst (λ i. n.link.r ≤ i) (sym x.s) h.dropped.high);
          sizes = subst (λ cs. All (λ octets. length octets ≤ n.terms.n201) cs) (sym x.taker.contents) h.dropped.sizes;
        };
        taken_for = t.peer_busy ∙ h.taken_for;
        received = x.received ∙ h.received;
        delivered = x.delivered ∙ h.delivered;
        kept_n = x.giver.contents ∙ h.kept_n;
        kept_m = x.taker.contents ∙ h.kept_m;
      }

  pub open-turn : Paired busy r ds cn cm (taker_of m n) (giver_of m)
  open-turn =
      let x = (open-moves n m h.itself h.other h.taken h.dropped) in
      let g = x.giver_flags in
      let t = x.taker_flags in
      record {
        itself = grind (arith, sound-taker);
        other = record { ranges = h.other.ranges; sound = sound-after m.terms h.other.ranges offer m.link h.other.sound; state = g.state; own_busy = g.own_busy; waiting = g.waiting; way = g.way };
        taken = record {
          received = x.other_received ∙ h.taken.received ∙ sym x.s;
          delivered = x.other_delivered ∙ h.taken.delivered ∙ ap (λ i. take i n.link.contents) (sym x.other_received) ∙ ap (λ cs. take (giver_of m).link.r cs) (sym x.taker.contents);
          owed = λ less. absurd (omega (arith, less, x.a, x.s));
          sizes = subst (λ cs. All (λ octets. length octets ≤ m.terms.n201) cs) (sym x.taker.contents) h.taken.sizes;
        };
        dropped = record {
          low = subst (λ i. (giver_of m).link.a ≤ i) (sym x.received) (subst (λ i. i ≤ n.link.r) (sym x.other_a) h.dropped.low);
          high = subst (λ i. i ≤ (giver_of m).link.s) (sym x.received) (omega (arith, h.dropped.high, x.other_s));
          sizes = subst (λ t. All (λ octets. length octets ≤ t.n201) (giver_of m).link.contents) (sym x.taker.terms) (subst (λ cs. All (λ octets. length octets ≤ n.terms.n201) cs) (sym x.giver.contents) h.dropped.sizes);
        };
        taken_for = g.peer_busy ∙ h.taken_for;
        received = x.received ∙ h.received;
        delivered = x.delivered ∙ h.delivered;
        kept_n = x.taker.contents ∙ h.kept_n;
        kept_m = x.giver.contents ∙ h.kept_m;
      }

-- Before the busy end's turn, when the other has had its own: all that is sent is acknowledged, and at most u are unsent.
pub record Ahead (u : ℕ) (busy : Bool) (r : ℕ) (ds cn cm : List (List ℕ)) (n m : Endpoint) : Type 0 where
  pub paired : Paired busy r ds cn cm n m
  pub acknowledged : n.link.a ≡ n.link.s
  pub quiet : m.link.pending ≡ false
  pub left : HasUnsent u n

-- the other's turn leads there
pub first-open : (u : ℕ) (busy : Bool) (r : ℕ) (ds cn cm : List (List ℕ)) (n m : Endpoint) → Paired busy r ds cn cm n m → HasUnsent u n → Ahead u busy r ds cn cm (taker_of m n) (giver_of m)
first-open u busy r ds cn cm n m h left =
    let x = open-moves n m h.itself h.other h.taken h.dropped in
    record {
      paired = open-turn busy r ds cn cm n m h;
      acknowledged = x.a ∙ sym x.s;
      quiet = x.quiet;
      left = subst (λ s. length (taker_of m n).link.contents ≤ s + u) (sym x.s) (subst (λ cs. length cs ≤ n.link.s + u) (sym x.taker.contents) left);
    }

-- the busy end's turn and the other's
pub next-both : (u : ℕ) (busy : Bool) (r : ℕ) (ds cn cm : List (List ℕ)) (n m : Endpoint) → Ahead (suc u) busy r ds cn cm n m
    → Ahead u busy r ds cn cm (taker_of (taker_of n m) (giver_of n)) (giver_of (taker_of n m))
next-both u busy r ds cn cm n m h =
    let p = h.paired in
    first-open u busy r ds cn cm (giver_of n) (taker_of n m) (busy-turn busy r ds cn cm n m p)
    (grind (arith, nat_lt, lt-ltb, ltb-false))

-- At the end.
pub record Done (busy : Bool) (r : ℕ) (ds cn cm : List (List ℕ)) (n m : Endpoint) : Type 0 where
  pub paired : Paired busy r ds cn cm n m
  pub acknowledged : n.link.a ≡ n.link.s
  pub all : length n.link.contents ≤ n.link.s

-- Rounds: the busy end is near, and then far.
pub rounds-near : (u : ℕ) (busy : Bool) (r : ℕ) (ds cn cm : List (List ℕ)) (e : Ends) → Ahead u busy r ds cn cm e.near e.far
    → Done busy r ds cn cm (rounds u e).near (rounds u e).far
unfolding rounds
rounds-near zero busy r ds cn cm e h = (record { paired = h.paired; acknowledged = h.acknowledged; all = omega (arith, h.left) })
rounds-near (suc u) busy r ds cn cm e h = rounds-near u busy r ds cn cm (far_moves (near_moves e)) (next-both u busy r ds cn cm e.near e.far h)

pub rounds-far : (u : ℕ) (busy : Bool) (r : ℕ) (ds cn cm : List (List ℕ)) (e : Ends) → Ahead u busy r ds cn cm e.far e.near
    → Done busy r ds cn cm (rounds u (far_moves e)).far (rounds u (far_moves e)).near
unfolding rounds
rounds-far zero busy r ds cn cm e h = grind (arith, busy-moves, giver_of, taker_of, busy-turn)
rounds-far (suc u) busy r ds cn cm e h = rounds-far u busy r ds cn cm (near_moves (far_moves e)) (next-both u busy r ds cn cm e.far e.near h)

-- What is asked of them then.
module _ (busy : Bool) (r : ℕ) (ds cn cm : List (List ℕ)) (n m : Endpoint) (h : Done busy r ds cn cm n m) where
  has-arrived : HasArrived cn n m
  has-arrived =
      let p = h.paired in
      let kept = p.kept_n in
      let most : n.link.s ≤ length cn = subst (λ cs. n.link.s ≤ length cs) kept p.itself.sound.accepted in
      let all : length cn ≤ n.link.s = subst (λ cs. length cs ≤ n.link.s) kept h.all in
      let sent : n.link.s ≡ length cn = omega arith in
      grind (arith, take-length, and_right, le-ltb)

-- So it is of a pair that began as it did.
pub gets-through : (busy : Bool) (n m n' m' : Endpoint) → Done busy n.link.r n.delivered n.link.contents m.link.contents n' m' → GetsThrough n m n' m'
gets-through busy n m n' m' h =
    let p = h.paired in
    record {
      arrived = has-arrived busy n.link.r n.delivered n.link.contents m.link.contents n' m' h;
      kept = grind arith;
    }

-- From a pair on, whose turn it may be.
pub from-near : (u : ℕ) (busy : Bool) (r : ℕ) (ds cn cm : List (List ℕ)) (e : Ends) → Paired busy r ds cn cm e.near e.far → HasUnsent u e.near
    → Done busy r ds cn cm (rounds (u + 1) e).near (rounds (u + 1) e).far
unfolding rounds
from-near u busy r ds cn cm e h left =
    let x = busy-moves e.near e.far h.itself h.other h.taken h.dropped in
    let left' = no-more u e.near e.far (giver_of e.near) (taker_of e.near e.far) left x.giver.contents x.moved in
    subst (λ i. Done busy r ds cn cm (rounds i e).near (rounds i e).far) (one-more u)
    (rounds-near u busy r ds cn cm (far_moves (near_moves e)) (first-open u busy r ds cn cm (giver_of e.near) (taker_of e.near e.far) (busy-turn busy r ds cn cm e.near e.far h) left'))

pub from-far : (u : ℕ) (busy : Bool) (r : ℕ) (ds cn cm : List (List ℕ)) (e : Ends) → Paired busy r ds cn cm e.far e.near → HasUnsent u e.far
    → Done busy r ds cn cm (rounds (u + 1) e).far (rounds (u + 1) e).near
unfolding rounds
from-far u busy r ds cn cm e h left =
    subst (λ i. Done busy r ds cn cm (rounds i e).far (rounds i e).near) (one-more u)
    (rounds-far u busy r ds cn cm (near_moves e) (first-open u busy r ds cn cm e.far e.near h left))

-- The pair as it is at first.
pub paired-first : (n m : Endpoint) → IsBusyItself n → IsUpAndIdle m → IsTaken n m → IsDropped n m → Paired m.link.peer_busy n.link.r n.delivered n.link.contents m.link.contents n m
paired-first n m hn hm there back = grind arith
