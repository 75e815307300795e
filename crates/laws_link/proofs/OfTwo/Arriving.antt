-- Half a round after another, until all contents have arrived.
use Rattle.laws_link.proofs.Vocabulary.{◌≡◌, ℕ, zero, suc, ◌+◌, ◌≤◌, false, List, length, sym, subst, ◌∙◌, ◌⊎◌, inl, inr, arith, nat_lt, lt-ltb, le-ltb, ltb-false, and_right, take-length, Endpoint, Ends, IsReady, IsTaken, HasUnsent, HasArrived, rounds, may_send_information}
use Rattle.laws_link.proofs.OfTwo.Plain.{plain}
use Rattle.laws_link.proofs.OfTwo.Halves.{One, Nothing, giver_of, taker_of, moves, ready-giver, ready-taker, takes, taken}

-- The first end has just moved, and it is the other's turn.
pub record Turn (v w : ℕ) (cn cm : List (List ℕ)) (n m : Endpoint) : Type 0 where
  pub giver : IsReady n
  pub taker : IsReady m
  pub there : IsTaken n m
  pub back : IsTaken m n
  pub kept_n : n.link.contents ≡ cn
  pub kept_m : m.link.contents ≡ cm
  pub acknowledged : m.link.a ≡ m.link.s
  pub quiet : n.link.pending ≡ false
  pub left_m : length m.link.contents ≤ m.link.s + v
  pub left_n : length n.link.contents ≤ n.link.s + w

-- With the window open an end that may send no I-frame has nothing unsent.
pub nothing-unsent : (n : Endpoint) → IsReady n → n.link.a ≡ n.link.s → may_send_information n.terms (plain n.link) ≡ false → length n.link.contents ≤ n.link.s
nothing-unsent n h open_ may = grind (arith, lt-ltb, ltb-false)

-- no more is left to an end that has moved
pub no-more : (u : ℕ) (n m n' m' : Endpoint) → length n.link.contents ≤ n.link.s + u → n'.link.contents ≡ n.link.contents
    → One n m n' m' ⊎ Nothing n m n' m' → length n'.link.contents ≤ n'.link.s + u
no-more u n m n' m' left kept o = grind arith

-- the first move
pub first-turn : (u : ℕ) (n m : Endpoint) → IsReady n → IsReady m → IsTaken n m → IsTaken m n → HasUnsent u n → HasUnsent u m
    → Turn u u n.link.contents m.link.contents (giver_of n) (taker_of n m)
first-turn u n m hn hm there back un um =
    let x = moves n m hn hm there back in
    grind (arith, ready-giver, ready-taker, takes, taken, taker_of, no-more, giver_of)

-- the next
pub next-turn : (v w : ℕ) (cn cm : List (List ℕ)) (n m : Endpoint) → Turn (suc v) w cn cm n m → Turn w v cm cn (giver_of m) (taker_of m n)
next-turn v w cn cm n m h = grind (arith, moves, ready-giver, ready-taker, takes, taken, taker_of, nothing-unsent, giver_of)

-- the last: neither has anything unsent
module _ (cn cm : List (List ℕ)) (n m : Endpoint) (h : Turn 0 0 cn cm n m) where
  arrived-end : (x y : Endpoint) (contents : List (List ℕ)) → IsReady x → IsTaken x y → x.link.contents ≡ contents → x.link.a ≡ x.link.s → length contents ≤ x.link.s
      → x.link.pending ≡ false → HasArrived contents x y
  arrived-end x y contents r taken kept acknowledged all quiet =
      let most : x.link.s ≤ length contents = subst (λ cs. x.link.s ≤ length cs) kept r.sound.accepted in
      let sent : x.link.s ≡ length contents = omega arith in
      grind (arith, take-length, and_right, nat_lt, le-ltb)

  one-or-none : One m n (giver_of m) (taker_of m n) ⊎ Nothing m n (giver_of m) (taker_of m n) → HasArrived cn (taker_of m n) (giver_of m) × HasArrived cm (giver_of m) (taker_of m n)
  one-or-none (inl x) = absurd (omega (arith, h.left_m, x.unsent))
  one-or-none (inr x) =
      let y = moves m n h.taker h.giver h.back h.there in (
        arrived-end (taker_of m n) (giver_of m) cn (ready-taker m n h.taker h.giver h.back h.there) (taken m n h.taker h.giver h.back h.there)
            (y.taker.contents ∙ h.kept_n) (y.taker.a ∙ sym y.taker.s)
            (subst (λ s. length cn ≤ s) (sym y.taker.s) (subst (λ cs. length cs ≤ n.link.s) h.kept_n (omega (arith, h.left_n))))
            (x.pending ∙ h.quiet),
        arrived-end (giver_of m) (taker_of m n) cm (ready-giver m n h.taker h.giver h.back h.there) (takes m n h.taker h.giver h.back h.there)
            (y.giver.contents ∙ h.kept_m) (y.giver.a ∙ h.acknowledged ∙ sym x.sent)
            (subst (λ s. length cm ≤ s) (sym x.sent) (subst (λ cs. length cs ≤ m.link.s) h.kept_m (omega (arith, h.left_m))))
            y.giver.pending,
      )

  pub last : HasArrived cn (taker_of m n) (giver_of m) × HasArrived cm (giver_of m) (taker_of m n)
  last = one-or-none (moves m n h.taker h.giver h.back h.there).moved

-- Rounds of two ends, as moves of one and the other.
abbrev pub near_moves : Ends → Ends
near_moves e = record { near = giver_of e.near; far = taker_of e.near e.far }

abbrev pub far_moves : Ends → Ends
far_moves e = record { near = taker_of e.far e.near; far = giver_of e.far }

abbrev pub Arrived : List (List ℕ) → List (List ℕ) → Ends → Type 0
Arrived cn cm e = HasArrived cn e.near e.far × HasArrived cm e.far e.near

pub then-arrived : (u : ℕ) (cn cm : List (List ℕ)) (e : Ends) → Turn u u cn cm e.near e.far → Arrived cn cm (rounds u (far_moves e))
unfolding rounds
then-arrived zero cn cm e h = last cn cm e.near e.far h
then-arrived (suc u) cn cm e h =
    then-arrived u cn cm (near_moves (far_moves e)) (next-turn u u cm cn (giver_of e.far) (taker_of e.far e.near) (next-turn u (suc u) cn cm e.near e.far h))

pub one-more : (u : ℕ) → suc u ≡ u + 1
one-more u = omega arith

pub all-arrived : (u : ℕ) (e : Ends) → IsReady e.near → IsReady e.far → IsTaken e.near e.far → IsTaken e.far e.near → HasUnsent u e.near → HasUnsent u e.far
    → Arrived e.near.link.contents e.far.link.contents (rounds (u + 1) e)
unfolding rounds
all-arrived u e hn hm there back un um =
    subst (λ i. Arrived e.near.link.contents e.far.link.contents (rounds i e)) (one-more u)
    (then-arrived u e.near.link.contents e.far.link.contents (near_moves e) (first-turn u e.near e.far hn hm there back un um))

-- and neither takes the other for busy
abbrev pub AreFree : Ends → Type 0
AreFree e = (e.near.link.peer_busy ≡ false) × (e.far.link.peer_busy ≡ false)

then-free : (u : ℕ) (cn cm : List (List ℕ)) (e : Ends) → Turn u u cn cm e.near e.far → AreFree (rounds u (far_moves e))
unfolding rounds
then-free zero cn cm e h = grind (arith, ready-taker, ready-giver)
then-free (suc u) cn cm e h =
    let two = next-turn u u cm cn (giver_of e.far) (taker_of e.far e.near) (next-turn u (suc u) cn cm e.near e.far h) in
    then-free u cn cm (near_moves (far_moves e)) two

pub all-free : (u : ℕ) (e : Ends) → IsReady e.near → IsReady e.far → IsTaken e.near e.far → IsTaken e.far e.near → HasUnsent u e.near → HasUnsent u e.far → AreFree (rounds (u + 1) e)
unfolding rounds
all-free u e hn hm there back un um =
    subst (λ i. AreFree (rounds i e)) (one-more u)
    (then-free u e.near.link.contents e.far.link.contents (near_moves e) (first-turn u e.near e.far hn hm there back un um))
