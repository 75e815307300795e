-- Half a round: one end gives its next frame, and the other receives it.
use Rattle.laws_link.proofs.Vocabulary.{◌≡◌, ℕ, zero, suc, ◌+◌, ◌-◌, ◌<◌, ◌≤◌, Bool, true, false, ◌==◌, List, [], ◌∷◌, ◌++◌, length, take, Some, refl, sym, ap, ◌∙◌, ◌⊎◌, inl, inr, append-nil, eq-eqb, arith, All, nat_lt, slice_get, unwrap_or, ltb-true, ltb-false, le-ltb, le-leb, and_parts, All-head, All-tail, seq, named, distance-plain, Parts, frame, received, offer, IsSound, Endpoint, with_link}
use Rattle.laws_link.proofs.Vocabulary.{with_sent, without_first, with_first_of, sound-after, IsReady, IsTaken, State, may_send_information}
use Rattle.laws_link.proofs.OfTwo.Plain.{plain, is_plain, information_frame, with_information, with_acknowledgement, with_taken, gives-information, gives-acknowledgement, gives-nothing, takes-information, takes-acknowledgement}

-- an N(R) names the number that it means, if that lies between V(A) and V(S)
pub named-number : (a s v : ℕ) → a ≤ v → v ≤ s → s ≤ a + 127 → named a s (seq v) ≡ Some v
unfolding named
named-number a s v low high near = grind (arith, distance-plain, le-leb)

-- contents at a place
pub fits-at : (n : ℕ) (contents : List (List ℕ)) (i : ℕ) → All (λ octets. length octets ≤ n) contents → length (unwrap_or (slice_get contents i) []) ≤ n
fits-at n [] i h = omega arith
fits-at n (x ∷ xs) zero h = All-head (λ octets. length octets ≤ n) x xs h
fits-at n (x ∷ xs) (suc i) h = fits-at n xs i (All-tail (λ octets. length octets ≤ n) x xs h)

pub take-one : (contents : List (List ℕ)) (i : ℕ) → i < length contents → take i contents ++ unwrap_or (slice_get contents i) [] ∷ [] ≡ take (suc i) contents
take-one [] i h = absurd (omega (arith, h))
take-one (x ∷ xs) zero h = cc
take-one (x ∷ xs) (suc i) h = ap (λ ys. x ∷ ys) (take-one xs i (omega (arith, h)))

-- What becomes of the number of I-frames.
pub record One (n m n' m' : Endpoint) : Type 0 where
  pub unsent : n.link.s < length n.link.contents
  pub sent : n'.link.s ≡ n.link.s + 1
  pub received : m'.link.r ≡ m.link.r + 1
  pub pending : m'.link.pending ≡ true
  pub delivered : m'.delivered ≡ m.delivered ++ unwrap_or (slice_get n.link.contents n.link.s) [] ∷ []

pub record Nothing (n m n' m' : Endpoint) : Type 0 where
  pub may : may_send_information n.terms (plain n.link) ≡ false
  pub sent : n'.link.s ≡ n.link.s
  pub received : m'.link.r ≡ m.link.r
  pub pending : m'.link.pending ≡ m.link.pending
  pub delivered : m'.delivered ≡ m.delivered

-- The end that gives, and the end that receives.
pub record Giver (n n' : Endpoint) : Type 0 where
  pub terms : n'.terms ≡ n.terms
  pub contents : n'.link.contents ≡ n.link.contents
  pub a : n'.link.a ≡ n.link.a
  pub r : n'.link.r ≡ n.link.r
  pub delivered : n'.delivered ≡ n.delivered
  pub pending : n'.link.pending ≡ false
  pub state : n'.link.state ≡ State.Established
  pub peer_busy : n'.link.peer_busy ≡ false
  pub own_busy : n'.link.own_busy ≡ false
  pub waiting : n'.link.waiting ≡ []
  pub way : n'.way ≡ []

pub record Taker (m m' : Endpoint) : Type 0 where
  pub terms : m'.terms ≡ m.terms
  pub contents : m'.link.contents ≡ m.link.contents
  pub a : m'.link.a ≡ m.link.s
  pub s : m'.link.s ≡ m.link.s
  pub state : m'.link.state ≡ State.Established
  pub peer_busy : m'.link.peer_busy ≡ false
  pub own_busy : m'.link.own_busy ≡ false
  pub waiting : m'.link.waiting ≡ []
  pub way : m'.way ≡ []

pub record Moved (n m n' m' : Endpoint) : Type 0 where
  pub giver : Giver n n'
  pub taker : Taker m m'
  pub moved : One n m n' m' ⊎ Nothing n m n' m'

-- with no acknowledgement owed nothing is outstanding
abbrev pub giver_of : Endpoint → Endpoint
giver_of n = without_first (with_sent n)

abbrev pub taker_of : Endpoint → Endpoint → Endpoint
taker_of n m = with_first_of (with_sent n).way m

module _ (n m : Endpoint) (hn : IsReady n) (hm : IsReady m) (there : IsTaken n m) (back : IsTaken m n) where
  names : named m.link.a m.link.s (seq n.link.r) ≡ Some m.link.s
  names = grind (arith, named-number)

  same : (m.link.s == m.link.s) ≡ true
  same = eq-eqb m.link.s m.link.s refl

  -- an I-frame goes
  one : may_send_information n.terms (plain n.link) ≡ true → Moved n m (giver_of n) (taker_of n m)
  one may =
      let parts = and_parts (nat_lt (n.link.s - n.link.a) n.terms.k) (nat_lt n.link.s (length n.link.contents)) may in
      let gives : with_sent n ≡ record n { link = with_information n.link; way = information_frame n.terms n.link ∷ [] } = ap with_sent (is_plain n hn) ∙ gives-information false false n may in
      let next : m.link.r ≡ n.link.s = there.received in
      let takes : with_link (received (frame (information_frame n.terms n.link))) m ≡ record m { link = with_taken m.link; way = []; delivered = m.delivered ++ unwrap_or (slice_get n.link.contents n.link.s) [] ∷ [] } =
      ap (with_link (received (frame (information_frame n.terms n.link)))) (is_plain m hm)
      ∙ takes-information m same n.terms n.link (le-ltb m.terms.n201 (length (unwrap_or (slice_get n.link.contents n.link.s) [])) (fits-at m.terms.n201 n.link.contents n.link.s there.sizes))
      (eq-eqb (seq n.link.s).value (seq m.link.r).value (ap (λ i. (seq i).value) (sym next))) names in
      grind (arith, takes, ltb-true)

  -- an acknowledgement goes
  acknowledges : may_send_information n.terms (plain n.link) ≡ false → n.link.pending ≡ true → Moved n m (giver_of n) (taker_of n m)
  acknowledges may owed = grind (arith, is_plain, gives-acknowledgement, takes-acknowledgement, same, names, append-nil)

  -- nothing goes: then nothing is outstanding at the other end
  rests : may_send_information n.terms (plain n.link) ≡ false → n.link.pending ≡ false → Moved n m (giver_of n) (taker_of n m)
  rests may owed = grind (arith, with_acknowledgement, is_plain, gives-nothing, ltb-true, ltb-false, nat_lt)

  by-flags : (may owed : Bool) → may_send_information n.terms (plain n.link) ≡ may → n.link.pending ≡ owed → Moved n m (giver_of n) (taker_of n m)
  by-flags true owed e p = one e
  by-flags false true e p = acknowledges e p
  by-flags false false e p = rests e p

  pub moves : Moved n m (giver_of n) (taker_of n m)
  moves = by-flags (may_send_information n.terms (plain n.link)) n.link.pending refl refl

  -- both ends stay sound
  sound-taker : (way : List Parts) → IsSound (with_first_of way m).terms (with_first_of way m).link
  sound-taker [] = hm.sound
  sound-taker (f ∷ fs) = sound-after m.terms hm.ranges (received (frame f)) m.link hm.sound

  pub ready-giver : IsReady (giver_of n)
  ready-giver =
      let h = moves.giver in
      record { ranges = hn.ranges; sound = sound-after n.terms hn.ranges offer n.link hn.sound; state = h.state; peer_busy = h.peer_busy; own_busy = h.own_busy; waiting = h.waiting; way = h.way }

  pub ready-taker : IsReady (taker_of n m)
  ready-taker = grind (arith, moves, sound-taker)

  -- what was sent is taken, both ways
  taken-there : One n m (giver_of n) (taker_of n m) ⊎ Nothing n m (giver_of n) (taker_of n m) → IsTaken (giver_of n) (taker_of n m)
  taken-there (inl x) =
      let g = moves.giver in
      let k = moves.taker in
      let from : m.link.r ≡ n.link.s = there.received in
      let up : suc n.link.s ≡ (taker_of n m).link.r = omega (arith, x.received, from) in
      grind (arith, slice_get, take-one)
  taken-there (inr x) = grind arith

  pub takes : IsTaken (giver_of n) (taker_of n m)
  takes = taken-there moves.moved

  pub taken : IsTaken (taker_of n m) (giver_of n)
  taken = grind (arith, moves)
