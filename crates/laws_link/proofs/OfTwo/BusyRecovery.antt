-- After the loss of all frames, what an end that is busy itself gives arrives, from the expiry of T200 on.
use Rattle.laws_link.proofs.Vocabulary.{LinkCounts, ◌≡◌, ℕ, suc, ◌+◌, ◌≤◌, Bool, true, false, [], ◌∷◌, length, Some, refl, sym, ap, subst, ◌∙◌, ◌⊎◌, inl, inr, arith, T200, T203, Endpoint, Ends, expired, sound-after, rounds, IsCutOff, IsCutOffWith, HasMissing, with_t200_expired, GetsThrough}
use Rattle.laws_link.proofs.OfTwo.Plain.{plain_end, plain_end_with}
use Rattle.laws_link.proofs.OfTwo.Halves.{giver_of, taker_of}
use Rattle.laws_link.proofs.OfTwo.Arriving.{near_moves, far_moves, no-more}
use Rattle.laws_link.proofs.OfTwo.Shapes.{enquiry, enquiry_with, in_8, in_8_with, in_7, in_7_with}
use Rattle.laws_link.proofs.OfTwo.Expiring.{Asking, Resting, with_count, expires-one}
use Rattle.laws_link.proofs.OfTwo.Recovering.{Sounds, Between}
use Rattle.laws_link.proofs.OfTwo.Recovery.{between, after-round}
use Rattle.laws_link.proofs.OfTwo.BusyMoves.{busy-moves}
use Rattle.laws_link.proofs.OfTwo.BusyRounds.{Done, busy-turn, first-open, from-near, from-far, gets-through}
use Rattle.laws_link.proofs.OfTwo.BusyRecovering.{both-near, both-far, busy-near, other-near, none-asks, other-began, busy-began}

-- What comes of the busy end n and the other, m; and whether m takes n for busy then.
pub record Finished (n m n' m' : Endpoint) : Type 0 where
  pub busy : Bool
  pub done : Done busy n.link.r n.delivered n.link.contents m.link.contents n' m'
  pub knows : (n.link.running ≡ Some T200) ⊎ (m.link.running ≡ Some T200) → busy ≡ true

pub finished-through : (n m n' m' : Endpoint) → Finished n m n' m' → GetsThrough n m n' m'
finished-through n m n' m' h = gets-through h.busy n m n' m' h.done

pub knows-after : (n m n' m' : Endpoint) → Finished n m n' m' → (n.link.running ≡ Some T200) ⊎ (m.link.running ≡ Some T200) → m'.link.peer_busy ≡ true
knows-after n m n' m' h ran = h.done.paired.taken_for ∙ h.knows ran

-- u + 3 rounds, of which two, one or none have passed
module _ (P : Ends → Type 0) (u : ℕ) (e : Ends) where
  two-passed : P (rounds (u + 1) (far_moves (near_moves (far_moves (near_moves e))))) → P (rounds (u + 3) e)
  two-passed h =
      let count : suc (suc (u + 1)) ≡ u + 3 = omega arith in
      grind (arith, after-round)

  one-passed : P (rounds ((u + 1) + 1) (far_moves (near_moves e))) → P (rounds (u + 3) e)
  one-passed h =
      let count : suc ((u + 1) + 1) ≡ u + 3 = omega arith in
      subst (λ i. P (rounds i e)) count (subst P (sym (after-round ((u + 1) + 1) e)) h)

  none-passed : P (rounds ((u + 2) + 1) e) → P (rounds (u + 3) e)
  none-passed h = grind arith

no-t200 : (n m : Endpoint) (busy : Bool) → n.link.running ≡ Some T203 → m.link.running ≡ Some T203 → (n.link.running ≡ Some T200) ⊎ (m.link.running ≡ Some T200) → busy ≡ true
no-t200 n m busy rn rm o = grind arith

sounds : (own own' : Bool) (e : Ends) → IsCutOffWith own e.near e.far → IsCutOffWith own' e.far e.near → Sounds (with_t200_expired e)
sounds own own' e hn hm = record {
  near_ranges = hn.ranges;
  far_ranges = hm.ranges;
  near = sound-after e.near.terms hn.ranges (expired T200) e.near.link hn.sound;
  far = sound-after e.far.terms hm.ranges (expired T200) e.far.link hm.sound;
}

-- the busy end n and the other, m, after T200
module _ (u : ℕ) (n m : Endpoint) (hn : IsCutOffWith true n m) (hm : IsCutOff m n) (un : HasMissing u n m) where
  abbrev v : ℕ
  v = length m.link.contents

  there : (b : ℕ) (j : LinkCounts) (c : ℕ) (k : LinkCounts) → Between u n.link.contents (with_count b j n) (with_count c k m)
  there b j c k = between true u u n m b j c k hn un (omega arith)

  back : (b : ℕ) (j : LinkCounts) (c : ℕ) (k : LinkCounts) → Between v m.link.contents (with_count c k m) (with_count b j n)
  back b j c k = between false v v m n c k b j hm (omega arith) (omega arith)

-- The busy end is near.
module _ (u : ℕ) (e : Ends) (hn : IsCutOffWith true e.near e.far) (hm : IsCutOff e.far e.near) (un : HasMissing u e.near e.far) where
  abbrev NearFinished : Ends → Type 0
  NearFinished e' = Finished e.near e.far e'.near e'.far

  abbrev NearResult : Type 0
  NearResult = NearFinished (rounds (u + 3) (with_t200_expired e))

  near-both : (x : Asking true e.near (with_t200_expired e).near) (y : Asking false e.far (with_t200_expired e).far) → NearResult
  near-both x y =
      let n = with_count x.count x.counts e.near in
      let m = with_count y.count y.counts e.far in
      let e0 : Ends = record { near = in_8_with true n (enquiry_with true n.link.r ∷ []) n.link.peer_busy n.link.a false n.delivered; far = in_8 m (enquiry m.link.r ∷ []) m.link.peer_busy m.link.a false m.delivered } in
      let is : with_t200_expired e ≡ e0 = λ i. record { near = x.is i; far = y.is i } in
      let h = both-near u (v u e.near e.far hn hm un) n.link.contents m.link.contents n m (there u e.near e.far hn hm un x.count x.counts y.count y.counts) (back u e.near e.far hn hm un x.count x.counts y.count y.counts) n.link.peer_busy m.link.peer_busy (subst Sounds is (sounds true false e hn hm)) in
      subst (λ e'. NearFinished (rounds (u + 3) e')) (sym is)
      (two-passed NearFinished u e0
      (record { busy = true; done = from-near u true n.link.r n.delivered n.link.contents m.link.contents (far_moves (near_moves (far_moves (near_moves e0)))) h.0 h.1; knows = λ some. refl }))

  near-one : (x : Asking true e.near (with_t200_expired e).near) (y : Resting false e.far (with_t200_expired e).far) → NearResult
  near-one x y =
      let n = with_count x.count x.counts e.near in
      let m = with_count e.far.link.repeats e.far.link.counts e.far in
      let e0 : Ends = record { near = in_8_with true n (enquiry_with true n.link.r ∷ []) n.link.peer_busy n.link.a false n.delivered; far = in_7 m [] m.link.a m.link.s m.link.pending y.running m.delivered } in
      let is : with_t200_expired e ≡ e0 = λ i. record { near = x.is i; far = y.is i } in
      let h = busy-near u (v u e.near e.far hn hm un) n.link.contents m.link.contents n m (there u e.near e.far hn hm un x.count x.counts e.far.link.repeats e.far.link.counts) (back u e.near e.far hn hm un x.count x.counts e.far.link.repeats e.far.link.counts) n.link.peer_busy m.link.pending y.running (subst Sounds is (sounds true false e hn hm)) in
      subst (λ e'. NearFinished (rounds (u + 3) e')) (sym is)
      (one-passed NearFinished u e0
      (record { busy = true; done = from-near (u + 1) true n.link.r n.delivered n.link.contents m.link.contents (far_moves (near_moves e0)) h.0 (omega (arith, h.1)); knows = λ some. refl }))

  near-other : (x : Resting true e.near (with_t200_expired e).near) (y : Asking false e.far (with_t200_expired e).far) → NearResult
  near-other x y =
      let n : Endpoint = record e.near { link = record e.near.link { running = x.running; pending = false } } in
      let m = with_count y.count y.counts e.far in
      let e0 : Ends = record { near = plain_end_with true false n; far = in_8 m (enquiry m.link.r ∷ []) m.link.peer_busy m.link.a false m.delivered } in
      let is : with_t200_expired e ≡ e0 = λ i. record { near = (x.is ∙ ap (λ p. in_7_with true false e.near [] e.near.link.a e.near.link.s p x.running e.near.delivered) (hn.sound.owes_nothing hn.own_busy)) i; far = y.is i } in
      let t = there u e.near e.far hn hm un e.near.link.repeats e.near.link.counts y.count y.counts in
      let b = back u e.near e.far hn hm un e.near.link.repeats e.near.link.counts y.count y.counts in
      let t' : Between u n.link.contents n m = record { ranges = t.ranges; kept = t.kept; low = t.low; high = t.high; near = t.near; delivered = t.delivered; sizes = t.sizes; left = t.left } in
      let b' : Between (v u e.near e.far hn hm un) m.link.contents m n = record { ranges = b.ranges; kept = b.kept; low = b.low; high = b.high; near = b.near; delivered = b.delivered; sizes = b.sizes; left = b.left } in
      let e1 = near_moves (far_moves (near_moves e0)) in
      let h = other-began u (v u e.near e.far hn hm un) n.link.contents m.link.contents n m t' b' m.link.peer_busy x.all refl (subst Sounds is (sounds true false e hn hm)) in
      let a = first-open u true n.link.r n.delivered n.link.contents m.link.contents e1.near e1.far h.0 h.1 in
      subst (λ e'. NearFinished (rounds (u + 3) e')) (sym is)
      (two-passed NearFinished u e0
      (record { busy = true; done = from-near u true n.link.r n.delivered n.link.contents m.link.contents (far_moves e1) a.paired a.left; knows = λ some. refl }))

  near-none : (x : Resting true e.near (with_t200_expired e).near) (y : Resting false e.far (with_t200_expired e).far) → NearResult
  near-none x y =
      let n = with_count e.near.link.repeats e.near.link.counts e.near in
      let m = with_count e.far.link.repeats e.far.link.counts e.far in
      let e0 : Ends = record { near = in_7_with true false n [] n.link.a n.link.s false x.running n.delivered; far = in_7 m [] m.link.a m.link.s m.link.pending y.running m.delivered } in
      let is : with_t200_expired e ≡ e0 = λ i. record { near = (x.is ∙ ap (λ p. in_7_with true false e.near [] e.near.link.a e.near.link.s p x.running e.near.delivered) (hn.sound.owes_nothing hn.own_busy)) i; far = y.is i } in
      let s = subst Sounds is (sounds true false e hn hm) in
      let h = none-asks u (v u e.near e.far hn hm un) n.link.contents m.link.contents n m (there u e.near e.far hn hm un e.near.link.repeats e.near.link.counts e.far.link.repeats e.far.link.counts) (back u e.near e.far hn hm un e.near.link.repeats e.near.link.counts e.far.link.repeats e.far.link.counts) m.link.pending x.running y.running x.all s.near s.far in
      let low : n.link.a ≤ m.link.r = hn.low in
      subst (λ e'. NearFinished (rounds (u + 3) e')) (sym is)
      (none-passed NearFinished u e0
      (record { busy = false; done = from-near (u + 2) false n.link.r n.delivered n.link.contents m.link.contents e0 h (omega (arith, un, x.all)); knows = no-t200 e.near e.far false x.before y.before }))

  near-either : Asking true e.near (with_t200_expired e).near ⊎ Resting true e.near (with_t200_expired e).near
      → Asking false e.far (with_t200_expired e).far ⊎ Resting false e.far (with_t200_expired e).far → NearResult
  near-either (inl x) (inl y) = near-both x y
  near-either (inl x) (inr y) = near-one x y
  near-either (inr x) (inl y) = near-other x y
  near-either (inr x) (inr y) = near-none x y

  pub near-finished : Finished e.near e.far (rounds (u + 3) (with_t200_expired e)).near (rounds (u + 3) (with_t200_expired e)).far
  near-finished = near-either (expires-one true e.near e.far hn) (expires-one false e.far e.near hm)

-- It is far.
module _ (u : ℕ) (e : Ends) (hn : IsCutOffWith true e.far e.near) (hm : IsCutOff e.near e.far) (un : HasMissing u e.far e.near) where
  abbrev FarFinished : Ends → Type 0
  FarFinished e' = Finished e.far e.near e'.far e'.near

  abbrev FarResult : Type 0
  FarResult = FarFinished (rounds (u + 3) (with_t200_expired e))

  far-both : (x : Asking true e.far (with_t200_expired e).far) (y : Asking false e.near (with_t200_expired e).near) → FarResult
  far-both x y =
      let n = with_count x.count x.counts e.far in
      let m = with_count y.count y.counts e.near in
      let e0 : Ends = record { near = in_8 m (enquiry m.link.r ∷ []) m.link.peer_busy m.link.a false m.delivered; far = in_8_with true n (enquiry_with true n.link.r ∷ []) n.link.peer_busy n.link.a false n.delivered } in
      let is : with_t200_expired e ≡ e0 = λ i. record { near = y.is i; far = x.is i } in
      let h = both-far u (v u e.far e.near hn hm un) n.link.contents m.link.contents n m (there u e.far e.near hn hm un x.count x.counts y.count y.counts) (back u e.far e.near hn hm un x.count x.counts y.count y.counts) n.link.peer_busy m.link.peer_busy (subst Sounds is (sounds false true e hm hn)) in
      subst (λ e'. FarFinished (rounds (u + 3) e')) (sym is)
      (two-passed FarFinished u e0
      (record { busy = true; done = from-far u true n.link.r n.delivered n.link.contents m.link.contents (far_moves (near_moves (far_moves (near_moves e0)))) h.0 h.1; knows = λ some. refl }))

  far-one : (x : Asking true e.far (with_t200_expired e).far) (y : Resting false e.near (with_t200_expired e).near) → FarResult
  far-one x y =
      let n = with_count x.count x.counts e.far in
      let m : Endpoint = record e.near { link = record e.near.link { running = y.running } } in
      let e0 : Ends = record { near = plain_end m; far = in_8_with true n (enquiry_with true n.link.r ∷ []) n.link.peer_busy n.link.a false n.delivered } in
      let is : with_t200_expired e ≡ e0 = λ i. record { near = y.is i; far = x.is i } in
      let t = there u e.far e.near hn hm un x.count x.counts e.near.link.repeats e.near.link.counts in
      let b = back u e.far e.near hn hm un x.count x.counts e.near.link.repeats e.near.link.counts in
      let t' : Between u n.link.contents n m = record { ranges = t.ranges; kept = t.kept; low = t.low; high = t.high; near = t.near; delivered = t.delivered; sizes = t.sizes; left = t.left } in
      let b' : Between (v u e.far e.near hn hm un) m.link.contents m n = record { ranges = b.ranges; kept = b.kept; low = b.low; high = b.high; near = b.near; delivered = b.delivered; sizes = b.sizes; left = b.left } in
      let e1 = near_moves (far_moves (near_moves e0)) in
      let h = busy-began u (v u e.far e.near hn hm un) n.link.contents m.link.contents n m t' b' n.link.peer_busy y.all (subst Sounds is (sounds false true e hm hn)) in
      let p = h.0 in
      let x' = busy-moves e1.far e1.near p.itself p.other p.taken p.dropped in
      let left = no-more u e1.far e1.near (giver_of e1.far) (taker_of e1.far e1.near) h.1 x'.giver.contents x'.moved in
      subst (λ e'. FarFinished (rounds (u + 3) e')) (sym is)
      (two-passed FarFinished u e0
      (record { busy = true; done = from-far u true n.link.r n.delivered n.link.contents m.link.contents (far_moves e1) (busy-turn true n.link.r n.delivered n.link.contents m.link.contents e1.far e1.near p) left; knows = λ some. refl }))

  far-other : (x : Resting true e.far (with_t200_expired e).far) (y : Asking false e.near (with_t200_expired e).near) → FarResult
  far-other x y =
      let n = with_count e.far.link.repeats e.far.link.counts e.far in
      let m = with_count y.count y.counts e.near in
      let e0 : Ends = record { near = in_8 m (enquiry m.link.r ∷ []) m.link.peer_busy m.link.a false m.delivered; far = in_7_with true false n [] n.link.a n.link.s false x.running n.delivered } in
      let is : with_t200_expired e ≡ e0 = λ i. record { near = y.is i; far = (x.is ∙ ap (λ p. in_7_with true false e.far [] e.far.link.a e.far.link.s p x.running e.far.delivered) (hn.sound.owes_nothing hn.own_busy)) i } in
      let h = other-near u (v u e.far e.near hn hm un) n.link.contents m.link.contents n m (there u e.far e.near hn hm un e.far.link.repeats e.far.link.counts y.count y.counts) (back u e.far e.near hn hm un e.far.link.repeats e.far.link.counts y.count y.counts) m.link.peer_busy x.running x.all (subst Sounds is (sounds false true e hm hn)) in
      subst (λ e'. FarFinished (rounds (u + 3) e')) (sym is)
      (one-passed FarFinished u e0
      (record { busy = true; done = from-far (u + 1) true n.link.r n.delivered n.link.contents m.link.contents (far_moves (near_moves e0)) h.0 (omega (arith, h.1)); knows = λ some. refl }))

  far-none : (x : Resting true e.far (with_t200_expired e).far) (y : Resting false e.near (with_t200_expired e).near) → FarResult
  far-none x y =
      let n = with_count e.far.link.repeats e.far.link.counts e.far in
      let m = with_count e.near.link.repeats e.near.link.counts e.near in
      let e0 : Ends = record { near = in_7 m [] m.link.a m.link.s m.link.pending y.running m.delivered; far = in_7_with true false n [] n.link.a n.link.s false x.running n.delivered } in
      let is : with_t200_expired e ≡ e0 = λ i. record { near = y.is i; far = (x.is ∙ ap (λ p. in_7_with true false e.far [] e.far.link.a e.far.link.s p x.running e.far.delivered) (hn.sound.owes_nothing hn.own_busy)) i } in
      let s = subst Sounds is (sounds false true e hm hn) in
      let h = none-asks u (v u e.far e.near hn hm un) n.link.contents m.link.contents n m (there u e.far e.near hn hm un e.far.link.repeats e.far.link.counts e.near.link.repeats e.near.link.counts) (back u e.far e.near hn hm un e.far.link.repeats e.far.link.counts e.near.link.repeats e.near.link.counts) m.link.pending x.running y.running x.all s.far s.near in
      let low : n.link.a ≤ m.link.r = hn.low in
      subst (λ e'. FarFinished (rounds (u + 3) e')) (sym is)
      (none-passed FarFinished u e0
      (record { busy = false; done = from-far (u + 2) false n.link.r n.delivered n.link.contents m.link.contents e0 h (omega (arith, un, x.all)); knows = no-t200 e.far e.near false x.before y.before }))

  far-either : Asking true e.far (with_t200_expired e).far ⊎ Resting true e.far (with_t200_expired e).far
      → Asking false e.near (with_t200_expired e).near ⊎ Resting false e.near (with_t200_expired e).near → FarResult
  far-either (inl x) (inl y) = far-both x y
  far-either (inl x) (inr y) = far-one x y
  far-either (inr x) (inl y) = far-other x y
  far-either (inr x) (inr y) = far-none x y

  pub far-finished : Finished e.far e.near (rounds (u + 3) (with_t200_expired e)).far (rounds (u + 3) (with_t200_expired e)).near
  far-finished = far-either (expires-one true e.far e.near hn) (expires-one false e.near e.far hm)
