-- Losses are recovered, from the expiry of T200 on.
use Rattle.laws_link.proofs.Vocabulary.{LinkCounts, ◌≡◌, ℕ, suc, ◌+◌, ◌≤◌, Bool, false, List, [], ◌∷◌, refl, sym, subst, ◌∙◌, ◌⊎◌, arith, T200, expired, Endpoint, Ends, sound-after, rounds, IsCutOff, IsCutOffWith, HasMissing, with_t200_expired}
use Rattle.laws_link.proofs.OfTwo.Arriving.{Arrived, near_moves, far_moves, all-arrived, AreFree, all-free}
use Rattle.laws_link.proofs.OfTwo.Shapes.{enquiry, in_8, in_7}
use Rattle.laws_link.proofs.OfTwo.Expiring.{Asking, Resting, with_count, expires-one}
use Rattle.laws_link.proofs.OfTwo.Recovering.{Sounds, Between, Recovered, both-recover, near-recovers, far-recovers, ready-7}

pub between : (own : Bool) (u v : ℕ) (n m : Endpoint) (b : ℕ) (j : LinkCounts) (c : ℕ) (k : LinkCounts) → IsCutOffWith own n m → HasMissing u n m → u ≤ v → Between v n.link.contents (with_count b j n) (with_count c k m)
between own u v n m b j c k h missing le = grind arith

finish : (u : ℕ) (cn cm : List (List ℕ)) (e : Ends) → Recovered u cn cm e → Arrived cn cm (rounds (u + 1) e)
finish u cn cm e h = grind (arith, all-arrived)

pub after-round : (u : ℕ) (e : Ends) → rounds (suc u) e ≡ rounds u (far_moves (near_moves e))
unfolding rounds
after-round u e = refl

module _ (u : ℕ) (e : Ends) (hn : IsCutOff e.near e.far) (hm : IsCutOff e.far e.near) (un : HasMissing u e.near e.far) (um : HasMissing u e.far e.near) where
  abbrev cn : List (List ℕ)
  cn = e.near.link.contents

  abbrev cm : List (List ℕ)
  cm = e.far.link.contents

  sounds : Sounds (with_t200_expired e)
  sounds = assumption (sound-after e.near.terms hn.ranges (expired T200) e.near.link hn.sound, sound-after e.far.terms hm.ranges (expired T200) e.far.link hm.sound)

  -- whatever comes of it where both are ready, and nothing is missing
  module _ (Q : Ends → Type 0) (fin : (v : ℕ) (e' : Ends) → Recovered v cn cm e' → Q (rounds (v + 1) e')) where
    by-two : (e0 : Ends) → with_t200_expired e ≡ e0 → Recovered u cn cm (far_moves (near_moves (far_moves (near_moves e0)))) → Q (rounds (u + 3) (with_t200_expired e))
    by-two e0 is h =
        let two : rounds (suc (suc (u + 1))) e0 ≡ rounds (u + 1) (far_moves (near_moves (far_moves (near_moves e0)))) = after-round (suc (u + 1)) e0 ∙ after-round (u + 1) (far_moves (near_moves e0)) in
        grind arith

    by-one : (e0 : Ends) → with_t200_expired e ≡ e0 → Recovered (u + 1) cn cm (far_moves (near_moves e0)) → Q (rounds (u + 3) (with_t200_expired e))
    by-one e0 is h =
        let count : suc ((u + 1) + 1) ≡ u + 3 = omega arith in
        grind (arith, after-round)

    at-once : (e0 : Ends) → with_t200_expired e ≡ e0 → Recovered (u + 2) cn cm e0 → Q (rounds (u + 3) (with_t200_expired e))
    at-once e0 is h =
        let count : (u + 2) + 1 ≡ u + 3 = omega arith in
        subst (λ e'. Q (rounds (u + 3) e')) (sym is) (subst (λ i. Q (rounds i e0)) count (fin (u + 2) e0 h))

    -- what each end is
    both-ask : (x : Asking false e.near (with_t200_expired e).near) (y : Asking false e.far (with_t200_expired e).far) → Q (rounds (u + 3) (with_t200_expired e))
    both-ask x y =
        let n = with_count x.count x.counts e.near in
        let m = with_count y.count y.counts e.far in
        let e0 : Ends = record { near = in_8 n (enquiry n.link.r ∷ []) n.link.peer_busy n.link.a false n.delivered; far = in_8 m (enquiry m.link.r ∷ []) m.link.peer_busy m.link.a false m.delivered } in
        let is : with_t200_expired e ≡ e0 = λ i. record { near = x.is i; far = y.is i } in
        by-two e0 is (both-recover u cn cm n m (between false u u e.near e.far x.count x.counts y.count y.counts hn un (omega arith)) (between false u u e.far e.near y.count y.counts x.count x.counts hm um (omega arith)) n.link.peer_busy m.link.peer_busy (subst Sounds is sounds))

    near-asks : (x : Asking false e.near (with_t200_expired e).near) (y : Resting false e.far (with_t200_expired e).far) → Q (rounds (u + 3) (with_t200_expired e))
    near-asks x y =
        let n = with_count x.count x.counts e.near in
        let m = with_count e.far.link.repeats e.far.link.counts e.far in
        let e0 : Ends = record { near = in_8 n (enquiry n.link.r ∷ []) n.link.peer_busy n.link.a false n.delivered; far = in_7 m [] m.link.a m.link.s m.link.pending y.running m.delivered } in
        let is : with_t200_expired e ≡ e0 = λ i. record { near = x.is i; far = y.is i } in
        by-one e0 is (near-recovers (u + 1) cn cm n m (between false u (u + 1) e.near e.far x.count x.counts e.far.link.repeats e.far.link.counts hn un (omega arith)) (between false u (u + 1) e.far e.near e.far.link.repeats e.far.link.counts x.count x.counts hm um (omega arith)) n.link.peer_busy m.link.pending y.running y.all (subst Sounds is sounds))

    far-asks : (x : Resting false e.near (with_t200_expired e).near) (y : Asking false e.far (with_t200_expired e).far) → Q (rounds (u + 3) (with_t200_expired e))
    far-asks x y =
        let n : Endpoint = record e.near { link = record e.near.link { running = x.running } } in
        let m = with_count y.count y.counts e.far in
        let e0 : Ends = record { near = in_7 e.near [] e.near.link.a e.near.link.s e.near.link.pending x.running e.near.delivered; far = in_8 m (enquiry m.link.r ∷ []) m.link.peer_busy m.link.a false m.delivered } in
        let is : with_t200_expired e ≡ e0 = λ i. record { near = x.is i; far = y.is i } in
        let there : Between u cn n m =
        let b = between false u u e.near e.far e.near.link.repeats e.near.link.counts y.count y.counts hn un (omega arith) in
        record { ranges = b.ranges; kept = b.kept; low = b.low; high = b.high; near = b.near; delivered = b.delivered; sizes = b.sizes; left = b.left } in
        let back : Between u cm m n =
        let b = between false u u e.far e.near y.count y.counts e.near.link.repeats e.near.link.counts hm um (omega arith) in
        record { ranges = b.ranges; kept = b.kept; low = b.low; high = b.high; near = b.near; delivered = b.delivered; sizes = b.sizes; left = b.left } in
        by-two e0 is (far-recovers u cn cm n m there back x.all m.link.peer_busy (subst Sounds is sounds))

    none-asks : (x : Resting false e.near (with_t200_expired e).near) (y : Resting false e.far (with_t200_expired e).far) → Q (rounds (u + 3) (with_t200_expired e))
    none-asks x y = grind (arith, in_7, at-once, ready-7)

    either : Asking false e.near (with_t200_expired e).near ⊎ Resting false e.near (with_t200_expired e).near → Asking false e.far (with_t200_expired e).far ⊎ Resting false e.far (with_t200_expired e).far
        → Q (rounds (u + 3) (with_t200_expired e))
    either it0 it = grind (arith, both-ask, near-asks, far-asks, none-asks)

    recovered-so : Q (rounds (u + 3) (with_t200_expired e))
    recovered-so = either (expires-one false e.near e.far hn) (expires-one false e.far e.near hm)

  pub all-recovered : Arrived cn cm (rounds (u + 3) (with_t200_expired e))
  all-recovered = recovered-so (Arrived cn cm) (λ v e' h. finish v cn cm e' h)

  pub free-recovered : AreFree (rounds (u + 3) (with_t200_expired e))
  free-recovered = recovered-so AreFree (λ v e' h. all-free v e' h.near h.far h.there h.back h.near_left h.far_left)
