-- What comes of two ends once own busy is over at one of them.
use Rattle.laws_link.proofs.Vocabulary.{◌≡◌, ℕ, ◌+◌, ◌≤◌, Bool, true, false, IsTrue, [], length, Some, refl, sym, subst, ◌∙◌, arith, State, T200, is_multiple_frame, requested, ClearBusy, IsInRange, IsSound, Endpoint, Ends, requests, sends, receives, loses, at_near, at_far, with_first_of, turned, doing, sound-after, IsTimedIn, rounds, IsReady, IsTaken, HasUnsent, IsCutOff, IsCutOffWith, HasMissing}
use Rattle.laws_link.proofs.Vocabulary.{with_t200_expired, IsBusyItself, IsUpAndIdle, with_near_told, with_near_untold, HasDroppedNothing, BothHaveArrived}
use Rattle.laws_link.proofs.OfTwo.Halves.{named-number}
use Rattle.laws_link.proofs.OfTwo.Arriving.{Arrived, all-arrived}
use Rattle.laws_link.proofs.OfTwo.Recovering.{Sounds, sounds-near}
use Rattle.laws_link.proofs.OfTwo.Recovery.{all-recovered}
use Rattle.laws_link.proofs.OfTwo.Reached.{Sane, BothSane, sane-doing}
use Rattle.laws_link.proofs.OfTwo.Ending.{IsLeft, Gives, gives, heard}

-- Both ends, as they are left.
record Over (e : Ends) (a : ℕ) (busy : Bool) (e' : Ends) : Type 0 where
  near : IsLeft e.near.link.a e.near.link.peer_busy false e.near e'.near
  far : IsLeft a busy e.far.link.pending e.far e'.far

module _ (e : Ends) where
  abbrev asked : Ends
  asked = doing (at_near (requests ClearBusy false)) e

  timed-8 : (here : State) → e.far.link.state ≡ here → IsTimedIn here e.far.link → here ≡ State.TimerRecovery → e.far.link.running ≡ Some T200
  timed-8 here s h is = let at : IsTimedIn State.TimerRecovery e.far.link = subst (λ x. IsTimedIn x e.far.link) is h in at

  module _ (ranges : IsInRange e.near.terms) (busy : e.near.link.own_busy ≡ true) (waiting : e.near.link.waiting ≡ []) (way : e.near.way ≡ []) (up : IsTrue (is_multiple_frame e.near.link.state)) where
    given : Gives e.near ranges busy waiting way (doing (at_near sends) asked).near
    given = gives e.near ranges busy waiting way up

    told : e.far.link.own_busy ≡ false → e.far.link.waiting ≡ [] → e.far.way ≡ [] → IsTrue (is_multiple_frame e.far.link.state)
        → (e.far.link.state ≡ State.TimerRecovery → e.far.link.running ≡ Some T200) → e.far.link.a ≤ e.near.link.r → e.near.link.r ≤ e.far.link.s → e.far.link.s ≤ e.far.link.a + 127
        → Over e e.near.link.r false (with_near_told e)
    told free waits ways up' ran low high within =
        record {
          near = given.left;
          far = subst (λ fs. IsLeft e.near.link.r false e.far.link.pending e.far (with_first_of fs e.far)) (sym given.way)
              (heard e.far free waits ways e.near.terms e.near.link e.near.link.r (named-number e.far.link.a e.far.link.s e.near.link.r low high within) low e.far.link.state refl up' ran);
        }

    untold : e.far.link.own_busy ≡ false → e.far.link.waiting ≡ [] → e.far.way ≡ [] → Over e e.far.link.a e.far.link.peer_busy (with_near_untold e)
    untold free waits ways = grind (arith, given)

-- Cut off they were, and so they are.
cut-off : (own : Bool) (a : ℕ) (busy pending : Bool) (b : ℕ) (busy' pending' : Bool) (n m n' m' : Endpoint) → IsCutOffWith own n m → IsLeft a busy pending n n' → IsLeft b busy' pending' m m'
    → a ≤ m.link.r → IsSound n'.terms n'.link → Sane n'.link → IsCutOff n' m'
cut-off own a busy pending b busy' pending' n m n' m' h x y low sound sane = grind arith

abbrev Recovers : ℕ → Ends → Ends → Type 0
Recovers u e e' = Arrived e.near.link.contents e.far.link.contents (rounds (u + 3) (with_t200_expired e')) × Arrived e.far.link.contents e.near.link.contents (rounds (u + 3) (with_t200_expired (turned e')))

missing : (u a b : ℕ) (busy pending busy' pending' : Bool) (n m n' m' : Endpoint) → IsLeft a busy pending n n' → IsLeft b busy' pending' m m' → HasMissing u n m → HasMissing u n' m'
missing u a b busy pending busy' pending' n m n' m' x y h = subst (λ cs. length cs ≤ m'.link.r + u) (sym x.contents) (omega (arith, h, y.r))

module _ (u : ℕ) (e : Ends) (hn : IsCutOffWith true e.near e.far) (hm : IsCutOff e.far e.near) (un : HasMissing u e.near e.far) (um : HasMissing u e.far e.near) where
  recovers : (e' : Ends) (a : ℕ) (busy : Bool) → Over e a busy e' → a ≤ e.near.link.r → Sounds e' → BothSane e' → Recovers u e e'
  recovers e' a busy h low s sane =
      let near-low : e.near.link.a ≤ e.far.link.r = hn.low in
      let n = cut-off true e.near.link.a e.near.link.peer_busy false a busy e.far.link.pending e.near e.far e'.near e'.far hn h.near h.far near-low s.near sane.0 in
      let m = cut-off false a busy e.far.link.pending e.near.link.a e.near.link.peer_busy false e.far e.near e'.far e'.near hm h.far h.near low s.far sane.1 in
      let vn = missing u e.near.link.a a e.near.link.peer_busy false busy e.far.link.pending e.near e.far e'.near e'.far h.near h.far un in
      let vm = missing u a e.near.link.a busy e.far.link.pending e.near.link.peer_busy false e.far e.near e'.far e'.near h.far h.near um in (
        subst (λ cs. Arrived cs e.far.link.contents (rounds (u + 3) (with_t200_expired e'))) h.near.contents
            (subst (λ cs. Arrived e'.near.link.contents cs (rounds (u + 3) (with_t200_expired e'))) h.far.contents (all-recovered u e' n m vn vm)),
        subst (λ cs. Arrived e.far.link.contents cs (rounds (u + 3) (with_t200_expired (turned e')))) h.near.contents
            (subst (λ cs. Arrived cs e'.near.link.contents (rounds (u + 3) (with_t200_expired (turned e')))) h.far.contents (all-recovered u (turned e') m n vm vn)),
      )

  pub told-recovers : Recovers u e (with_near_told e)
  told-recovers =
      let within : e.far.link.s ≤ e.far.link.a + e.far.terms.k = hm.sound.within in
      let small : e.far.terms.k ≤ 127 = hm.ranges.k_high in
      let two = sane-doing (at_near sends) (asked e) (sane-doing (at_near (requests ClearBusy false)) e ((record { timed = hn.timed; heeds = hn.heeds }, record { timed = hm.timed; heeds = hm.heeds }))) in
      recovers (with_near_told e) e.near.link.r false
      (told e hn.ranges hn.own_busy hn.waiting hn.way hn.up hm.own_busy hm.waiting hm.way hm.up (timed-8 e e.far.link.state refl hm.timed.timer) hm.low hm.high (omega (arith, within, small)))
      (omega arith) (sounds-near (asked e) (grind (arith, sound-after))) (sane-doing (at_far receives) (doing (at_near sends) (asked e)) two)

  pub untold-recovers : Recovers u e (with_near_untold e)
  untold-recovers =
      let s = sounds-near (asked e) (grind (arith, sound-after)) in
      let two = sane-doing (at_near sends) (asked e) (sane-doing (at_near (requests ClearBusy false)) e ((record { timed = hn.timed; heeds = hn.heeds }, record { timed = hm.timed; heeds = hm.heeds }))) in
      recovers (with_near_untold e) e.far.link.a e.far.link.peer_busy (untold e hn.ranges hn.own_busy hn.waiting hn.way hn.up hm.own_busy hm.waiting hm.way) hm.low
      (record { near_ranges = s.near_ranges; far_ranges = hm.ranges; near = s.near; far = hm.sound }) (sane-doing (at_near loses) (doing (at_near sends) (asked e)) two)

-- Where nothing was dropped it goes without T200.
module _ (u : ℕ) (e : Ends) (hn : IsBusyItself e.near) (hm : IsUpAndIdle e.far) (there : IsTaken e.near e.far) (kept : HasDroppedNothing e.near e.far) (un : HasUnsent u e.near) (um : HasUnsent u e.far) where
  abbrev after : Ends
  after = with_near_told e

  no-8 : e.far.link.state ≡ State.TimerRecovery → e.far.link.running ≡ Some T200
  no-8 s = absurd (let two : State.Established ≡ State.TimerRecovery = sym hm.state ∙ s in cc)

  left : Over e e.near.link.r false after
  left =
      let within : e.far.link.s ≤ e.far.link.a + e.far.terms.k = hm.sound.within in
      let small : e.far.terms.k ≤ 127 = hm.ranges.k_high in
      let ordered : e.far.link.a ≤ e.far.link.s = hm.sound.ordered in
      let all : e.near.link.r ≡ e.far.link.s = kept.received in
      told e hn.ranges hn.own_busy hn.waiting hn.way (subst (λ s. IsTrue (is_multiple_frame s)) (sym hn.state) refl) hm.own_busy hm.waiting hm.way
      (subst (λ s. IsTrue (is_multiple_frame s)) (sym hm.state) refl) no-8 (omega (arith, ordered, all)) (omega (arith, all)) (omega (arith, within, small))

  sound : Sounds after
  sound =
      sounds-near (asked e)
      (record { near_ranges = hn.ranges; far_ranges = hm.ranges; near = sound-after e.near.terms hn.ranges (requested ClearBusy false) e.near.link hn.sound; far = hm.sound })

  near-ready : IsReady after.near
  near-ready = grind (arith, left, sound)

  far-ready : IsReady after.far
  far-ready = grind (arith, left, sound)

  taken-there : IsTaken after.near after.far
  taken-there = grind (arith, left)

  near-unsent : HasUnsent u after.near
  near-unsent = subst (λ cs. length cs ≤ after.near.link.s + u) (sym left.near.contents) (omega (arith, un, left.near.s))

  pub near-arrives : BothHaveArrived e (rounds (u + 1) after)
  near-arrives = grind (arith, left, all-arrived, near-ready, far-ready, taken-there, near-unsent)

  pub far-arrives : BothHaveArrived (turned e) (rounds (u + 1) (turned after))
  far-arrives = grind (arith, left, all-arrived, far-ready, near-ready, taken-there, near-unsent)
