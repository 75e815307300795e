-- A call on a wire, or two ends that are up: after SABME and UA both are; and what each has sent is acknowledged in so many frames.
use Rattle.laws_time.proofs.Vocabulary.{All, All-cons, All-head, All-nil, All-tail, AwaitingEstablishment, Both, Config, EndStep as Step, Established, FrameEndpoint, Goes, Holds, Link, LinkEndpoint, List, Past, StationStands, Steady, StepAt, Talk, TeiAssigned, Terms, Wire, [], after_note, ap, arith, at_far, at_near, awaiting, caller, confirmed, doing, by-either}
use Rattle.laws_time.proofs.Vocabulary.{end, false, fresh_link as fresh, indicated, inl, inr, length, map, own_link, pair_of, receives, refl, requests, sabme, sends, subst, suc, sym, take-length, terms, turned, turned-both, turned-pair, unheard, wire_doing_all as doing_all, with_ua_first, with_ua_waiting, zero, ℕ, ◌+◌, ◌-◌, ◌∙◌, ◌∷◌, ◌≡◌, ◌≤◌, ◌⊎◌, Line, Begins, terms_in_range, faces, faces-back}
use Rattle.laws_link.proofs.OfTwo.AnyOrderRuns.{Pair}
use Rattle.laws_wire.specs.Call.{IsTalk}
use Rattle.laws_wire.proofs.Calling.{asked}
use Rattle.laws_wire.proofs.Run.{runs}
use Rattle.laws_time.proofs.OfCircuit.AckedWire.{infos, lane-counts, window, own-stands, parts_in, parts-are, near_takes, far_takes, Counted, Flows, flows, Comes, comes-on}
use Rattle.laws_time.proofs.OfCircuit.AckedCall.{Log, log_of, logged, sum_all, near_sends, far_sends, turn, turn-all, takes-turned, sends-turned, sum-turned, talks-turned, grows, Moves, moves, Up, counts, up-step, up-all, acknowledged-then}
use Rattle.laws_time.proofs.OfCircuit.InBeatsFrames.{are-calls, none-call}

-- A link in state 7.
pub record Open (l : Link) : Type 0 where
  pub state : l.state ≡ Established
  pub free : l.peer_busy ≡ false
  pub ordered : l.a ≤ l.s
  pub few : l.s ≤ l.a + 127

open-steady : (n : LinkEndpoint) → Steady n → Open n.link
open-steady n h = record { state = h.state; free = h.peer_busy; ordered = h.sound.ordered; few = window n h }

module _ (its : Line) (fit : Begins its) where
  abbrev t : Terms
  t = terms its.near its.service its.tei

  abbrev u : Terms
  u = terms its.far its.service its.tei

  abbrev first : Past
  first = after_note (confirmed its.service its.tei)

  abbrev second : Past
  second = after_note (indicated its.service its.tei)

  abbrev Talks : StepAt → Type 0
  Talks k = IsTalk its.service its.tei k

  -- Two ends that are up, whatever happened before; a call; and either of them.
  abbrev pub UpNow : Wire → Type 0
  UpNow w = (p : ℕ) × (q : ℕ) × (before : Past) × (behind : Past) × Up its.service its.tei its.near its.far p q (faces its.near its.far fit.call.opposite) (faces-back its.near its.far fit.call.opposite) before behind w

  abbrev pub Calls : Wire → ℕ → Type 0
  Calls w weight = Goes its.service its.tei fit.call.terminal its.near its.far 0 0 (faces its.near its.far fit.call.opposite) (faces-back its.near its.far fit.call.opposite) (terms_in_range its.near fit.call.near.0 its.service its.tei fit.call.terminal) (terms_in_range its.far fit.call.far.0 its.service its.tei fit.call.terminal) false w weight

  abbrev pub On : Wire → ℕ → Type 0
  On w weight = Calls w weight ⊎ UpNow w

  pub called-up : (w : Wire) (n m : LinkEndpoint) → Talk its.service its.tei its.near its.far 0 0 first second w n m → UpNow w
  called-up w n m h = (0, 0, first, second, (log_of w.near, log_of w.far, n, m, h))

  -- ---- a call goes on

  pub up-once : (k : StepAt) → Talks k → (w : Wire) → UpNow w → UpNow (doing k w)
  up-once k is w (p, q, before, behind, h) = (p, q, before, behind, up-step its.service its.tei its.near its.far p q (faces its.near its.far fit.call.opposite) (faces-back its.near its.far fit.call.opposite) before behind k is w h)

  pub up-on : (es : List StepAt) → All Talks es → (w : Wire) → UpNow w → UpNow (doing_all es w)
  up-on es all w (p, q, before, behind, h) = (p, q, before, behind, up-all its.service its.tei its.near its.far p q (faces its.near its.far fit.call.opposite) (faces-back its.near its.far fit.call.opposite) before behind es all w h)

  pub all-called : (es : List StepAt) → All Talks es → (w : Wire) (weight : ℕ) → Calls w weight → (weight' : ℕ) × Calls (doing_all es w) weight'
  all-called es all w weight h =
      let x = runs its.service its.tei fit.call.terminal its.near its.far 0 0 (faces its.near its.far fit.call.opposite) (faces-back its.near its.far fit.call.opposite) (terms_in_range its.near fit.call.near.0 its.service its.tei fit.call.terminal) (terms_in_range its.far fit.call.far.0 its.service its.tei fit.call.terminal) es (are-calls its.service its.tei es all) false w weight h in
      (x.weight, subst (λ b. Goes its.service its.tei fit.call.terminal its.near its.far 0 0 (faces its.near its.far fit.call.opposite) (faces-back its.near its.far fit.call.opposite) (terms_in_range its.near fit.call.near.0 its.service its.tei fit.call.terminal) (terms_in_range its.far fit.call.far.0 its.service its.tei fit.call.terminal) b (doing_all es w) x.weight) (none-call its.service its.tei es all w) x.goes)

  pub call-step : (k : StepAt) → Talks k → (w : Wire) (weight : ℕ) → Calls w weight → (weight' : ℕ) × Calls (doing k w) weight'
  unfolding doing_all
  call-step k is w weight h = all-called (k ∷ []) (All-cons Talks k [] is (All-nil Talks)) w weight h

  pub all-on : (es : List StepAt) → All Talks es → (w : Wire) (weight : ℕ) → On w weight → (weight' : ℕ) × On (doing_all es w) weight'
  all-on es all w weight (inl h) = let x = all-called es all w weight h in (x.0, inl x.1)
  all-on es all w weight (inr up) = (weight, inr (up-on es all w up))

  pub on-step : (k : StepAt) → Talks k → (w : Wire) (weight : ℕ) → On w weight → (weight' : ℕ) × On (doing k w) weight'
  unfolding doing_all
  on-step k is w weight h = all-on (k ∷ []) (All-cons Talks k [] is (All-nil Talks)) w weight h

  -- ---- what was sent

  counted-by : (x y : Config) (first second : Past) (w : Wire) (n m : LinkEndpoint) → Both its.service its.tei x y 0 0 first second w n m → m.link.r + infos n.way ≡ n.link.s → Counted its.service its.tei x w
  counted-by x y first second w n m h e =
      let there = own-stands its.service its.tei y 0 w.far m h.far.stands in let here = own-stands its.service its.tei x 0 w.near n h.near.stands in
      let ways = ap (parts_in its.service its.tei x) h.near.stands.way ∙ parts-are its.service its.tei x n.way h.near.stands.carried in
      (λ i. (there i).r + infos (ways i)) ∙ e ∙ sym (ap (λ (l : Link). l.s) here)

  none-received : (m : LinkEndpoint) → Pair (pair_of (end t caller []) m) → m.link.r ≡ 0
  none-received m h = h.there.lane.0

  none-acked : (m : LinkEndpoint) → Pair (pair_of (end t caller []) m) → m.link.a ≤ 0
  none-acked m h = h.there.lane.1

  sent-by : (m : LinkEndpoint) → Pair (pair_of (end t caller []) m) → 0 + infos m.way ≡ m.link.s
  sent-by m h = lane-counts m.terms m.link.contents 0 m.link.s 0 m.link.r m.link.pending m.way h.back.lane

  up-turned : (p q : ℕ) (before behind : Past) (w : Wire) → Up its.service its.tei its.near its.far p q (faces its.near its.far fit.call.opposite) (faces-back its.near its.far fit.call.opposite) before behind w → Up its.service its.tei its.far its.near q p (faces-back its.near its.far fit.call.opposite) (faces its.near its.far fit.call.opposite) behind before (turned w)
  up-turned p q before behind w (x, y, n, m, h) = (y, x, m, n, record { near = h.far; far = h.near; pair = turned-pair n m h.pair })

  counted-now : (w : Wire) → UpNow w → Counted its.service its.tei its.near w × Counted its.service its.tei its.far (turned w)
  counted-now w (p, q, before, behind, h) =
      (counts its.service its.tei its.near its.far p q (faces its.near its.far fit.call.opposite) (faces-back its.near its.far fit.call.opposite) before behind w h, counts its.service its.tei its.far its.near q p (faces-back its.near its.far fit.call.opposite) (faces its.near its.far fit.call.opposite) behind before (turned w) (up-turned p q before behind w h))

  pub counted : (w : Wire) (weight : ℕ) → On w weight → Counted its.service its.tei its.near w × Counted its.service its.tei its.far (turned w)
  counted w weight (inl (inl h)) = grind (arith, counted-by, unheard, end, asked, fresh, turned, turned-both)
  counted w weight (inl (inr (inl h))) = (
    counted-by its.near its.far unheard unheard w (end t awaiting (sabme t ∷ [])) (end u fresh []) h.both refl,
    counted-by its.far its.near unheard unheard (turned w) (end u fresh []) (end t awaiting (sabme t ∷ [])) (turned-both its.service its.tei its.near its.far 0 0 unheard unheard w _ _ h.both) refl,
  )
  counted w weight (inl (inr (inr (inl h)))) = grind (arith, counted-by, unheard, end, awaiting, with_ua_waiting, none-received, turned, turned-both, sent-by)
  counted w weight (inl (inr (inr (inr (inl h))))) = (
    counted-by its.near its.far unheard second w (end t awaiting []) (with_ua_first h.m) h.both (let none = none-received h.m h.pair in omega (arith, none)),
    counted-by its.far its.near second unheard (turned w) (with_ua_first h.m) (end t awaiting []) (turned-both its.service its.tei its.near its.far 0 0 unheard second w _ _ h.both) (let sent = sent-by h.m h.pair in omega (arith, sent)),
  )
  counted w weight (inl (inr (inr (inr (inr h))))) = counted-now w (called-up w h.n h.m h.talk)
  counted w weight (inr up) = counted-now w up

  -- ---- the links

  pub near-is : (first : Past) (w : Wire) (n : LinkEndpoint) → Holds its.near its.service its.tei 0 first w.near n → own_link its.service its.tei w.near ≡ n.link
  near-is first w n h = own-stands its.service its.tei its.near 0 w.near n h.stands

  pub far-is : (first : Past) (w : Wire) (m : LinkEndpoint) → Holds its.far its.service its.tei 0 first w.far m → own_link its.service its.tei w.far ≡ m.link
  far-is first w m h = own-stands its.service its.tei its.far 0 w.far m h.stands

  open-now : (w : Wire) → UpNow w → Open (own_link its.service its.tei w.near) × Open (own_link its.service its.tei w.far)
  open-now w h = grind arith

  abbrev Rings : Link → Type 0
  Rings l = (l.state ≡ AwaitingEstablishment) × (l.r ≡ 0) × (l.a ≡ 0)

  pub near-place : (w : Wire) (weight : ℕ) → On w weight → Rings (own_link its.service its.tei w.near) ⊎ (UpNow w × Open (own_link its.service its.tei w.near))
  near-place w weight (inl (inl h)) = inl (subst Rings (sym (near-is unheard w (end t asked []) h.both.near)) (refl, refl, refl))
  near-place w weight (inl (inr (inl h))) = inl (subst Rings (sym (near-is unheard w (end t awaiting (sabme t ∷ [])) h.both.near)) (refl, refl, refl))
  near-place w weight (inl (inr (inr (inl h)))) = inl (subst Rings (sym (near-is unheard w (end t awaiting []) h.both.near)) (refl, refl, refl))
  near-place w weight (inl (inr (inr (inr (inl h))))) = inl (subst Rings (sym (near-is unheard w (end t awaiting []) h.both.near)) (refl, refl, refl))
  near-place w weight (inl (inr (inr (inr (inr h))))) = let up = called-up w h.n h.m h.talk in inr (up, (open-now w up).0)
  near-place w weight (inr up) = inr (up, (open-now w up).0)

  pub far-place : (w : Wire) (weight : ℕ) → On w weight → ((own_link its.service its.tei w.far).state ≡ TeiAssigned) ⊎ Open (own_link its.service its.tei w.far)
  far-place w weight h1z = grind (arith, far-is, open-steady, open-now, called-up)

  -- the station at either end
  abbrev pub Station : Config → FrameEndpoint → Type 0
  Station k s = (place : ℕ) × (n : LinkEndpoint) × StationStands k its.service its.tei place s n

  relog : (k : Config) (x : Log) (s : FrameEndpoint) (place : ℕ) (n : LinkEndpoint) → StationStands k its.service its.tei place (logged x s) n → Station k s
  relog k x s place n h = (place, n, record { config = h.config; sound = h.sound; within = h.within; speaks = h.speaks; terms = h.terms; way = h.way; carried = h.carried })

  pub near-stands : (w : Wire) (weight : ℕ) → On w weight → Station its.near w.near
  near-stands w weight (inl (inl h)) = (0, end t asked [], h.both.near.stands)
  near-stands w weight (inl (inr (inl h))) = (0, end t awaiting (sabme t ∷ []), h.both.near.stands)
  near-stands w weight (inl (inr (inr (inl h)))) = (0, end t awaiting [], h.both.near.stands)
  near-stands w weight (inl (inr (inr (inr (inl h))))) = (0, end t awaiting [], h.both.near.stands)
  near-stands w weight (inl (inr (inr (inr (inr h))))) = (0, h.n, h.talk.near.stands)
  near-stands w weight (inr (p, q, before, behind, (x, y, n, m, h))) = relog its.near x w.near p n h.near.stands

  pub far-stands : (w : Wire) (weight : ℕ) → On w weight → Station its.far w.far
  far-stands w weight (inl (inl h)) = (0, end u fresh [], h.both.far.stands)
  far-stands w weight (inl (inr (inl h))) = (0, end u fresh [], h.both.far.stands)
  far-stands w weight (inl (inr (inr (inl h)))) = (0, with_ua_waiting h.m, h.both.far.stands)
  far-stands w weight (inl (inr (inr (inr (inl h))))) = (0, with_ua_first h.m, h.both.far.stands)
  far-stands w weight (inl (inr (inr (inr (inr h))))) = (0, h.m, h.talk.far.stands)
  far-stands w weight (inr (p, q, before, behind, (x, y, n, m, h))) = relog its.far y w.far q m h.far.stands

  -- an end that received an I-frame
  up-by-near : (w : Wire) (weight : ℕ) → On w weight → 1 ≤ (own_link its.service its.tei w.near).r → UpNow w
  up-by-near w weight h some = by-either (near-place w weight h) (λ (state, none, unacked). absurd (omega (arith, some, none))) (λ (up, open_now). up)

  up-by-far : (w : Wire) (weight : ℕ) → On w weight → 1 ≤ (own_link its.service its.tei w.far).r → UpNow w
  up-by-far w weight (inl (inl h)) some = let is = ap (λ (l : Link). l.r) (far-is unheard w (end u fresh []) h.both.far) in absurd (omega (arith, some, is))
  up-by-far w weight (inl (inr (inl h))) some = let is = ap (λ (l : Link). l.r) (far-is unheard w (end u fresh []) h.both.far) in absurd (omega (arith, some, is))
  up-by-far w weight (inl (inr (inr (inl h)))) some = grind (arith, far-is, with_ua_waiting, none-received)
  up-by-far w weight (inl (inr (inr (inr (inl h))))) some = grind (arith, far-is, with_ua_first, none-received)
  up-by-far w weight (inl (inr (inr (inr (inr h))))) some = called-up w h.n h.m h.talk
  up-by-far w weight (inr up) some = up

  -- ---- how far an end goes on with a step

  flows-turned : (k : StepAt) → Talks k → (w : Wire) → Counted its.service its.tei its.far (turned w) → Counted its.service its.tei its.far (turned (doing k w))
      → Flows its.service its.tei its.far (near_takes k w) (own_link its.service its.tei w.near).r w.far.way (own_link its.service its.tei (doing k w).near).r (doing k w).far.way
  flows-turned (at_near act) is w h g = flows its.service its.tei its.far (at_far act) is (turned w) h g
  flows-turned (at_far act) is w h g = flows its.service its.tei its.far (at_near act) is (turned w) h g

  both-not : (w : Wire) → UpNow w → Rings (own_link its.service its.tei w.near) → {X : Type 0} → X
  both-not w up rings = let e : Established ≡ AwaitingEstablishment = sym (open-now w up).0.state ∙ rings.0 in absurd (cc e)

  up-moves : (k : StepAt) → Talks k → (w : Wire) → UpNow w → Moves (own_link its.service its.tei w.near) (own_link its.service its.tei (doing k w).near)
  up-moves k is w (p, q, before, behind, h) = moves its.service its.tei its.near its.far p q (faces its.near its.far fit.call.opposite) (faces-back its.near its.far fit.call.opposite) before behind k is w h

  up-moves-far : (act : Step) → Talks (at_far act) → (w : Wire) → UpNow w → Moves (own_link its.service its.tei w.far) (own_link its.service its.tei (doing (at_far act) w).far)
  up-moves-far act is w (p, q, before, behind, h) = moves its.service its.tei its.far its.near q p (faces-back its.near its.far fit.call.opposite) (faces its.near its.far fit.call.opposite) behind before (at_near act) is (turned w) (up-turned p q before behind w h)

  far-none : (w : Wire) (weight : ℕ) → On w weight → Rings (own_link its.service its.tei w.near) → (own_link its.service its.tei w.far).a ≡ 0
  far-none w weight h1z h2z = grind (arith, far-is, none-acked, both-not, called-up)

  pub near-moves : (k : StepAt) → Talks k → (w : Wire) (weight : ℕ) → On w weight → Open (own_link its.service its.tei w.near) → Moves (own_link its.service its.tei w.near) (own_link its.service its.tei (doing k w).near)
  near-moves k is w weight h is_open = by-either (near-place w weight h) (λ rings. let e : Established ≡ AwaitingEstablishment = sym is_open.state ∙ rings.0 in absurd (cc e)) (λ (up, open_now). up-moves k is w up)

  pub far-moves : (act : Step) → Talks (at_far act) → (w : Wire) (weight : ℕ) → On w weight → Moves (own_link its.service its.tei w.far) (own_link its.service its.tei (doing (at_far act) w).far)
  far-moves act is w weight h = go (near-place w weight h)
    where
      w' : Wire
      w' = doing (at_far act) w

      on : (weight' : ℕ) × On (doing (at_far act) w) weight'
      on = on-step (at_far act) is w weight h

      near-same : (act : Step) → Talks (at_far act) → own_link its.service its.tei (doing (at_far act) w).near ≡ own_link its.service its.tei w.near
      near-same (requests r) is = refl
      near-same sends is = refl
      near-same receives is = refl
      near-same other is = absurd is

      go : Rings (own_link its.service its.tei w.near) ⊎ (UpNow w × Open (own_link its.service its.tei w.near)) → Moves (own_link its.service its.tei w.far) (own_link its.service its.tei (doing (at_far act) w).far)
      go (inr (up, open_now)) = up-moves-far act is w up
      go (inl rings) =
          let none = far-none w weight h rings in let none_then = far-none w' on.0 on.1 (subst Rings (sym (near-same act is)) rings) in
          let now = (counted w weight h).1 in let then = (counted w' on.0 on.1).1 in
          let more = (grows its.service its.tei its.far (near_takes (at_far act) w) (own_link its.service its.tei w.near).r (own_link its.service its.tei w'.near).r (own_link its.service its.tei w.far).s (own_link its.service its.tei w'.far).s w.far.way w'.far.way
          (flows-turned (at_far act) is w now then) now then).1 in
          record { low = omega (arith, none); high = omega (arith, none_then); sent = more }

  pub near-low : (k : StepAt) → Talks k → (w : Wire) (weight : ℕ) → On w weight → (own_link its.service its.tei w.near).a ≤ (own_link its.service its.tei (doing k w).near).a
  near-low k is w weight h = by-either (near-place w weight h) (λ (state, none, unacked). omega (arith, unacked)) (λ (up, open_now). (up-moves k is w up).low)

  pub by-up : (w : Wire) → UpNow w → (own_link its.service its.tei w.near).state ≡ Established
  by-up w up = (open-now w up).0.state

  -- Once the near end is in state 7, it stays so.
  pub up-stays : (es : List StepAt) → All Talks es → (w : Wire) (weight : ℕ) → On w weight → (own_link its.service its.tei w.near).state ≡ Established → (own_link its.service its.tei (doing_all es w).near).state ≡ Established
  up-stays es all w weight h is = by-up (doing_all es w) (up-on es all w (go (near-place w weight h)))
    where
      go : Rings (own_link its.service its.tei w.near) ⊎ (UpNow w × Open (own_link its.service its.tei w.near)) → UpNow w
      go (inl rings) = let e : Established ≡ AwaitingEstablishment = sym is ∙ rings.0 in absurd (cc e)
      go (inr (up, open_now)) = up

  -- ---- what was sent comes

  -- Said of either direction: an end takes what the other one sent.
  module _ (e : Config) (takes : StepAt → Wire → ℕ) (to from : Wire → FrameEndpoint)
      (flow : (k : StepAt) → Talks k → (w : Wire) (weight : ℕ) → On w weight → Flows its.service its.tei e (takes k w) (own_link its.service its.tei (to w)).r (from w).way (own_link its.service its.tei (to (doing k w))).r (from (doing k w)).way) where
    comes : (n : ℕ) (es : List StepAt) → All Talks es → (w : Wire) (weight : ℕ) → On w weight → (j : ℕ) → Comes its.service its.tei e n j (own_link its.service its.tei (to w)).r (from w).way
        → Comes its.service its.tei e n (j - sum_all takes es w) (own_link its.service its.tei (to (doing_all es w))).r (from (doing_all es w)).way
    unfolding doing_all sum_all
    comes n [] all w weight h j x = subst (λ j. Comes its.service its.tei e n j (own_link its.service its.tei (to w)).r (from w).way) (let e : j ≡ j - 0 = omega arith in e) x
    comes n (k ∷ ks) all w weight h j x =
        let is = All-head Talks k ks all in let w' = doing k w in let on = on-step k is w weight h in let t = takes k w in let rest = sum_all takes ks w' in
        let one = comes-on its.service its.tei e n t j (own_link its.service its.tei (to w)).r (from w).way (own_link its.service its.tei (to w')).r (from w').way (flow k is w weight h) x in
        subst (λ j. Comes its.service its.tei e n j (own_link its.service its.tei (to (doing_all ks w'))).r (from (doing_all ks w')).way) (let e : j - t - rest ≡ j - (t + rest) = omega arith in e)
        (comes n ks (All-tail Talks k ks all) w' on.0 on.1 (j - t) one)

    all-received : (es : List StepAt) → All Talks es → (w : Wire) (weight : ℕ) → On w weight → (own_link its.service its.tei (to w)).r + infos (parts_in its.service its.tei e (from w).way) ≡ (own_link its.service its.tei (from w)).s
        → length (from w).way ≤ sum_all takes es w → (own_link its.service its.tei (from w)).s ≤ (own_link its.service its.tei (to (doing_all es w))).r
    all-received es talk w weight h all-sent all =
        let whole = ap (λ x. infos (parts_in its.service its.tei e x)) (take-length (from w).way) in
        let x = comes (own_link its.service its.tei (from w)).s es talk w weight h (length (from w).way) (omega arith, omega (arith, all-sent, whole)) in
        let none : length (from w).way - sum_all takes es w ≡ 0 = omega (arith, all) in
        let last = (subst (λ j. Comes its.service its.tei e (own_link its.service its.tei (from w)).s j (own_link its.service its.tei (to (doing_all es w))).r (from (doing_all es w)).way) none x).1 in
        omega (arith, last)

  module _ (es fs gs : List StepAt) (one : All Talks es) (two : All Talks fs) (three : All Talks gs) (w : Wire) (weight : ℕ) (h : On w weight) where
    abbrev w1 : Wire
    w1 = doing_all es w

    abbrev w2 : Wire
    w2 = doing_all fs (doing_all es w)

    abbrev w3 : Wire
    w3 = doing_all gs (doing_all fs (doing_all es w))

    far-received : length w.near.way ≤ sum_all far_takes es w → (own_link its.service its.tei w.near).s ≤ (own_link its.service its.tei w1.far).r
    far-received =
        all-received its.near far_takes (λ w. w.far) (λ w. w.near) (λ k is w weight h. let on = on-step k is w weight h in flows its.service its.tei its.near k is w (counted w weight h).0 (counted (doing k w) on.0 on.1).0)
        es one w weight h (counted w weight h).0

    near-received : length w.far.way ≤ sum_all near_takes es w → (own_link its.service its.tei w.far).s ≤ (own_link its.service its.tei w1.near).r
    near-received =
        all-received its.far near_takes (λ w. w.near) (λ w. w.far) (λ k is w weight h. let on = on-step k is w weight h in flows-turned k is w (counted w weight h).1 (counted (doing k w) on.0 on.1).1)
        es one w weight h (counted w weight h).1

    -- What the near end has sent is received; then the far end is asked for a frame; and what is in transit from it then is received.
    pub near-acked : length w.near.way ≤ sum_all far_takes es w → 1 ≤ sum_all far_sends fs w1 → length w2.far.way ≤ sum_all near_takes gs w2 → (own_link its.service its.tei w.near).s ≤ (own_link its.service its.tei w3.near).a
    near-acked all some then = go (own_link its.service its.tei w.near).s (far-received all)
      where
        by : (n : ℕ) → n ≤ (own_link its.service its.tei w1.far).r → UpNow w1 → n ≤ (own_link its.service its.tei w3.near).a
        by n low (p, q, before, behind, h) = acknowledged-then its.service its.tei its.near its.far p q (faces its.near its.far fit.call.opposite) (faces-back its.near its.far fit.call.opposite) before behind n fs gs two three w1 h low some then

        go : (n : ℕ) → n ≤ (own_link its.service its.tei w1.far).r → n ≤ (own_link its.service its.tei w3.near).a
        go zero low = omega arith
        go (suc n) low = by (suc n) low (up-by-far w1 (all-on es one w weight h).0 (all-on es one w weight h).1 (omega (arith, low)))

    pub far-acked : length w.far.way ≤ sum_all near_takes es w → 1 ≤ sum_all near_sends fs w1 → length w2.near.way ≤ sum_all far_takes gs w2 → (own_link its.service its.tei w.far).s ≤ (own_link its.service its.tei w3.far).a
    far-acked all some then = go (own_link its.service its.tei w.far).s (near-received all)
      where
        last : doing_all (map turn gs) (doing_all (map turn fs) (turned w1)) ≡ turned w3
        last = ap (doing_all (map turn gs)) (turn-all fs w1) ∙ turn-all gs w2

        all_taken : length (doing_all (map turn fs) (turned w1)).far.way ≤ sum_all near_takes (map turn gs) (doing_all (map turn fs) (turned w1))
        all_taken = subst (λ (v : Wire). length v.far.way ≤ sum_all near_takes (map turn gs) v) (sym (turn-all fs w1)) (subst (λ k. length w2.near.way ≤ k) (sym (sum-turned near_takes far_takes takes-turned gs w2)) then)

        by : (n : ℕ) → n ≤ (own_link its.service its.tei w1.near).r → UpNow w1 → n ≤ (own_link its.service its.tei w3.far).a
        by n low (p, q, before, behind, h) =
            subst (λ (v : Wire). n ≤ (own_link its.service its.tei v.near).a) last
            (acknowledged-then its.service its.tei its.far its.near q p (faces-back its.near its.far fit.call.opposite) (faces its.near its.far fit.call.opposite) behind before n (map turn fs) (map turn gs) (talks-turned its.service its.tei fs two) (talks-turned its.service its.tei gs three) (turned w1)
            (up-turned p q before behind w1 h) low (subst (λ k. 1 ≤ k) (sym (sum-turned far_sends near_sends sends-turned fs w1)) some) all_taken)

        go : (n : ℕ) → n ≤ (own_link its.service its.tei w1.near).r → n ≤ (own_link its.service its.tei w3.far).a
        go zero low = omega arith
        go (suc n) low = by (suc n) low (up-by-near w1 (all-on es one w weight h).0 (all-on es one w weight h).1 (omega (arith, low)))
