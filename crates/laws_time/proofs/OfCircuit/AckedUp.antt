-- A call on a wire: once SABME is received, the far end is asked for a frame, and UA is received, both ends are up.
use Rattle.laws_time.proofs.Vocabulary.{All, All-head, All-tail, AwaitingEstablishment, Established, IsCalled, Link, LinkEndpoint, List, Parts, StationStands, StepAt, TeiAssigned, Terms, Wire, [], after_note, ap, arith, asks-way, at_far, at_near, awaiting, doing, end, first-way, frame_comes, frames_by, fresh_link as fresh, gives-stands}
use Rattle.laws_time.proofs.Vocabulary.{indicated, inl, inr, length, length-append, map, next, own_link, own_side, receives, refl, requests, sabme, sends, sends-ua, spelling, subst, suc, sym, takes, takes-sabme, terms, ua, unheard, wire_doing_all as doing_all, with_link, with_ua_first, with_ua_waiting, zero, ℕ, ◌+◌, ◌∙◌, ◌∷◌, ◌≡◌, ◌≤◌, ◌⊎◌, Line, Begins, terms_in_range, faces, faces-back}
use Rattle.laws_wire.specs.Call.{IsTalk}
use Rattle.laws_wire.specs.Wire as wire
use Rattle.laws_wire.specs.Wire.{happens, with_first_of, answered}
use Rattle.laws_wire.proofs.BothHalf as half
use Rattle.laws_wire.proofs.Calling.{asked}
use Rattle.laws_time.proofs.OfCircuit.AckedWire.{own-stands, one_if_any, near_takes, far_takes, first-way as first-taken}
use Rattle.laws_time.proofs.OfCircuit.AckedCall.{sum_all, near_sends, far_sends, steps-keep}
use Rattle.laws_time.proofs.OfCircuit.AckedOn.{Calls, On, UpNow, called-up, up-once, up-on as up-all, call-step, all-called, near-is, far-is}

-- ---- a step with which a frame is received

takes-few : (k : StepAt) (w : Wire) → near_takes k w ≤ 1
takes-few k w = grind arith

far-takes-few : (k : StepAt) (w : Wire) → far_takes k w ≤ 1
far-takes-few k w = grind (arith, takes-few)

-- a step with which the far end receives
by-receipt : (k : StepAt) (w : Wire) (P : StepAt → Type 0) → far_takes k w ≡ 1 → (1 ≤ length w.near.way → P (at_far receives)) → P k
by-receipt h w h' one h'' = grind arith

by-near-receipt : (k : StepAt) (w : Wire) (P : StepAt → Type 0) → near_takes k w ≡ 1 → (1 ≤ length w.far.way → P (at_near receives)) → P k
by-near-receipt h w h' one h'' = grind arith

any : (way : List (List ℕ)) → 1 ≤ length way → one_if_any way ≡ 1
any way h1z = grind arith

module _ (its : Line) (fit : Begins its) where
  abbrev t : Terms
  t = terms its.near its.service its.tei

  abbrev Talks : StepAt → Type 0
  Talks k = IsTalk its.service its.tei k

  abbrev InCall : Wire → ℕ → Type 0
  InCall w weight = Calls its fit w weight

  abbrev pub HalfNow : Wire → Type 0
  HalfNow w = (weight : ℕ) × half.Half its.service its.tei (indicated its.service its.tei) its.near its.far 0 0 (faces its.near its.far fit.call.opposite) (faces-back its.near its.far fit.call.opposite) (terms_in_range its.near fit.call.near.0 its.service its.tei fit.call.terminal) w weight

  half-step : (k : StepAt) → Talks k → (w : Wire) → HalfNow w → HalfNow (doing k w)
  half-step k is w (weight, h) = let x = half.step its.service its.tei (indicated its.service its.tei) its.near its.far 0 0 (faces its.near its.far fit.call.opposite) (faces-back its.near its.far fit.call.opposite) (terms_in_range its.near fit.call.near.0 its.service its.tei fit.call.terminal) k is w weight h in (x.weight, x.goes)

  none-empty : (f : Parts → List ℕ) (w : List (List ℕ)) (way : List Parts) → w ≡ map f way → way ≡ [] → 1 ≤ length w → {X : Type 0} → X
  none-empty f w way is none some = let e = ap length is ∙ ap (λ x. length (map f x)) none in absurd (omega (arith, e, some))

  -- ---- SABME is received

  answers-sabme : (w : Wire) → (weight : ℕ) → IsCalled its.service its.tei fit.call.terminal its.near its.far 0 0 (faces its.near its.far fit.call.opposite) (faces-back its.near its.far fit.call.opposite) (terms_in_range its.near fit.call.near.0 its.service its.tei fit.call.terminal) (terms_in_range its.far fit.call.far.0 its.service its.tei fit.call.terminal) w weight → (own_link its.service its.tei (with_first_of w.near.way w.far)).state ≡ Established
  answers-sabme w weight h =
      let f = sabme t in let way = first-way its.service its.tei its.near 0 unheard w.near (end t awaiting (f ∷ [])) f [] refl h.both.near in
      let x = takes its.service its.tei 0 unheard its.far its.near (faces-back its.near its.far fit.call.opposite) w.far (end (terms its.far its.service its.tei) fresh []) f h.both.far.stands way.1 in
      grind (arith, own_link, with_first_of, own-stands, frame_comes, spelling, own_side, with_link, end, fresh, takes-sabme)

  not-idle : (w : Wire) (weight : ℕ) → InCall w weight → (own_link its.service its.tei w.far).state ≡ Established → HalfNow w
  not-idle w weight (inl h) is = let e : TeiAssigned ≡ Established = sym (ap (λ (l : Link). l.state) (far-is its fit unheard w (end (terms its.far its.service its.tei) fresh []) h.both.far)) ∙ is in absurd (cc e)
  not-idle w weight (inr (inl h)) is = let e : TeiAssigned ≡ Established = sym (ap (λ (l : Link). l.state) (far-is its fit unheard w (end (terms its.far its.service its.tei) fresh []) h.both.far)) ∙ is in absurd (cc e)
  not-idle w weight (inr (inr h)) is = (weight, h)

  half-heard : (k : StepAt) → Talks k → (w : Wire) (weight : ℕ) → InCall w weight → far_takes k w ≡ 1 → HalfNow (doing k w)
  half-heard k is w weight (inl h) one = by-receipt k w (λ k. HalfNow (doing k w)) one (λ some. none-empty (spelling (own_side its.near)) w.near.way [] h.both.near.stands.way refl some)
  half-heard k is w weight (inr (inl h)) one =
      by-receipt k w (λ k. HalfNow (doing k w)) one
      (λ some. let on = call-step its fit (at_far receives) tt w weight (inr (inl h)) in not-idle (doing (at_far receives) w) on.0 on.1 (answers-sabme w weight h))
  half-heard k is w weight (inr (inr h)) one = half-step k is w (weight, h)

  -- ---- UA is received

  confirms-ua : (w : Wire) → (weight : ℕ) → half.IsAwaited its.service its.tei (indicated its.service its.tei) its.near its.far 0 0 (faces its.near its.far fit.call.opposite) (faces-back its.near its.far fit.call.opposite) (terms_in_range its.near fit.call.near.0 its.service its.tei fit.call.terminal) w weight → (own_link its.service its.tei (with_first_of w.far.way w.near)).state ≡ Established
  confirms-ua w weight h =
      let f = ua h.m.terms in let way = first-way its.service its.tei its.far 0 (after_note (indicated its.service its.tei)) w.far (with_ua_first h.m) f h.m.way refl h.both.far in
      let x = takes its.service its.tei 0 unheard its.near its.far (faces its.near its.far fit.call.opposite) w.near (end t awaiting []) f h.both.near.stands way.1 in
      grind (arith, own_link, with_first_of, own-stands, frame_comes, spelling, own_side, with_link, end, awaiting)

  not-ringing : (w : Wire) → HalfNow w → (own_link its.service its.tei w.near).state ≡ Established → (UpNow its fit w)
  not-ringing w (weight, inl h) is = let e : AwaitingEstablishment ≡ Established = sym (ap (λ (l : Link). l.state) (near-is its fit unheard w (end t awaiting []) h.both.near)) ∙ is in absurd (cc e)
  not-ringing w (weight, inr (inl h)) is = let e : AwaitingEstablishment ≡ Established = sym (ap (λ (l : Link). l.state) (near-is its fit unheard w (end t awaiting []) h.both.near)) ∙ is in absurd (cc e)
  not-ringing w (weight, inr (inr h)) is = (called-up its fit w h.n h.m h.talk)

  up-heard : (k : StepAt) → Talks k → (w : Wire) → HalfNow w → near_takes k w ≡ 1 → (UpNow its fit (doing k w))
  up-heard k is w (weight, inl h) one = by-near-receipt k w (λ k. (UpNow its fit (doing k w))) one (λ some. none-empty (spelling (own_side its.far)) w.far.way h.m.way h.both.far.stands.way h.none some)
  up-heard k is w (weight, inr (inl h)) one =
      by-near-receipt k w (λ k. (UpNow its fit (doing k w))) one (λ some. not-ringing (doing (at_near receives) w) (half-step (at_near receives) tt w (weight, inr (inl h))) (confirms-ua w weight h))
  up-heard k is w (weight, inr (inr h)) one = up-once its fit k is w (called-up its fit w h.n h.m h.talk)

  -- ---- the far end was asked for a frame: UA is in transit, or was received

  abbrev Sent : Wire → Type 0
  Sent w = HalfNow w × ((1 ≤ length w.far.way) ⊎ (UpNow its fit w))

  longer : (w : Wire) → 1 ≤ length w.far.way → 1 ≤ length (happens next w.far).way
  longer w some = let more = length-append w.far.way (frames_by (answered next w.far)) in omega (arith, some, more)

  sent-now : (w : Wire) → HalfNow w → Sent (doing (at_far sends) w)
  sent-now w (weight, inl h) =
      let m = h.m in let far = h.both.far.stands in
      let there = gives-stands its.service its.tei 0 w.far (with_ua_waiting m) (subst (λ k. StationStands k its.service its.tei 0 w.far (with_ua_waiting m)) (sym far.config) far) in
      let way = ap length there.way ∙ ap (λ (x : LinkEndpoint). length (map (spelling (own_side w.far.card.config)) x.way)) (sends-ua m h.pair.far h.none) in
      (half-step (at_far sends) tt w (weight, inl h), inl (omega (arith, way)))
  sent-now w (weight, inr (inl h)) = let way = ap length h.both.far.stands.way in (half-step (at_far sends) tt w (weight, inr (inl h)), inl (longer w (omega (arith, way))))
  sent-now w (weight, inr (inr h)) = (half-step (at_far sends) tt w (weight, inr (inr h)), inr (up-once its fit (at_far sends) tt w (called-up its fit w h.n h.m h.talk)))

  sent-step : (k : StepAt) → Talks k → (w : Wire) → Sent w → Sent (doing k w)
  sent-step k is w (h, inr up) = (half-step k is w h, inr (up-once its fit k is w up))
  sent-step (at_near (requests r)) is w (h, inl some) = (half-step (at_near (requests r)) is w h, inl some)
  sent-step (at_near sends) is w (h, inl some) = (half-step (at_near sends) is w h, inl some)
  sent-step (at_near receives) is w (h, inl some) = (half-step (at_near receives) is w h, inr (up-heard (at_near receives) is w h (any w.far.way some)))
  sent-step (at_far (requests r)) is w (h, inl some) = (half-step (at_far (requests r)) is w h, inl (subst (λ way. 1 ≤ length way) (sym (asks-way r w.far)) some))
  sent-step (at_far sends) is w (h, inl some) = (half-step (at_far sends) is w h, inl (longer w some))
  sent-step (at_far receives) is w (h, inl some) = (half-step (at_far receives) is w h, inl (subst (λ way. 1 ≤ length way) (sym (first-taken its.service its.tei w.near.way w.far)) some))
  sent-step (at_near other) is w (h, inl some) = absurd is
  sent-step (at_far other) is w (h, inl some) = absurd is

  -- ---- lists of steps

  half-then : (es : List StepAt) → All Talks es → (w : Wire) (weight : ℕ) → InCall w weight → 1 ≤ sum_all far_takes es w → HalfNow (doing_all es w)
  unfolding doing_all sum_all
  half-then [] all w weight h some = absurd (omega (arith, some))
  half-then (k ∷ ks) all w weight h some =
      let on = call-step its fit k (All-head Talks k ks all) w weight h in go (λ more. half-then ks (All-tail Talks k ks all) (doing k w) on.0 on.1 more) (far_takes k w) refl
    where
      is : Talks k
      is = All-head Talks k ks all

      go : (1 ≤ sum_all far_takes ks (doing k w) → HalfNow (doing_all ks (doing k w))) → (n : ℕ) → far_takes k w ≡ n → HalfNow (doing_all ks (doing k w))
      go rest zero none = rest (omega (arith, some, none))
      go rest (suc zero) one = steps-keep HalfNow Talks (λ k w is. half-step k is w) ks (All-tail Talks k ks all) (doing k w) (half-heard k is w weight h one)
      go rest (suc (suc n)) more = let most = far-takes-few k w in absurd (omega (arith, most, more))

  sent-then : (es : List StepAt) → All Talks es → (w : Wire) → HalfNow w → 1 ≤ sum_all far_sends es w → Sent (doing_all es w)
  unfolding doing_all sum_all
  sent-then [] all w h some = absurd (omega (arith, some))
  sent-then (at_far sends ∷ ks) all w h some = steps-keep Sent Talks (λ k w is. sent-step k is w) ks (All-tail Talks (at_far sends) ks all) (doing (at_far sends) w) (sent-now w h)
  sent-then (at_far receives ∷ ks) all w h some = sent-then ks (All-tail Talks (at_far receives) ks all) (doing (at_far receives) w) (half-step (at_far receives) (All-head Talks (at_far receives) ks all) w h) (omega (arith, some))
  sent-then (at_far (requests r) ∷ ks) all w h some = sent-then ks (All-tail Talks (at_far (requests r)) ks all) (doing (at_far (requests r)) w) (half-step (at_far (requests r)) (All-head Talks (at_far (requests r)) ks all) w h) (omega (arith, some))
  sent-then (at_far other ∷ ks) all w h some = absurd (All-head Talks (at_far other) ks all)
  sent-then (at_near act ∷ ks) all w h some = sent-then ks (All-tail Talks (at_near act) ks all) (doing (at_near act) w) (half-step (at_near act) (All-head Talks (at_near act) ks all) w h) (omega (arith, some))

  up-by-takes : (es : List StepAt) → All Talks es → (w : Wire) → HalfNow w → 1 ≤ sum_all near_takes es w → (UpNow its fit (doing_all es w))
  unfolding doing_all sum_all
  up-by-takes [] all w h some = absurd (omega (arith, some))
  up-by-takes (k ∷ ks) all w h some =
      go (λ more. up-by-takes ks (All-tail Talks k ks all) (doing k w) (half-step k (All-head Talks k ks all) w h) more) (near_takes k w) refl
    where
      is : Talks k
      is = All-head Talks k ks all

      go : (1 ≤ sum_all near_takes ks (doing k w) → (UpNow its fit (doing_all ks (doing k w)))) → (n : ℕ) → near_takes k w ≡ n → (UpNow its fit (doing_all ks (doing k w)))
      go rest zero none = rest (omega (arith, some, none))
      go rest (suc zero) one = up-all its fit ks (All-tail Talks k ks all) (doing k w) (up-heard k is w h one)
      go rest (suc (suc n)) more = let most = takes-few k w in absurd (omega (arith, most, more))

  -- ---- the near end was asked for a frame: SABME is in transit, or was received

  abbrev Rung : Wire → Type 0
  Rung w = (1 ≤ length w.near.way) ⊎ HalfNow w

  near-longer : (w : Wire) → 1 ≤ length w.near.way → 1 ≤ length (happens next w.near).way
  near-longer w some = let more = length-append w.near.way (frames_by (answered next w.near)) in omega (arith, some, more)

  rung-now : (w : Wire) (weight : ℕ) → InCall w weight → Rung (doing (at_near sends) w)
  rung-now w weight (inl h) =
      let near = h.both.near.stands in
      let there = gives-stands its.service its.tei 0 w.near (end t asked []) (subst (λ k. StationStands k its.service its.tei 0 w.near (end t asked [])) (sym near.config) near) in
      let way = ap length there.way in inl (omega (arith, way))
  rung-now w weight (inr (inl h)) = let way = ap length h.both.near.stands.way in inl (near-longer w (omega (arith, way)))
  rung-now w weight (inr (inr h)) = inr (half-step (at_near sends) tt w (weight, h))

  rung-step : (k : StepAt) → Talks k → (w : Wire) (weight : ℕ) → InCall w weight → Rung w → Rung (doing k w)
  rung-step k is w weight h (inr halved) = inr (half-step k is w halved)
  rung-step (at_near (requests r)) is w weight h (inl some) = inl (subst (λ way. 1 ≤ length way) (sym (asks-way r w.near)) some)
  rung-step (at_near sends) is w weight h (inl some) = inl (near-longer w some)
  rung-step (at_near receives) is w weight h (inl some) = inl (subst (λ way. 1 ≤ length way) (sym (first-taken its.service its.tei w.far.way w.near)) some)
  rung-step (at_far (requests r)) is w weight h (inl some) = inl some
  rung-step (at_far sends) is w weight h (inl some) = inl some
  rung-step (at_far receives) is w weight h (inl some) = inr (half-heard (at_far receives) is w weight h (any w.near.way some))
  rung-step (at_near other) is w weight h (inl some) = absurd is
  rung-step (at_far other) is w weight h (inl some) = absurd is

  rung-all : (es : List StepAt) → All Talks es → (w : Wire) (weight : ℕ) → InCall w weight → Rung w → Rung (doing_all es w)
  rung-all es all w weight h rung =
      (steps-keep (λ w. (weight : ℕ) × InCall w weight × Rung w) Talks (λ k w is x. let on = call-step its fit k is w x.0 x.1 in (on.0, on.1, rung-step k is w x.0 x.1 x.2)) es all w (weight, h, rung)).2

  rung-then : (es : List StepAt) → All Talks es → (w : Wire) (weight : ℕ) → InCall w weight → 1 ≤ sum_all near_sends es w → Rung (doing_all es w)
  unfolding doing_all sum_all
  rung-then [] all w weight h some = absurd (omega (arith, some))
  rung-then (k ∷ ks) all w weight h some =
      let is = All-head Talks k ks all in let on = call-step its fit k is w weight h in
      go k (near_sends k w) refl (rung-all ks (All-tail Talks k ks all) (doing k w) on.0 on.1) (λ more. rung-then ks (All-tail Talks k ks all) (doing k w) on.0 on.1 more) some
    where
      go : (k : StepAt) (n : ℕ) → near_sends k w ≡ n → (Rung (doing k w) → Rung (doing_all ks (doing k w))) → (1 ≤ sum_all near_sends ks (doing k w) → Rung (doing_all ks (doing k w)))
          → 1 ≤ near_sends k w + sum_all near_sends ks (doing k w) → Rung (doing_all ks (doing k w))
      go (at_near sends) n is now rest some = now (rung-now w weight h)
      go (at_near receives) n is now rest some = rest (omega (arith, some))
      go (at_near (requests r)) n is now rest some = rest (omega (arith, some))
      go (at_near (wire.expires timer)) n is now rest some = rest (omega (arith, some))
      go (at_near wire.loses) n is now rest some = rest (omega (arith, some))
      go (at_far act) n is now rest some = rest (omega (arith, some))

  module _ (rs es fs gs : List StepAt) (zero : All Talks rs) (one : All Talks es) (two : All Talks fs) (three : All Talks gs) (w : Wire) (weight : ℕ) where
    abbrev v3 : Wire
    v3 = doing_all fs (doing_all es (doing_all rs w))

    called-then : InCall w weight → 1 ≤ sum_all near_sends rs w → length (doing_all rs w).near.way ≤ sum_all far_takes es (doing_all rs w) → 1 ≤ sum_all far_sends fs (doing_all es (doing_all rs w)) → length v3.far.way ≤ sum_all near_takes gs v3 → (UpNow its fit (doing_all gs v3))
    called-then h asked_first there asked all = go (sent-then fs two (doing_all es (doing_all rs w)) (halved (rung-then rs zero w weight h asked_first)) asked)
      where
        on : (weight' : ℕ) × InCall (doing_all rs w) weight'
        on = all-called its fit rs zero w weight h

        halved : Rung (doing_all rs w) → HalfNow (doing_all es (doing_all rs w))
        halved (inl some) = half-then es one (doing_all rs w) on.0 on.1 (omega (arith, some, there))
        halved (inr half_now) = steps-keep HalfNow Talks (λ k w is. half-step k is w) es one (doing_all rs w) half_now

        go : Sent v3 → (UpNow its fit (doing_all gs v3))
        go (half_now, inl some) = up-by-takes gs three v3 half_now (omega (arith, some, all))
        go (half_now, inr up) = up-all its fit gs three v3 up

    -- So both ends are up.
    pub both-up : On its fit w weight → 1 ≤ sum_all near_sends rs w → length (doing_all rs w).near.way ≤ sum_all far_takes es (doing_all rs w) → 1 ≤ sum_all far_sends fs (doing_all es (doing_all rs w)) → length v3.far.way ≤ sum_all near_takes gs v3
        → (UpNow its fit (doing_all gs v3))
    both-up (inl h) asked_first there asked all = called-then h asked_first there asked all
    both-up (inr up) asked_first there asked all = let on = up-all its fit in on gs three v3 (on fs two (doing_all es (doing_all rs w)) (on es one (doing_all rs w) (on rs zero w up)))
