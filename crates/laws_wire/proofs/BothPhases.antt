-- A call from its beginning: the near end calls, and the far one may call back before SABME comes; each step of it.
use Rattle.laws_wire.proofs.Vocabulary.{◌≡◌, ℕ, ◌+◌, ◌*◌, ◌≤◌, Bool, true, false, cond, ◌||◌, [], ◌∷◌, length, refl, sym, ap, subst, ◌⊎◌, inl, inr, arith, if◌then◌else◌, Service, Terms, fresh, IsInRange, Config, terms, next, Establish, Wire, frames_by, EndStep, requests, sends, receives, StepAt, at_near, at_far, acting, turned, doing, is_turn_of}
use Rattle.laws_wire.proofs.Vocabulary.{is_turn, answered, IsTalkOf, IsTalk, IsCall, calls_back, confirmed, indicated, told_first}
use Rattle.laws_wire.proofs.Answered.{gives-granted}
use Rattle.laws_wire.proofs.BothAsking.{Kind, talks, near_calls, far_calls, kind, Keeps, Refuses, calls-still, keeps, calls}
use Rattle.laws_wire.proofs.BothHalf as half
use Rattle.laws_wire.proofs.BothHalf.{lower}
use Rattle.laws_wire.proofs.BothCrossing as crossed
use Rattle.laws_wire.proofs.BothCrossing.{waits, under_way, turned-order}
use Rattle.laws_wire.proofs.Calling.{sabme, asked, awaiting, called, takes-sabme, end, none-granted-asked, none-granted-awaiting, none-granted-fresh, first-pair, with_ua_waiting, told-of-sabme}
use Rattle.laws_wire.proofs.Talking.{Face, unheard, after_note, Holds, holds-given, holds-lost}
use Rattle.laws_wire.proofs.Quiet.{one-at-most, Both, turned-both, quiet-takes, quiet-requests, quiet-acts, hears-first, hears-granted}
use Rattle.laws_wire.proofs.Up.{turn_of, granted_of}

abbrev pub cost : Bool → ℕ
cost both = cond both 4 0

module _ (service : Service) (tei : ℕ) where
  -- ---- the phases

  module _ (few : tei ≤ 126) (c d : Config) (p q : ℕ) (face : Face c d) (back : Face d c) (rt : IsInRange (terms c service tei)) (ru : IsInRange (terms d service tei)) where
    abbrev t : Terms
    t = terms c service tei

    abbrev u : Terms
    u = terms d service tei

    -- SABME waits, or is on its way, and the far end has not called
    pub record IsWaiting (w : Wire) (weight : ℕ) : Type 0 where
      pub both : Both service tei c d p q unheard unheard w (end t asked []) (end u fresh [])
      pub is : weight ≡ 4

    pub record IsCalled (w : Wire) (weight : ℕ) : Type 0 where
      pub both : Both service tei c d p q unheard unheard w (end t awaiting (sabme t ∷ [])) (end u fresh [])
      pub is : weight ≡ 3

    abbrev pub OneHalf : Bool → Wire → ℕ → Type 0
    OneHalf both w weight = half.Half service tei (told_first service tei both) c d p q face back rt w weight

    abbrev pub Goes : Bool → Wire → ℕ → Type 0
    Goes false w weight = IsWaiting w weight ⊎ IsCalled w weight ⊎ OneHalf false w weight
    Goes true w weight = crossed.IsCrossing service tei c d p q face back rt ru w weight ⊎ OneHalf true w weight ⊎ crossed.NearFirst service tei c d p q face back rt ru w weight

    -- where nobody calls
    record Went (both : Bool) (w w' : Wire) (before b : ℕ) : Type 0 where
      weight : ℕ
      goes : Goes both w' weight
      price : b + weight + 4 * granted_of w ≤ before + 4 * granted_of w'

    stayed : (both : Bool) (w w' : Wire) (before b : ℕ) → b ≡ 0 → granted_of w' ≡ granted_of w → Goes both w' before → Went both w w' before b
    stayed both w w' before b none granted still = record { weight = before; goes = still; price = omega (arith, none, granted) }

    -- ---- SABME waits

    from-waiting-near : (act : EndStep) → IsTalkOf service tei act → (w : Wire) (weight : ℕ) → IsWaiting w weight → Went false w (acting act w) weight (if is_turn_of act w then 1 else 0)
    from-waiting-near sends is w weight h =
        let sent = holds-given service tei p unheard c w.near (end t asked []) h.both.near refl in
        record {
          weight = 3;
          goes = inr (inl (record { both = record { near = sent; far = h.both.far }; is = refl }));
          price = lower _ weight 3 (granted_of w) _ (one-at-most (frames_by (answered next w.near))) h.is (ap (λ xs. length xs + length w.far.granted) (gives-granted w.near));
        }
    from-waiting-near (requests r) is w weight h =
        let x = quiet-requests service tei c d p q unheard unheard w (end t asked []) (end u fresh []) h.both (none-granted-asked t) r is in
        stayed false w (acting (requests r) w) weight 0 refl x.granted (inl (record { both = x.both; is = h.is }))
    from-waiting-near receives is w weight h = grind (arith, quiet-takes, unheard, end, asked, stayed)
    from-waiting-near other is w weight h = absurd is

    from-waiting-far : (act : EndStep) → IsTalkOf service tei act → (w : Wire) (weight : ℕ) → IsWaiting w weight → Went false w (turned (acting act (turned w))) weight (if is_turn_of act (turned w) then 1 else 0)
    from-waiting-far act is w weight h =
        let x = quiet-acts service tei d c q p unheard unheard (turned w) (end u fresh []) (end t asked []) (turned-both service tei c d p q unheard unheard w _ _ h.both) (none-granted-fresh u) refl act (λ e. refl) is in
        stayed false w (turned (acting act (turned w))) weight _ x.none (omega (arith, x.granted)) (inl (record { both = turned-both service tei d c q p unheard unheard (acting act (turned w)) (end u fresh []) (end t asked []) x.both; is = h.is }))

    -- ---- SABME is on its way

    from-called-near : (act : EndStep) → IsTalkOf service tei act → (w : Wire) (weight : ℕ) → IsCalled w weight → Went false w (acting act w) weight (if is_turn_of act w then 1 else 0)
    from-called-near act is w weight h =
        let x = quiet-acts service tei c d p q unheard unheard w (end t awaiting (sabme t ∷ [])) (end u fresh []) h.both (none-granted-awaiting t) refl act (λ e. refl) is in
        stayed false w (acting act w) weight _ x.none x.granted (inr (inl (record { both = x.both; is = h.is })))

    answers : (w : Wire) (weight : ℕ) → IsCalled w weight → Went false w (turned (acting receives (turned w))) weight (turn_of w.near.way)
    answers w weight h =
        let near = end t awaiting (sabme t ∷ []) in
        let both = turned-both service tei c d p q unheard unheard w near (end u fresh []) h.both in
        let becomes = ap (λ y. end u y []) (takes-sabme u ru t) in
        record {
          weight = 2 + half.one_up service tei (indicated service tei) c d p q face back rt (end u called []);
          goes = inr (inr (inl (record {
            m = end u called [];
            none = refl;
            both = record {
              near = holds-lost service tei p unheard c w.near near h.both.near;
              far = hears-first service tei d c q p unheard (turned w) (end u fresh []) near both (sabme t) [] refl back (after_note (indicated service tei)) (with_ua_waiting (end u called [])) becomes refl refl refl refl (told-of-sabme u ru t);
            };
            pair = first-pair t u rt ru;
            is = refl;
          })));
          price =
              lower _ weight 2 (granted_of w) _ (one-at-most w.near.way) h.is
              (let same = hears-granted service tei d c q p unheard (turned w) (end u fresh []) near both (sabme t) [] refl back in omega (arith, same));
        }

    called-idle : (act : EndStep) → (act ≡ receives → ⊥) → IsTalkOf service tei act → (w : Wire) (weight : ℕ) → IsCalled w weight → Went false w (turned (acting act (turned w))) weight (if is_turn_of act (turned w) then 1 else 0)
    called-idle act not is w weight h =
        let way = sabme t ∷ [] in
        let x = quiet-acts service tei d c q p unheard unheard (turned w) (end u fresh []) (end t awaiting way) (turned-both service tei c d p q unheard unheard w _ _ h.both) (none-granted-fresh u) refl act (λ e. absurd (not e)) is in
        stayed false w (turned (acting act (turned w))) weight _ x.none (omega (arith, x.granted)) (inr (inl (record { both = turned-both service tei d c q p unheard unheard (acting act (turned w)) (end u fresh []) (end t awaiting way) x.both; is = h.is })))

    from-called-far : (act : EndStep) → IsTalkOf service tei act → (w : Wire) (weight : ℕ) → IsCalled w weight → Went false w (turned (acting act (turned w))) weight (if is_turn_of act (turned w) then 1 else 0)
    from-called-far receives is w weight h = answers w weight h
    from-called-far (requests r) is w weight h = called-idle (requests r) (λ e. cc e) is w weight h
    from-called-far sends is w weight h = called-idle sends (λ e. cc e) is w weight h
    from-called-far other is w weight h = absurd is

    -- ---- one end is up, or both

    abbrev HalfWent : Bool → Wire → Wire → ℕ → ℕ → Type 0
    HalfWent both w w' before b = half.Stepped service tei (told_first service tei both) c d p q face back rt w w' before b

    as-half : (both : Bool) (w w' : Wire) (before b : ℕ) → HalfWent both w w' before b → Went both w w' before b
    as-half both w w' before b x = record { weight = x.weight; goes = go both x.goes; price = x.price }
      where
        go : (both : Bool) → OneHalf both w' x.weight → Goes both w' x.weight
        go false h = inr (inr h)
        go true h = inr (inl h)

    -- ---- both call

    abbrev Crossing : Wire → ℕ → Type 0
    Crossing w weight = crossed.IsCrossing service tei c d p q face back rt ru w weight

    abbrev NearFirst : Wire → ℕ → Type 0
    NearFirst w weight = crossed.NearFirst service tei c d p q face back rt ru w weight

    near-goes : (w : Wire) (weight : ℕ) → Crossing w weight ⊎ NearFirst w weight → Goes true w weight
    near-goes w weight (inl h) = inl h
    near-goes w weight (inr h) = inr (inr h)

    crossed-near : (act : EndStep) → IsTalkOf service tei act → (w : Wire) (weight : ℕ) → Crossing w weight → Went true w (acting act w) weight (if is_turn_of act w then 1 else 0)
    crossed-near act is w weight h =
        let x = crossed.near-step service tei c d p q face back rt ru act is w weight h in record { weight = x.weight; goes = near-goes (acting act w) x.weight x.goes; price = x.price }

    abbrev CrossingTurned : Wire → ℕ → Type 0
    CrossingTurned v weight = crossed.IsCrossing service tei d c q p back face ru rt v weight

    abbrev FarFirst : Wire → ℕ → Type 0
    FarFirst v weight = crossed.NearFirst service tei d c q p back face ru rt v weight

    crossing-back : (v : Wire) (weight : ℕ) → CrossingTurned v weight → Crossing (turned v) weight
    crossing-back v weight h = grind (arith, turned-order, turned-both, unheard)

    far-goes : (v : Wire) (weight : ℕ) → CrossingTurned v weight ⊎ FarFirst v weight → Goes true (turned v) weight
    far-goes v weight (inl h) = inl (crossing-back v weight h)
    far-goes v weight (inr h) = inr (inl h)

    crossed-far : (act : EndStep) → IsTalkOf service tei act → (w : Wire) (weight : ℕ) → Crossing w weight → Went true w (turned (acting act (turned w))) weight (if is_turn_of act (turned w) then 1 else 0)
    crossed-far act is w weight h =
        let v = turned w in
        let v' = acting act v in
        let x = crossed.near-step service tei d c q p back face ru rt act is v weight (grind (arith, turned-order, turned-both, unheard)) in
        record {
          weight = x.weight;
          goes = far-goes v' x.weight x.goes;
          price = omega (arith, x.price);
        }

    -- ---- the near end was up first

    first-near : (act : EndStep) → IsTalkOf service tei act → (w : Wire) (weight : ℕ) → NearFirst w weight → Went true w (acting act w) weight (if is_turn_of act w then 1 else 0)
    first-near act is w weight h =
        let x = half.step service tei (confirmed service tei) d c q p back face ru (at_far act) is (turned w) weight h in
        record {
          weight = x.weight;
          goes = inr (inr x.goes);
          price = omega (arith, x.price);
        }

    first-far : (act : EndStep) → IsTalkOf service tei act → (w : Wire) (weight : ℕ) → NearFirst w weight → Went true w (turned (acting act (turned w))) weight (if is_turn_of act (turned w) then 1 else 0)
    first-far act is w weight h =
        let x = half.step service tei (confirmed service tei) d c q p back face ru (at_near act) is (turned w) weight h in
        record {
          weight = x.weight;
          goes = inr (inr x.goes);
          price = omega (arith, x.price);
        }

    -- ---- talk

    talk-step : (both : Bool) (k : StepAt) → IsTalk service tei k → (w : Wire) (weight : ℕ) → Goes both w weight → Went both w (doing k w) weight (if is_turn k w then 1 else 0)
    talk-step false (at_near act) is w weight (inl h) = from-waiting-near act is w weight h
    talk-step false (at_near act) is w weight (inr (inl h)) = from-called-near act is w weight h
    talk-step false (at_far act) is w weight (inl h) = from-waiting-far act is w weight h
    talk-step false (at_far act) is w weight (inr (inl h)) = from-called-far act is w weight h
    talk-step false other is w weight (inr (inr h)) = as-half false w _ weight _ (half.step service tei (indicated service tei) c d p q face back rt other is w weight h)
    talk-step true (at_near act) is w weight (inl h) = crossed-near act is w weight h
    talk-step true (at_near act) is w weight (inr (inr h)) = first-near act is w weight h
    talk-step true (at_far act) is w weight (inl h) = crossed-far act is w weight h
    talk-step true other is w weight (inr (inl h)) = as-half true w _ weight _ (half.step service tei (confirmed service tei) c d p q face back rt other is w weight h)
    talk-step true (at_far act) is w weight (inr (inr h)) = first-far act is w weight h

    -- ---- the link is asked for

    near-keeps : (both : Bool) (w : Wire) (weight : ℕ) → Goes both w weight → Keeps service tei w.near
    near-keeps false w weight (inl h) = keeps service tei p c unheard w.near (end t asked []) h.both.near refl (calls-still asked refl refl refl refl refl refl)
    near-keeps false w weight (inr (inl h)) = keeps service tei p c unheard w.near (end t awaiting (sabme t ∷ [])) h.both.near refl (calls-still awaiting refl refl refl refl refl refl)
    near-keeps false w weight (inr (inr h)) = half.near-keeps service tei (indicated service tei) c d p q face back rt w weight h
    near-keeps true w weight (inl h) = keeps service tei p c unheard w.near _ h.both.near refl (calls-still _ refl refl refl refl refl refl)
    near-keeps true w weight (inr (inl h)) = half.near-keeps service tei (confirmed service tei) c d p q face back rt w weight h
    near-keeps true w weight (inr (inr h)) = (half.far-refuses service tei (confirmed service tei) d c q p back face ru (turned w) weight h).same

    -- what is done, whoever calls
    pub record Stepped (both : Bool) (k : StepAt) (w : Wire) (before b : ℕ) : Type 0 where
      pub weight : ℕ
      pub goes : Goes (both || calls_back k w) (doing k w) weight
      pub price : b + weight + (4 * granted_of w + cost both) ≤ before + (4 * granted_of (doing k w) + cost (both || calls_back k w))

    none-called : (both : Bool) (k : StepAt) (w : Wire) (before b : ℕ) → calls_back k w ≡ false → Went both w (doing k w) before b → Stepped both k w before b
    none-called both k w before b none x = grind (arith, granted_of)

    not-moved : (both : Bool) (w w' : Wire) (weight : ℕ) → w' ≡ w → Goes both w weight → Went both w w' weight 0
    not-moved both w w' weight same h = stayed both w w' weight 0 refl (ap granted_of same) (subst (λ x. Goes both x weight) (sym same) h)

    near-asks : (both : Bool) (w : Wire) (weight : ℕ) → Goes both w weight → Stepped both (at_near (requests (Establish service tei))) w weight 0
    near-asks both w weight h =
        none-called both (at_near (requests (Establish service tei))) w weight 0 refl
        (not-moved both w (doing (at_near (requests (Establish service tei))) w) weight (ap (λ s. record w { near = s }) (near-keeps both w weight h)) h)

    far-moved : (both : Bool) (w : Wire) (weight : ℕ) → Goes both w weight → Keeps service tei w.far → Went both w (doing (at_far (requests (Establish service tei))) w) weight 0
    far-moved both w weight h same = not-moved both w (doing (at_far (requests (Establish service tei))) w) weight (ap (λ s. record w { far = s }) same) h

    far-refused : (both : Bool) (w : Wire) (weight : ℕ) → Goes both w weight → Refuses service tei w.far → Stepped both (at_far (requests (Establish service tei))) w weight 0
    far-refused both w weight h down = none-called both (at_far (requests (Establish service tei))) w weight 0 down.none (far-moved both w weight h down.same)

    -- where both call already
    called-already : (k : StepAt) (w : Wire) (before b : ℕ) → Went true w (doing k w) before b → Stepped true k w before b
    called-already k w before b x = record { weight = x.weight; goes = x.goes; price = omega (arith, x.price) }

    far-again : (w : Wire) (weight : ℕ) → Goes true w weight → Keeps service tei w.far → Stepped true (at_far (requests (Establish service tei))) w weight 0
    far-again w weight h same = called-already (at_far (requests (Establish service tei))) w weight 0 (far-moved true w weight h same)

    -- the far end calls back
    abbrev far_calls_back : Wire → Wire
    far_calls_back w = doing (at_far (requests (Establish service tei))) w

    calls-too : (w : Wire) (before weight : ℕ) → Holds d service tei q unheard w.far (end u fresh []) → weight ≡ before + 4 → (Holds d service tei q unheard (far_calls_back w).far (end u asked []) → Goes true (far_calls_back w) weight)
        → Stepped false (at_far (requests (Establish service tei))) w before 0
    calls-too w before weight far is so =
        let x = calls service tei q few d unheard w.far far in
        record {
          weight = weight;
          goes = subst (λ y. Goes y (far_calls_back w) weight) (sym x.some) (so x.holds);
          price =
              subst (λ y. 0 + weight + (4 * granted_of w + 0) ≤ before + (4 * granted_of (far_calls_back w) + cost y)) (sym x.some)
              (omega (arith, is, (ap (λ xs. length w.near.granted + length xs) x.granted)));
        }

    far-asks : (both : Bool) (w : Wire) (weight : ℕ) → Goes both w weight → Stepped both (at_far (requests (Establish service tei))) w weight 0
    far-asks false w weight (inl h) = grind (arith, calls-too, waits)
    far-asks false w weight (inr (inl h)) =
        calls-too w weight 7 h.both.far (ap (λ x. x + 4) (sym h.is))
        (λ far. inl (record { own = under_way; other = waits; order = tt; both = record { near = h.both.near; far = far }; is = refl }))
    far-asks false w weight (inr (inr h)) = far-refused false w weight (inr (inr h)) (half.far-refuses service tei (indicated service tei) c d p q face back rt w weight h)
    far-asks true w weight (inl h) = far-again w weight (inl h) (keeps service tei q d unheard w.far _ h.both.far refl (calls-still _ refl refl refl refl refl refl))
    far-asks true w weight (inr (inl h)) = far-refused true w weight (inr (inl h)) (half.far-refuses service tei (confirmed service tei) c d p q face back rt w weight h)
    far-asks true w weight (inr (inr h)) = far-again w weight (inr (inr h)) (half.near-keeps service tei (confirmed service tei) d c q p back face ru (turned w) weight h)

    by-kind : (both : Bool) (k : StepAt) → Kind service tei k → (w : Wire) (weight : ℕ) → Goes both w weight → Stepped both k w weight (if is_turn k w then 1 else 0)
    by-kind both k (talks is) w weight h = none-called both k w weight _ (grind arith) (talk-step both k is w weight h)
    by-kind both k (near_calls is) w weight h = subst (λ k. Stepped both k w weight (if is_turn k w then 1 else 0)) (sym is) (near-asks both w weight h)
    by-kind both k (far_calls is) w weight h = subst (λ k. Stepped both k w weight (if is_turn k w then 1 else 0)) (sym is) (far-asks both w weight h)

    -- so each thing that is done is a step of the call
    pub step : (both : Bool) (k : StepAt) → IsCall service tei k → (w : Wire) (weight : ℕ) → Goes both w weight → Stepped both k w weight (if is_turn k w then 1 else 0)
    step both k is w weight h = by-kind both k (kind service tei k is) w weight h
