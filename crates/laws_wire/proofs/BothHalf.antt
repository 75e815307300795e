-- A call of which one end is up, and its UA waits or is on its way; and then both are up.
use Rattle.laws_wire.proofs.Vocabulary.{◌≡◌, ℕ, ◌+◌, ◌*◌, ◌≤◌, false, List, [], length, None, refl, sym, ap, subst, ◌∙◌, ◌⊎◌, inl, inr, arith, if◌then◌else◌, Service, spelling, Terms, IsInRange, LinkEndpoint, with_sent, Config, terms, LineTold, request, next, weight_at, Pair, refusal, Data, Endpoint, Wire, happens, frames_by, EndStep, requests, sends}
use Rattle.laws_wire.proofs.Vocabulary.{receives, StepAt, at_near, at_far, acting, turned, doing, is_turn_of, is_turn, answered, IsTalkOf, IsTalk, confirmed, LinkData, own_side}
use Rattle.laws_wire.proofs.Answered.{gives-granted}
use Rattle.laws_wire.proofs.Asking.{with_more}
use Rattle.laws_wire.proofs.BothAsking.{Keeps, Refuses, is_free, calls-still, keeps, refuses}
use Rattle.laws_wire.proofs.Calling.{ua, awaiting, caller, end, none-granted-awaiting, with_ua_waiting, with_ua_first, sends-ua}
use Rattle.laws_wire.proofs.Talking.{Face, Past, unheard, after_note, Holds, holds-given, holds-lost, fits, More, holds-asked}
use Rattle.laws_wire.proofs.Quiet.{one-at-most, Both, turned-both, frames-are, quiet-takes, for-data, quiet-acts, hears-first, hears-granted}
use Rattle.laws_wire.proofs.Up.{pair_of, turned-pair, turn_of, end-gives, more-pair, granted_of, one-longer, Talk, does}

pub lower : (b before weight g g' : ℕ) → b ≤ 1 → before ≡ 1 + weight → g' ≡ g → b + weight + 4 * g ≤ before + 4 * g'
lower b before weight g g' one is same = omega (arith, one, is, same)

module _ (service : Service) (tei : ℕ) where
  -- The near end waits for UA. The far end was told this note.
  module _ (note : LineTold) (c d : Config) (p q : ℕ) (face : Face c d) (back : Face d c) (rt : IsInRange (terms c service tei)) where
    abbrev t : Terms
    t = terms c service tei

    abbrev second : Past
    second = after_note note

    abbrev pub one_up : LinkEndpoint → ℕ
    one_up m = weight_at (end t caller []) + weight_at m

    pub record IsAnswered (w : Wire) (weight : ℕ) : Type 0 where
      pub m : LinkEndpoint
      pub none : m.way ≡ []
      pub both : Both service tei c d p q unheard second w (end t awaiting []) (with_ua_waiting m)
      pub pair : Pair (pair_of (end t caller []) m)
      pub is : weight ≡ 2 + one_up m

    pub record IsAwaited (w : Wire) (weight : ℕ) : Type 0 where
      pub m : LinkEndpoint
      pub both : Both service tei c d p q unheard second w (end t awaiting []) (with_ua_first m)
      pub pair : Pair (pair_of (end t caller []) m)
      pub is : weight ≡ 1 + one_up m

    pub record IsUp (w : Wire) (weight : ℕ) : Type 0 where
      pub n : LinkEndpoint
      pub m : LinkEndpoint
      pub talk : Talk service tei c d p q (after_note (confirmed service tei)) second w n m
      pub is : weight ≡ weight_at n + weight_at m

    abbrev pub Half : Wire → ℕ → Type 0
    Half w weight = IsAnswered w weight ⊎ IsAwaited w weight ⊎ IsUp w weight

    pub record Stepped (w w' : Wire) (before b : ℕ) : Type 0 where
      pub weight : ℕ
      pub goes : Half w' weight
      pub price : b + weight + 4 * granted_of w ≤ before + 4 * granted_of w'

    -- where nothing changes the phase stays
    stayed : (w w' : Wire) (before b : ℕ) → b ≡ 0 → granted_of w' ≡ granted_of w → Half w' before → Stepped w w' before b
    stayed w w' before b none granted still = record { weight = before; goes = still; price = omega (arith, none, granted) }

    -- UA waits
    from-answered-near : (act : EndStep) → IsTalkOf service tei act → (w : Wire) (weight : ℕ) → IsAnswered w weight → Stepped w (acting act w) weight (if is_turn_of act w then 1 else 0)
    from-answered-near act is w weight h =
        let x = quiet-acts service tei c d p q unheard second w (end t awaiting []) (with_ua_waiting h.m) h.both (none-granted-awaiting t) refl act (λ e. h.none) is in
        stayed w (acting act w) weight _ x.none x.granted (inl (record { m = h.m; none = h.none; both = x.both; pair = h.pair; is = h.is }))

    -- contents that are granted at one of a pair
    abbrev made : Wire → Endpoint → Wire
    made w s' = record { near = w.near; far = s' }

    module _ (w : Wire) (m : LinkEndpoint) (up : Pair (pair_of (end t caller []) m)) (waits : LinkEndpoint → LinkEndpoint) (same-terms : (waits m).terms ≡ m.terms)
        (same-refusal : (octets : List ℕ) → refusal (waits m).terms (waits m).link false (LinkData octets) ≡ refusal m.terms m.link false (LinkData octets))
        (holds : Holds d service tei q second w.far (waits m)) where
      record Asks (octets : List ℕ) (s' : Endpoint) : Type 0 where
        more : More service tei q second d w.far s' (waits m) octets
        pair : Pair (pair_of (end t caller []) (with_more octets m))
        heavier : one_up (with_more octets m) ≡ one_up m + 4

      far-asks : (octets : List ℕ)
          → (happens (request (Data service tei octets)) w.far ≡ w.far) ⊎ Asks octets (happens (request (Data service tei octets)) w.far)
      far-asks octets =
          elim (holds-asked service tei q second d w.far (waits m) octets holds) [
            | inl same ↦ inl same
            | inr x ↦
                let none : refusal m.terms m.link false (LinkData octets) ≡ None = sym (same-refusal octets) ∙ x.none in
                let own : m.terms.n201 ≡ t.n201 = ap (λ y. y.n201) (sym same-terms ∙ holds.stands.terms) ∙ back.n201 in
                let small : length octets ≤ t.n201 = subst (λ k. length octets ≤ k) own (fits service tei q second m.terms m.link octets none) in
                let y = more-pair octets m (end t caller []) (turned-pair (end t caller []) m up) small none in
                inr (record { more = x; pair = turned-pair (with_more octets m) (end t caller []) y.pair; heavier = omega (arith, y.heavier) })
          ]

      abbrev asked : List ℕ → Endpoint
      asked octets = happens (request (Data service tei octets)) w.far

      -- so it is asked in either phase
      asks-step : (k weight : ℕ) → weight ≡ k + one_up m → Half w weight
          → ((octets : List ℕ) → Holds d service tei q second (asked octets) (with_more octets (waits m)) → Pair (pair_of (end t caller []) (with_more octets m)) → Half (made w (asked octets)) (k + one_up (with_more octets m)))
          → (octets : List ℕ) → Stepped w (made w (asked octets)) weight 0
      asks-step k weight is h of octets =
          elim (far-asks octets) [
            | inl same ↦
                stayed w (made w (asked octets)) weight 0 refl (ap (λ (s : Endpoint). length w.near.granted + length s.granted) same) (subst (λ s. Half (made w s) weight) (sym same) h)
            | inr x ↦ record {
              weight = k + one_up (with_more octets m);
              goes = of octets x.more.holds x.pair;
              price = (omega (arith, is, x.heavier, (ap length x.more.granted ∙ one-longer w.far.granted octets)));
            }
          ]

    answered-asks : (w : Wire) (weight : ℕ) → IsAnswered w weight → (octets : List ℕ) → Stepped w (made w (happens (request (Data service tei octets)) w.far)) weight 0
    answered-asks w weight h =
        asks-step w h.m h.pair with_ua_waiting refl (λ octets. refl) h.both.far 2 weight h.is (inl h)
        (λ octets far pair. inl (record { m = with_more octets h.m; none = h.none; both = record { near = h.both.near; far = far }; pair = pair; is = refl }))

    answered-gives : (w : Wire) (weight : ℕ) → IsAnswered w weight → Stepped w (made w (happens next w.far)) weight (turn_of (frames_by (answered next w.far)))
    answered-gives w weight h =
        let form = sends-ua h.m h.pair.far h.none in
        let sent = holds-given service tei q second d w.far (with_ua_waiting h.m) h.both.far (ap (λ (x : LinkEndpoint). x.link.contents) form) in
        record {
          weight = 1 + one_up h.m;
          goes = inr (inl (record {
            m = h.m;
            both = record { near = h.both.near; far = subst (Holds d service tei q second (happens next w.far)) form sent };
            pair = h.pair;
            is = refl;
          }));
          price = grind (arith, lower, granted_of, one-at-most, gives-granted);
        }

    from-answered-far : (act : EndStep) → IsTalkOf service tei act → (w : Wire) (weight : ℕ) → IsAnswered w weight → Stepped w (turned (acting act (turned w))) weight (if is_turn_of act (turned w) then 1 else 0)
    from-answered-far (requests r) is w weight h =
        for-data service tei d c q p second unheard (turned w) (with_ua_waiting h.m) (end t awaiting []) (turned-both service tei c d p q unheard second w _ _ h.both)
        (λ r. Stepped w (made w (happens (request r) w.far)) weight 0) (answered-asks w weight h) r is
    from-answered-far receives is w weight h =
        let x = quiet-takes service tei d c q p second unheard (turned w) (with_ua_waiting h.m) (end t awaiting []) (turned-both service tei c d p q unheard second w _ _ h.both) refl in
        stayed w (turned (acting receives (turned w))) weight _ x.none (omega (arith, x.granted))
        (inl (record { m = h.m; none = h.none; both = turned-both service tei d c q p second unheard (acting receives (turned w)) (with_ua_waiting h.m) (end t awaiting []) x.both; pair = h.pair; is = h.is }))
    from-answered-far act is w weight h = grind (arith, answered-gives)

    -- UA is on its way, and I-frames may be behind it
    confirms : (w : Wire) (weight : ℕ) → IsAwaited w weight → Stepped w (acting receives w) weight (turn_of w.far.way)
    confirms w weight h =
        let first = after_note (confirmed service tei) in
        let far = with_ua_first h.m in
        let f = ua h.m.terms in
        record {
          weight = one_up h.m;
          goes = inr (inr (record {
            n = end t caller [];
            m = h.m;
            talk = record {
              near = hears-first service tei c d p q second w (end t awaiting []) far h.both f h.m.way refl face first (end t caller []) refl refl refl refl refl refl;
              far = holds-lost service tei q second d w.far far h.both.far;
              pair = h.pair;
            };
            is = refl;
          }));
          price = lower _ weight (one_up h.m) (granted_of w) _ (one-at-most w.far.way) h.is (hears-granted service tei c d p q second w (end t awaiting []) far h.both f h.m.way refl face);
        }

    awaited-idle : (act : EndStep) → (act ≡ receives → ⊥) → IsTalkOf service tei act → (w : Wire) (weight : ℕ) → IsAwaited w weight → Stepped w (acting act w) weight (if is_turn_of act w then 1 else 0)
    awaited-idle act not is w weight h =
        let x = quiet-acts service tei c d p q unheard second w (end t awaiting []) (with_ua_first h.m) h.both (none-granted-awaiting t) refl act (λ e. absurd (not e)) is in
        stayed w (acting act w) weight _ x.none x.granted (inr (inl (record { m = h.m; both = x.both; pair = h.pair; is = h.is })))

    from-awaited-near : (act : EndStep) → IsTalkOf service tei act → (w : Wire) (weight : ℕ) → IsAwaited w weight → Stepped w (acting act w) weight (if is_turn_of act w then 1 else 0)
    from-awaited-near receives is w weight h = confirms w weight h
    from-awaited-near (requests r) is w weight h = awaited-idle (requests r) (λ e. cc e) is w weight h
    from-awaited-near sends is w weight h = awaited-idle sends (λ e. cc e) is w weight h
    from-awaited-near other is w weight h = absurd is

    awaited-asks : (w : Wire) (weight : ℕ) → IsAwaited w weight → (octets : List ℕ) → Stepped w (made w (happens (request (Data service tei octets)) w.far)) weight 0
    awaited-asks w weight h =
        asks-step w h.m h.pair with_ua_first refl (λ octets. refl) h.both.far 1 weight h.is (inr (inl h))
        (λ octets far pair. inr (inl (record { m = with_more octets h.m; both = record { near = h.both.near; far = far }; pair = pair; is = refl })))

    awaited-gives : (w : Wire) (weight : ℕ) → IsAwaited w weight → Stepped w (made w (happens next w.far)) weight (turn_of (frames_by (answered next w.far)))
    awaited-gives w weight h =
        let m = h.m in
        let x = end-gives (spelling (own_side w.far.card.config)) m (end t caller []) (turned-pair (end t caller []) m h.pair) in
        let sent = holds-given service tei q second d w.far (with_ua_first m) h.both.far x.kept in
        let turn-is = ap turn_of (frames-are service tei d c q p second unheard (turned w) (with_ua_first m) (end t awaiting []) (turned-both service tei c d p q unheard second w _ _ h.both)) in
        record {
          weight = 1 + one_up (with_sent m);
          goes = inr (inl (record {
            m = with_sent m;
            both = record { near = h.both.near; far = sent };
            pair = turned-pair (with_sent m) (end t caller []) x.pair;
            is = refl;
          }));
          price = grind (arith, end, caller, gives-granted);
        }

    from-awaited-far : (act : EndStep) → IsTalkOf service tei act → (w : Wire) (weight : ℕ) → IsAwaited w weight → Stepped w (turned (acting act (turned w))) weight (if is_turn_of act (turned w) then 1 else 0)
    from-awaited-far (requests r) is w weight h =
        for-data service tei d c q p second unheard (turned w) (with_ua_first h.m) (end t awaiting []) (turned-both service tei c d p q unheard second w _ _ h.both)
        (λ r. Stepped w (made w (happens (request r) w.far)) weight 0) (awaited-asks w weight h) r is
    from-awaited-far receives is w weight h =
        let x = quiet-takes service tei d c q p second unheard (turned w) (with_ua_first h.m) (end t awaiting []) (turned-both service tei c d p q unheard second w _ _ h.both) refl in
        stayed w (turned (acting receives (turned w))) weight _ x.none (omega (arith, x.granted))
        (inr (inl (record { m = h.m; both = turned-both service tei d c q p second unheard (acting receives (turned w)) (with_ua_first h.m) (end t awaiting []) x.both; pair = h.pair; is = h.is })))
    from-awaited-far act is w weight h = grind (arith, awaited-gives)

    -- both are up
    from-up : (k : StepAt) → IsTalk service tei k → (w : Wire) (weight : ℕ) → IsUp w weight → Stepped w (doing k w) weight (if is_turn k w then 1 else 0)
    from-up k is w weight h =
        let x = does service tei c d p q face back (after_note (confirmed service tei)) second k is w h.n h.m h.talk in
        record {
          weight = weight_at x.n' + weight_at x.m';
          goes = inr (inr (record { n = x.n'; m = x.m'; talk = x.talk; is = refl }));
          price = subst (λ before. (if is_turn k w then 1 else 0) + (weight_at x.n' + weight_at x.m') + 4 * granted_of w ≤ before + 4 * granted_of (doing k w)) (sym h.is) x.price;
        }

    -- so each thing that is done is a step of the call
    pub step : (k : StepAt) → IsTalk service tei k → (w : Wire) (weight : ℕ) → Half w weight → Stepped w (doing k w) weight (if is_turn k w then 1 else 0)
    step (at_near act) is w weight (inl h) = from-answered-near act is w weight h
    step (at_near act) is w weight (inr (inl h)) = from-awaited-near act is w weight h
    step (at_far act) is w weight (inl h) = from-answered-far act is w weight h
    step (at_far act) is w weight (inr (inl h)) = from-awaited-far act is w weight h
    step other is w weight (inr (inr h)) = from-up other is w weight h

    -- neither end changes by an establishment that is asked for then
    pub near-keeps : (w : Wire) (weight : ℕ) → Half w weight → Keeps service tei w.near
    near-keeps w weight (inl h) = keeps service tei p c unheard w.near (end t awaiting []) h.both.near refl (calls-still awaiting refl refl refl refl refl refl)
    near-keeps w weight (inr (inl h)) = keeps service tei p c unheard w.near (end t awaiting []) h.both.near refl (calls-still awaiting refl refl refl refl refl refl)
    near-keeps w weight (inr (inr h)) = (refuses service tei p c (after_note (confirmed service tei)) w.near h.n h.talk.near (ap is_free h.talk.pair.near.state)).same

    pub far-refuses : (w : Wire) (weight : ℕ) → Half w weight → Refuses service tei w.far
    far-refuses w weight (inl h) = refuses service tei q d second w.far (with_ua_waiting h.m) h.both.far (ap is_free h.pair.far.state)
    far-refuses w weight (inr (inl h)) = refuses service tei q d second w.far (with_ua_first h.m) h.both.far (ap is_free h.pair.far.state)
    far-refuses w weight (inr (inr h)) = refuses service tei q d second w.far h.m h.talk.far (ap is_free h.talk.pair.far.state)
