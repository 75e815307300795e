-- Two ends of which each asks or has nothing outstanding: after a round or two both are ready, and nothing is missing.
use Rattle.laws_link.proofs.Vocabulary.{◌≡◌, ℕ, suc, ◌+◌, ◌-◌, ◌<◌, ◌≤◌, Bool, true, false, cond, ◌==◌, List, [], ◌∷◌, ◌++◌, length, take, Option, Some, refl, sym, ap, subst, ◌∙◌, eq-eqb, arith, All, nat_lt, slice_get, unwrap_or, lt-ltb, le-ltb, ltb-true, and_parts, seq, named, Parts, LinkTimer, T203, frame, received, offer, IsInRange, IsSound, Endpoint, Ends, with_first_of, without_first}
use Rattle.laws_link.proofs.Vocabulary.{LinkCounts, with_information_sent, sound-after, IsReady, IsTaken, HasUnsent, may_send_information}
use Rattle.laws_link.proofs.OfTwo.Plain.{plain, plain_end, with_information, with_acknowledgement, gives-information, gives-acknowledgement, gives-nothing}
use Rattle.laws_link.proofs.OfTwo.Halves.{named-number, fits-at, take-one, moves, ready-giver, ready-taker, takes, taken}
use Rattle.laws_link.proofs.OfTwo.Arriving.{near_moves, far_moves, no-more}
use Rattle.laws_link.proofs.OfTwo.Shapes.{enquiry, reply, in_8, in_7, going_back, tallied, with_one_more, asked-8, answered-8, acknowledged-8, informed-8, asked-7}

-- Both ends stay sound, with their parameters in range.
pub record Sounds (e : Ends) : Type 0 where
  pub near_ranges : IsInRange e.near.terms
  pub far_ranges : IsInRange e.far.terms
  pub near : IsSound e.near.terms e.near.link
  pub far : IsSound e.far.terms e.far.link

pub sound-taker : (m : Endpoint) (way : List Parts) → IsInRange m.terms → IsSound m.terms m.link → IsSound (with_first_of way m).terms (with_first_of way m).link
sound-taker m [] r h = h
sound-taker m (f ∷ fs) r h = sound-after m.terms r (received (frame f)) m.link h

pub sounds-near : (e : Ends) → Sounds e → Sounds (near_moves e)
sounds-near e h =
    record {
      near_ranges = h.near_ranges;
      far_ranges = grind arith;
      near = sound-after e.near.terms h.near_ranges offer e.near.link h.near;
      far = sound-taker e.far _ h.far_ranges h.far;
    }

pub sounds-far : (e : Ends) → Sounds e → Sounds (far_moves e)
sounds-far e h =
    record {
      near_ranges = grind arith;
      far_ranges = h.far_ranges;
      near = sound-taker e.near _ h.near_ranges h.near;
      far = sound-after e.far.terms h.far_ranges offer e.far.link h.far;
    }

-- What is known of the numbers of a sender and its receiver, when all frames were lost.
pub record Between (u : ℕ) (contents : List (List ℕ)) (n m : Endpoint) : Type 0 where
  pub ranges : IsInRange n.terms
  pub kept : n.link.contents ≡ contents
  pub low : n.link.a ≤ m.link.r
  pub high : m.link.r ≤ n.link.s
  pub near : n.link.s ≤ n.link.a + 127
  pub delivered : m.delivered ≡ take m.link.r n.link.contents
  pub sizes : All (λ octets. length octets ≤ m.terms.n201) n.link.contents
  pub left : length n.link.contents ≤ m.link.r + u

-- Both are ready, what was sent is taken, and at most u contents are unsent.
pub record Recovered (u : ℕ) (cn cm : List (List ℕ)) (e : Ends) : Type 0 where
  pub near : IsReady e.near
  pub far : IsReady e.far
  pub there : IsTaken e.near e.far
  pub back : IsTaken e.far e.near
  pub near_left : HasUnsent u e.near
  pub far_left : HasUnsent u e.far
  pub near_kept : e.near.link.contents ≡ cn
  pub far_kept : e.far.link.contents ≡ cm

-- a turn keeps it
pub recovered-far : (u : ℕ) (cn cm : List (List ℕ)) (e : Ends) → Recovered u cn cm e → Recovered u cn cm (far_moves e)
recovered-far u cn cm e h = grind (arith, moves, ready-taker, ready-giver, taken, takes, no-more)

-- an end that has recovered
pub ready-7 : (n : Endpoint) (a s : ℕ) (p : Bool) (running : Option LinkTimer) (ds : List (List ℕ)) → IsInRange n.terms → IsSound n.terms (in_7 n [] a s p running ds).link
    → IsReady (in_7 n [] a s p running ds)
ready-7 n a s p running ds ranges sound = grind arith

-- room for a frame, and for a second one
pub room-0 : (x : Endpoint) → IsInRange x.terms → nat_lt 0 x.terms.control ≡ true
room-0 x h = let low : 2 ≤ x.terms.control = h.control_low in lt-ltb 0 x.terms.control (omega arith)

pub room-1 : (x : Endpoint) → IsInRange x.terms → nat_lt 1 x.terms.control ≡ true
room-1 x h = let low : 2 ≤ x.terms.control = h.control_low in lt-ltb 1 x.terms.control (omega arith)

-- the other's V(R), from V(A) on and from itself on
pub names-a : (x y : Endpoint) {v : ℕ} {cs : List (List ℕ)} → Between v cs x y → named x.link.a x.link.s (seq y.link.r) ≡ Some y.link.r
names-a x y h = named-number x.link.a x.link.s y.link.r h.low h.high h.near

pub names-r : (x y : Endpoint) {v : ℕ} {cs : List (List ℕ)} → Between v cs x y → named y.link.r x.link.s (seq y.link.r) ≡ Some y.link.r
names-r x y h = let low : x.link.a ≤ y.link.r = h.low in let near : x.link.s ≤ x.link.a + 127 = h.near in named-number y.link.r x.link.s y.link.r (omega arith) h.high (omega arith)

module _ (u : ℕ) (cn cm : List (List ℕ)) (n m : Endpoint) (there : Between u cn n m) (back : Between u cm m n) where
  -- Both ask: two rounds.
  module _ (bn bm : Bool) where
    abbrev both_ask : Ends
    both_ask = record { near = in_8 n (enquiry n.link.r ∷ []) bn n.link.a false n.delivered; far = in_8 m (enquiry m.link.r ∷ []) bm m.link.a false m.delivered }

    abbrev both_answered : Ends
    both_answered =
        record { near = in_7 (going_back m.link.r n) [] m.link.r m.link.r false (Some T203) n.delivered; far = in_7 (going_back n.link.r m) [] n.link.r n.link.r false (Some T203) m.delivered }

    abbrev ask_1 : Ends
    ask_1 = record { near = in_8 n [] bn n.link.a false n.delivered; far = in_8 m (enquiry m.link.r ∷ reply m.link.r ∷ []) false n.link.r false m.delivered }

    abbrev ask_2 : Ends
    ask_2 = record { near = in_8 n (reply n.link.r ∷ []) false m.link.r false n.delivered; far = in_8 m (reply m.link.r ∷ []) false n.link.r false m.delivered }

    abbrev ask_3 : Ends
    ask_3 = record { near = in_8 n [] false m.link.r false n.delivered; far = in_7 (going_back n.link.r m) (reply m.link.r ∷ []) n.link.r n.link.r false (Some T203) m.delivered }

    one : near_moves both_ask ≡ ask_1
    one =
        ap (λ y. record { near = in_8 n [] bn n.link.a false n.delivered; far = y })
        (asked-8 false m (enquiry m.link.r ∷ []) bm m.link.a false m.delivered n.terms n.link.r n.link.r (room-1 m back.ranges) (names-a m n back))

    two : far_moves ask_1 ≡ ask_2
    two =
        ap (λ x. record { near = x; far = in_8 m (reply m.link.r ∷ []) false n.link.r false m.delivered })
        (asked-8 false n [] bn n.link.a false n.delivered m.terms m.link.r m.link.r (room-0 n there.ranges) (names-a n m there))

    three : near_moves ask_2 ≡ ask_3
    three =
        ap (λ y. record { near = in_8 n [] false m.link.r false n.delivered; far = y })
        (answered-8 false m (reply m.link.r ∷ []) false n.link.r false m.delivered n.terms n.link.r n.link.r (names-r m n back))

    four : far_moves ask_3 ≡ both_answered
    four =
        ap (λ x. record { near = x; far = in_7 (going_back n.link.r m) [] n.link.r n.link.r false (Some T203) m.delivered })
        (answered-8 false n [] false m.link.r false n.delivered m.terms m.link.r m.link.r (names-r n m there))

    all-four : far_moves (near_moves (far_moves (near_moves both_ask))) ≡ both_answered
    all-four = ap far_moves (ap near_moves (ap far_moves one ∙ two) ∙ three) ∙ four

    pub both-recover : Sounds both_ask → Recovered u cn cm (far_moves (near_moves (far_moves (near_moves both_ask))))
    both-recover h =
        let s = subst Sounds all-four (sounds-far (near_moves (far_moves (near_moves both_ask))) (sounds-near (far_moves (near_moves both_ask)) (sounds-far (near_moves both_ask) (sounds-near both_ask h)))) in
        grind (arith, all-four, ready-7)

  -- Near asks, and far has nothing outstanding: one round.
  module _ (bn p : Bool) (running : Option LinkTimer) (all : m.link.s ≤ m.link.a) where
    abbrev near_asks : Ends
    near_asks = record { near = in_8 n (enquiry n.link.r ∷ []) bn n.link.a false n.delivered; far = in_7 m [] m.link.a m.link.s p running m.delivered }

    abbrev replies : Ends
    replies = record { near = in_8 n [] bn n.link.a false n.delivered; far = in_7 m (reply m.link.r ∷ []) m.link.a m.link.s false (cond (m.link.a == m.link.s) (Some T203) running) m.delivered }

    abbrev near_answered : Ends
    near_answered = record { near = in_7 (going_back m.link.r n) [] m.link.r m.link.r false (Some T203) n.delivered; far = in_7 m [] m.link.a m.link.s false (cond (m.link.a == m.link.s) (Some T203) running) m.delivered }

    asks : near_moves near_asks ≡ replies
    asks =
        let at : n.link.r ≡ m.link.a = omega (arith, all) in
        ap (λ y. record { near = in_8 n [] bn n.link.a false n.delivered; far = y })
        (asked-7 false m m.link.a m.link.s p running m.delivered n.terms n.link.r (room-0 m back.ranges) (names-a m n back ∙ ap Some at))

    answers : far_moves replies ≡ near_answered
    answers =
        ap (λ x. record { near = x; far = in_7 m [] m.link.a m.link.s false (cond (m.link.a == m.link.s) (Some T203) running) m.delivered })
        (answered-8 false n [] bn n.link.a false n.delivered m.terms m.link.r m.link.r (names-a n m there))

    pub near-recovers : Sounds near_asks → Recovered u cn cm (far_moves (near_moves near_asks))
    near-recovers h =
        let s = subst Sounds (ap far_moves asks ∙ answers) (sounds-far (near_moves near_asks) (sounds-near near_asks h)) in
        grind (arith, asks, answers, ready-7)

  -- Far asks, and near has nothing outstanding: a round and a half, after which far's turn is as any other.
  -- what far has made of near's frame
  record Heard (m' : Endpoint) (s' : ℕ) (a' : ℕ) (p : Bool) (ds : List (List ℕ)) : Type 0 where
    terms : m'.terms ≡ m.terms
    contents : m'.link.contents ≡ m.link.contents
    sent : m'.link.s ≡ m.link.s
    names : named a' m.link.s (seq n.link.r) ≡ Some n.link.r
    received : m'.link.r ≡ s'
    delivered : ds ≡ take s' n.link.contents
    owed : n.link.a < s' → p ≡ true
    left : length n.link.contents ≤ s' + u

  module _ (all : n.link.s ≤ n.link.a) where
    abbrev heard : ℕ → LinkCounts → Endpoint → ℕ → ℕ → Bool → Bool → Option LinkTimer → List (List ℕ) → Ends
    heard g k m' s' a' b p running ds = record { near = in_7 (tallied g k n) [] n.link.a s' false running n.delivered; far = in_8 m' (enquiry m.link.r ∷ []) b a' p ds }

    module _ (g : ℕ) (k : LinkCounts) (m' : Endpoint) (s' a' : ℕ) (b p : Bool) (running : Option LinkTimer) (ds : List (List ℕ)) (up : n.link.a ≤ s') (few : s' ≤ n.link.a + 127) (h : Heard m' s' a' p ds) where
      abbrev later : Option LinkTimer
      later = cond (n.link.a == s') (Some T203) running

      abbrev replied : Ends
      replied = record { near = in_7 (tallied g k n) (reply n.link.r ∷ []) n.link.a s' false later n.delivered; far = in_8 m' [] b a' p ds }

      abbrev far_answered : Ends
      far_answered = record { near = in_7 (tallied g k n) [] n.link.a s' false later n.delivered; far = in_7 (going_back n.link.r m') [] n.link.r n.link.r p (Some T203) ds }

      asked : far_moves (heard g k m' s' a' b p running ds) ≡ replied
      asked =
          let at : n.link.a ≡ m.link.r = omega (arith, all) in
          ap (λ x. record { near = x; far = in_8 m' [] b a' p ds })
          (asked-7 false (tallied g k n) n.link.a s' false running n.delivered m'.terms m.link.r (room-0 n there.ranges)
          (subst (λ i. named n.link.a s' (seq i) ≡ Some n.link.a) at (named-number n.link.a s' n.link.a (omega arith) up few)))

      answered : near_moves replied ≡ far_answered
      answered =
          ap (λ y. record { near = in_7 (tallied g k n) [] n.link.a s' false later n.delivered; far = y })
          (answered-8 false m' [] b a' p ds n.terms n.link.r n.link.r (subst (λ s. named a' s (seq n.link.r) ≡ Some n.link.r) (sym h.sent) h.names))

      far-recovered : Sounds (heard g k m' s' a' b p running ds) → Recovered u cn cm (near_moves (far_moves (heard g k m' s' a' b p running ds)))
      far-recovered sounds =
          let s = subst Sounds (ap near_moves asked ∙ answered) (sounds-near (far_moves (heard g k m' s' a' b p running ds)) (sounds-far (heard g k m' s' a' b p running ds) sounds)) in
          grind (arith, near_moves, asked, answered, ready-7)

    module _ (bm : Bool) where
      abbrev far_asks : Ends
      far_asks = record { near = plain_end n; far = in_8 m (enquiry m.link.r ∷ []) bm m.link.a false m.delivered }

      at-r : n.link.s ≡ m.link.r
      at-r = grind arith

      -- by what near gives
      by-information : may_send_information n.terms (plain n.link) ≡ true → Sounds far_asks → Recovered u cn cm (near_moves (far_moves (near_moves far_asks)))
      by-information may sounds =
          let parts = and_parts (nat_lt (n.link.s - n.link.a) n.terms.k) (nat_lt n.link.s (length n.link.contents)) may in
          let unsent : n.link.s < length n.link.contents = ltb-true n.link.s (length n.link.contents) parts.1 in
          let octets = unwrap_or (slice_get n.link.contents n.link.s) [] in
          let next : near_moves far_asks ≡ heard (n.link.again - 1) (with_information_sent n.link.again n.link.counts) (with_one_more m) (n.link.s + 1) n.link.r bm true (with_information n.link).running (m.delivered ++ octets ∷ []) =
          ap (λ x. record { near = without_first x; far = with_first_of x.way (in_8 m (enquiry m.link.r ∷ []) bm m.link.a false m.delivered) }) (gives-information false false n may)
          ∙ ap (λ y. record { near = record n { link = with_information n.link; way = [] }; far = y })
          (informed-8 m (enquiry m.link.r ∷ []) bm m.link.a false m.delivered n.terms n.link n.link.r
          (le-ltb m.terms.n201 (length octets) (fits-at m.terms.n201 n.link.contents n.link.s there.sizes))
          (eq-eqb (seq n.link.s).value (seq m.link.r).value (ap (λ i. (seq i).value) at-r)) (names-a m n back)) in
          let left : length n.link.contents ≤ m.link.r + u = there.left in
          let one : suc n.link.s ≡ n.link.s + 1 = omega arith in
          subst (λ e. Recovered u cn cm (near_moves (far_moves e))) (sym next)
          (far-recovered (n.link.again - 1) (with_information_sent n.link.again n.link.counts) (with_one_more m) (n.link.s + 1) n.link.r bm true (with_information n.link).running (m.delivered ++ octets ∷ []) (omega (arith, at-r)) (omega (arith, at-r, all))
          (record {
            terms = refl;
            contents = refl;
            sent = refl;
            names = names-r m n back;
            received = omega (arith, at-r);
            delivered = ap (λ ds. ds ++ octets ∷ []) (there.delivered ∙ ap (λ i. take i n.link.contents) (sym at-r)) ∙ take-one n.link.contents n.link.s unsent ∙ ap (λ i. take i n.link.contents) one;
            owed = λ less. refl;
            left = omega (arith, at-r);
          }) (subst Sounds next (sounds-near far_asks sounds)))

      by-acknowledgement : may_send_information n.terms (plain n.link) ≡ false → n.link.pending ≡ true → Sounds far_asks → Recovered u cn cm (near_moves (far_moves (near_moves far_asks)))
      by-acknowledgement may owed sounds =
          let next : near_moves far_asks ≡ heard n.link.again n.link.counts m n.link.s n.link.r false false n.link.running m.delivered =
          ap (λ x. record { near = without_first x; far = with_first_of x.way (in_8 m (enquiry m.link.r ∷ []) bm m.link.a false m.delivered) }) (gives-acknowledgement false false n may owed)
          ∙ ap (λ y. record { near = record n { link = with_acknowledgement n.link; way = [] }; far = y })
          (acknowledged-8 false m (enquiry m.link.r ∷ []) bm m.link.a false m.delivered n.terms n.link n.link.r (names-a m n back)) in
          subst (λ e. Recovered u cn cm (near_moves (far_moves e))) (sym next)
          (far-recovered n.link.again n.link.counts m n.link.s n.link.r false false n.link.running m.delivered (omega (arith, at-r, there.low)) there.near
          (record {
            terms = refl;
            contents = refl;
            sent = refl;
            names = names-r m n back;
            received = sym at-r;
            delivered = there.delivered ∙ ap (λ i. take i n.link.contents) (sym at-r);
            owed = λ less. absurd (omega (arith, less, all));
            left = subst (λ i. length n.link.contents ≤ i + u) (sym at-r) there.left;
          }) (subst Sounds next (sounds-near far_asks sounds)))

      by-nothing : may_send_information n.terms (plain n.link) ≡ false → n.link.pending ≡ false → Sounds far_asks → Recovered u cn cm (near_moves (far_moves (near_moves far_asks)))
      by-nothing may owed sounds =
          let next : near_moves far_asks ≡ heard n.link.again n.link.counts m n.link.s m.link.a bm false n.link.running m.delivered =
          ap (λ x. record { near = without_first x; far = with_first_of x.way (in_8 m (enquiry m.link.r ∷ []) bm m.link.a false m.delivered) }) (gives-nothing false false n may owed) in
          subst (λ e. Recovered u cn cm (near_moves (far_moves e))) (sym next)
          (far-recovered n.link.again n.link.counts m n.link.s m.link.a bm false n.link.running m.delivered (omega (arith, at-r, there.low)) there.near
          (record {
            terms = refl;
            contents = refl;
            sent = refl;
            names = names-a m n back;
            received = sym at-r;
            delivered = there.delivered ∙ ap (λ i. take i n.link.contents) (sym at-r);
            owed = λ less. absurd (omega (arith, less, all));
            left = subst (λ i. length n.link.contents ≤ i + u) (sym at-r) there.left;
          }) (subst Sounds next (sounds-near far_asks sounds)))

      by-flags : (may owed : Bool) → may_send_information n.terms (plain n.link) ≡ may → n.link.pending ≡ owed → Sounds far_asks
          → Recovered u cn cm (near_moves (far_moves (near_moves far_asks)))
      by-flags may owed e p = grind (arith, by-information, by-acknowledgement, by-nothing)

      pub far-recovers : Sounds far_asks → Recovered u cn cm (far_moves (near_moves (far_moves (near_moves far_asks))))
      far-recovers sounds =
          recovered-far u cn cm (near_moves (far_moves (near_moves far_asks)))
          (by-flags (may_send_information n.terms (plain n.link)) n.link.pending refl refl sounds)
