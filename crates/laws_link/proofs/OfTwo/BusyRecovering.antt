-- After the loss of all frames, an end that is busy itself and the other, of which each asks or has nothing outstanding:
-- after a round or two both are in state 7, and what was sent is taken.
use Rattle.laws_link.proofs.Vocabulary.{◌≡◌, ℕ, suc, ◌+◌, ◌-◌, ◌<◌, ◌≤◌, Bool, true, false, cond, ◌==◌, List, [], ◌∷◌, ◌++◌, length, take, Option, Some, refl, sym, ap, subst, ◌∙◌, eq-eqb, arith, nat_lt, slice_get, unwrap_or, le-ltb, ltb-true, and_parts, seq, named, LinkTimer, T200, T203, IsSound, Endpoint, Ends, with_first_of, without_first, HasUnsent, may_send_information}
use Rattle.laws_link.proofs.Vocabulary.{LinkCounts, with_information_sent}
use Rattle.laws_link.proofs.OfTwo.Plain.{plain, plain_with, plain_end, plain_end_with, with_information_with, gives-information, gives-acknowledgement, gives-nothing}
use Rattle.laws_link.proofs.OfTwo.Halves.{named-number, fits-at, take-one}
use Rattle.laws_link.proofs.OfTwo.Arriving.{near_moves, far_moves}
use Rattle.laws_link.proofs.OfTwo.Shapes.{enquiry, reply, enquiry_with, reply_with, in_8, in_8_with, in_7, in_7_with, going_back, tallied, with_one_more, asked-8, answered-8, acknowledged-8, informed-8, asked-7}
use Rattle.laws_link.proofs.OfTwo.Recovering.{Sounds, sounds-near, sounds-far, Between, room-0, room-1, names-a, names-r}
use Rattle.laws_link.proofs.OfTwo.BusyShapes.{heeds-8, heeds-7, learns-8, drops-8}
use Rattle.laws_link.proofs.OfTwo.BusyRounds.{Paired}

-- The busy end is n.
module _ (u v : ℕ) (cn cm : List (List ℕ)) (n m : Endpoint) (there : Between u cn n m) (back : Between v cm m n) where
  abbrev pub PairedNear : Bool → Ends → Type 0
  PairedNear busy e = Paired busy n.link.r n.delivered n.link.contents m.link.contents e.near e.far

  abbrev pub PairedFar : Bool → Ends → Type 0
  PairedFar busy e = Paired busy n.link.r n.delivered n.link.contents m.link.contents e.far e.near

  -- with at most u unsent
  abbrev pub NearReady : Bool → Ends → Type 0
  NearReady busy e = PairedNear busy e × HasUnsent u e.near

  abbrev pub FarReady : Bool → Ends → Type 0
  FarReady busy e = PairedFar busy e × HasUnsent u e.far

  -- Both ask: two rounds, whoever begins.
  module _ (bn bm : Bool) where
    abbrev asking_n : Endpoint
    asking_n = in_8_with true n (enquiry_with true n.link.r ∷ []) bn n.link.a false n.delivered

    abbrev asking_m : Endpoint
    asking_m = in_8 m (enquiry m.link.r ∷ []) bm m.link.a false m.delivered

    abbrev answered_n : Endpoint
    answered_n = in_7_with true false (going_back m.link.r n) [] m.link.r m.link.r false (Some T203) n.delivered

    abbrev answered_m : Endpoint
    answered_m = in_7_with false true (going_back n.link.r m) [] n.link.r n.link.r false (Some T200) m.delivered

    -- the busy end is near
    abbrev n_1 : Ends
    n_1 = record { near = in_8_with true n [] bn n.link.a false n.delivered; far = in_8 m (enquiry m.link.r ∷ reply m.link.r ∷ []) true n.link.r false m.delivered }

    abbrev n_2 : Ends
    n_2 = record { near = in_8_with true n (reply_with true n.link.r ∷ []) false m.link.r false n.delivered; far = in_8 m (reply m.link.r ∷ []) true n.link.r false m.delivered }

    abbrev n_3 : Ends
    n_3 = record { near = in_8_with true n [] false m.link.r false n.delivered; far = in_7_with false true (going_back n.link.r m) (reply m.link.r ∷ []) n.link.r n.link.r false (Some T200) m.delivered }

    near-1 : near_moves (record { near = asking_n; far = asking_m }) ≡ n_1
    near-1 =
        ap (λ y. record { near = in_8_with true n [] bn n.link.a false n.delivered; far = y })
        (heeds-8 m (enquiry m.link.r ∷ []) bm m.link.a false m.delivered n.terms n.link.r n.link.r (room-1 m back.ranges) (names-a m n back))

    near-2 : far_moves n_1 ≡ n_2
    near-2 =
        ap (λ x. record { near = x; far = in_8 m (reply m.link.r ∷ []) true n.link.r false m.delivered })
        (asked-8 true n [] bn n.link.a false n.delivered m.terms m.link.r m.link.r (room-0 n there.ranges) (names-a n m there))

    near-3 : near_moves n_2 ≡ n_3
    near-3 =
        ap (λ y. record { near = in_8_with true n [] false m.link.r false n.delivered; far = y })
        (learns-8 m (reply m.link.r ∷ []) true n.link.r false m.delivered n.terms n.link.r n.link.r (names-r m n back))

    near-4 : far_moves n_3 ≡ record { near = answered_n; far = answered_m }
    near-4 =
        ap (λ x. record { near = x; far = answered_m })
        (answered-8 true n [] false m.link.r false n.delivered m.terms m.link.r m.link.r (names-r n m there))

    near-all : far_moves (near_moves (far_moves (near_moves (record { near = asking_n; far = asking_m })))) ≡ record { near = answered_n; far = answered_m }
    near-all = ap far_moves (ap near_moves (ap far_moves near-1 ∙ near-2) ∙ near-3) ∙ near-4

    pub both-near : Sounds (record { near = asking_n; far = asking_m }) → NearReady true (far_moves (near_moves (far_moves (near_moves (record { near = asking_n; far = asking_m })))))
    both-near h =
        let e0 : Ends = record { near = asking_n; far = asking_m } in
        let s = subst Sounds near-all (sounds-far (near_moves (far_moves (near_moves e0))) (sounds-near (far_moves (near_moves e0)) (sounds-far (near_moves e0) (sounds-near e0 h)))) in
        subst (NearReady true) (sym near-all) ((grind arith), there.left)

    -- it is far
    abbrev f_1 : Ends
    f_1 = record { near = in_8 m [] bm m.link.a false m.delivered; far = in_8_with true n (enquiry_with true n.link.r ∷ reply_with true n.link.r ∷ []) false m.link.r false n.delivered }

    abbrev f_2 : Ends
    f_2 = record { near = in_8 m (reply m.link.r ∷ []) true n.link.r false m.delivered; far = in_8_with true n (reply_with true n.link.r ∷ []) false m.link.r false n.delivered }

    abbrev f_3 : Ends
    f_3 = record { near = in_8 m [] true n.link.r false m.delivered; far = in_7_with true false (going_back m.link.r n) (reply_with true n.link.r ∷ []) m.link.r m.link.r false (Some T203) n.delivered }

    far-1 : near_moves (record { near = asking_m; far = asking_n }) ≡ f_1
    far-1 =
        ap (λ y. record { near = in_8 m [] bm m.link.a false m.delivered; far = y })
        (asked-8 true n (enquiry_with true n.link.r ∷ []) bn n.link.a false n.delivered m.terms m.link.r m.link.r (room-1 n there.ranges) (names-a n m there))

    far-2 : far_moves f_1 ≡ f_2
    far-2 =
        ap (λ x. record { near = x; far = in_8_with true n (reply_with true n.link.r ∷ []) false m.link.r false n.delivered })
        (heeds-8 m [] bm m.link.a false m.delivered n.terms n.link.r n.link.r (room-0 m back.ranges) (names-a m n back))

    far-3 : near_moves f_2 ≡ f_3
    far-3 =
        ap (λ y. record { near = in_8 m [] true n.link.r false m.delivered; far = y })
        (answered-8 true n (reply_with true n.link.r ∷ []) false m.link.r false n.delivered m.terms m.link.r m.link.r (names-r n m there))

    far-4 : far_moves f_3 ≡ record { near = answered_m; far = answered_n }
    far-4 =
        ap (λ x. record { near = x; far = answered_n })
        (learns-8 m [] true n.link.r false m.delivered n.terms n.link.r n.link.r (names-r m n back))

    far-all : far_moves (near_moves (far_moves (near_moves (record { near = asking_m; far = asking_n })))) ≡ record { near = answered_m; far = answered_n }
    far-all = ap far_moves (ap near_moves (ap far_moves far-1 ∙ far-2) ∙ far-3) ∙ far-4

    pub both-far : Sounds (record { near = asking_m; far = asking_n }) → FarReady true (far_moves (near_moves (far_moves (near_moves (record { near = asking_m; far = asking_n })))))
    both-far h =
        let e0 : Ends = record { near = asking_m; far = asking_n } in
        let s = subst Sounds far-all (sounds-far (near_moves (far_moves (near_moves e0))) (sounds-near (far_moves (near_moves e0)) (sounds-far (near_moves e0) (sounds-near e0 h)))) in
        subst (FarReady true) (sym far-all) ((grind arith), there.left)

  -- The busy end asks, and the other has nothing outstanding. It is near: one round.
  module _ (bn p : Bool) (running : Option LinkTimer) where
    abbrev busy_asks : Ends
    busy_asks = record { near = in_8_with true n (enquiry_with true n.link.r ∷ []) bn n.link.a false n.delivered; far = in_7 m [] m.link.a m.link.s p running m.delivered }

    abbrev other_replies : Ends
    other_replies = record { near = in_8_with true n [] bn n.link.a false n.delivered; far = in_7_with false true m (reply m.link.r ∷ []) n.link.r m.link.s false (Some T200) m.delivered }

    abbrev busy_answered : Ends
    busy_answered = record { near = in_7_with true false (going_back m.link.r n) [] m.link.r m.link.r false (Some T203) n.delivered; far = in_7_with false true m [] n.link.r m.link.s false (Some T200) m.delivered }

    busy-1 : near_moves busy_asks ≡ other_replies
    busy-1 =
        ap (λ y. record { near = in_8_with true n [] bn n.link.a false n.delivered; far = y })
        (heeds-7 m false [] m.link.a m.link.s p running m.delivered n.terms n.link.r n.link.r (room-0 m back.ranges) (names-a m n back))

    busy-2 : far_moves other_replies ≡ busy_answered
    busy-2 =
        ap (λ x. record { near = x; far = in_7_with false true m [] n.link.r m.link.s false (Some T200) m.delivered })
        (answered-8 true n [] bn n.link.a false n.delivered m.terms m.link.r m.link.r (names-a n m there))

    pub busy-near : Sounds busy_asks → NearReady true (far_moves (near_moves busy_asks))
    busy-near h =
        let s = subst Sounds (ap far_moves busy-1 ∙ busy-2) (sounds-far (near_moves busy_asks) (sounds-near busy_asks h)) in
        grind (arith, far_moves, busy-1, busy-2)

  -- The other asks, and the busy end, far, has nothing outstanding: one round.
  module _ (bm : Bool) (running : Option LinkTimer) (all : n.link.s ≤ n.link.a) where
    abbrev other_asks : Ends
    other_asks = record { near = in_8 m (enquiry m.link.r ∷ []) bm m.link.a false m.delivered; far = in_7_with true false n [] n.link.a n.link.s false running n.delivered }

    abbrev later : Option LinkTimer
    later = cond (n.link.a == n.link.s) (Some T203) running

    abbrev busy_replies : Ends
    busy_replies = record { near = in_8 m [] bm m.link.a false m.delivered; far = in_7_with true false n (reply_with true n.link.r ∷ []) n.link.a n.link.s false later n.delivered }

    abbrev other_answered : Ends
    other_answered = record { near = in_7_with false true (going_back n.link.r m) [] n.link.r n.link.r false (Some T200) m.delivered; far = in_7_with true false n [] n.link.a n.link.s false later n.delivered }

    other-1 : near_moves other_asks ≡ busy_replies
    other-1 =
        ap (λ y. record { near = in_8 m [] bm m.link.a false m.delivered; far = y })
        (asked-7 true n n.link.a n.link.s false running n.delivered m.terms m.link.r (room-0 n there.ranges) (names-a n m there ∙ ap Some (grind arith)))

    other-2 : far_moves busy_replies ≡ other_answered
    other-2 =
        ap (λ x. record { near = x; far = in_7_with true false n [] n.link.a n.link.s false later n.delivered })
        (learns-8 m [] bm m.link.a false m.delivered n.terms n.link.r n.link.r (names-a m n back))

    pub other-near : Sounds other_asks → FarReady true (far_moves (near_moves other_asks))
    other-near h =
        let s = subst Sounds (ap far_moves other-1 ∙ other-2) (sounds-far (near_moves other_asks) (sounds-near other_asks h)) in
        grind (arith, other-1, other-2)

  -- The other asks, and the busy end, near, has nothing outstanding: a round and a half, after which the other's turn is as any.
  module _ (bm : Bool) (all : n.link.s ≤ n.link.a) (quiet : n.link.pending ≡ false) where
    abbrev other_began : Ends
    other_began = record { near = plain_end_with true false n; far = in_8 m (enquiry m.link.r ∷ []) bm m.link.a false m.delivered }

    abbrev with_received : ℕ → Bool → Endpoint
    with_received r q = record m { link = record m.link { r = r; rejecting = q } }

    -- what far has made of near's frame, if there was one
    abbrev heard : ℕ → LinkCounts → ℕ → ℕ → Bool → Bool → Bool → Option LinkTimer → List (List ℕ) → Ends
    heard g k r' a' q b p running ds =
        record { near = in_7_with true false (tallied g k n) [] n.link.a r' false running n.delivered; far = in_8 (with_received r' q) (enquiry m.link.r ∷ []) b a' p ds }

    module _ (g : ℕ) (k : LinkCounts) (r' a' : ℕ) (q b p : Bool) (running : Option LinkTimer) (ds : List (List ℕ)) where
      abbrev then_later : Option LinkTimer
      then_later = cond (n.link.a == r') (Some T203) running

      abbrev then_replied : Ends
      then_replied = record { near = in_7_with true false (tallied g k n) (reply_with true n.link.r ∷ []) n.link.a r' false then_later n.delivered; far = in_8 (with_received r' q) [] b a' p ds }

      abbrev then_answered : Ends
      then_answered = record { near = in_7_with true false (tallied g k n) [] n.link.a r' false then_later n.delivered; far = in_7_with false true (going_back n.link.r (with_received r' q)) [] n.link.r n.link.r p (Some T200) ds }

      heard-near : named a' m.link.s (seq n.link.r) ≡ Some n.link.r → n.link.a ≤ r' → r' ≤ n.link.a + 127 → ds ≡ take r' n.link.contents → (n.link.a < r' → p ≡ true)
          → length n.link.contents ≤ r' + u → Sounds (heard g k r' a' q b p running ds) → NearReady true (near_moves (far_moves (heard g k r' a' q b p running ds)))
      heard-near names up within delivered owed left h =
          let one : far_moves (heard g k r' a' q b p running ds) ≡ then_replied =
          ap (λ x. record { near = x; far = in_8 (with_received r' q) [] b a' p ds })
          (asked-7 true (tallied g k n) n.link.a r' false running n.delivered m.terms m.link.r (room-0 n there.ranges)
          (subst (λ i. named n.link.a r' (seq i) ≡ Some n.link.a) (grind arith) (named-number n.link.a r' n.link.a (omega arith) up within))) in
          let two : near_moves then_replied ≡ then_answered =
          ap (λ y. record { near = in_7_with true false (tallied g k n) [] n.link.a r' false then_later n.delivered; far = y })
          (learns-8 (with_received r' q) [] b a' p ds n.terms n.link.r n.link.r names) in
          let both = ap near_moves one ∙ two in
          let s = subst Sounds both (sounds-near (far_moves (heard g k r' a' q b p running ds)) (sounds-far (heard g k r' a' q b p running ds) h)) in
          grind arith

    abbrev BeganReady : Type 0
    BeganReady = NearReady true (near_moves (far_moves (near_moves other_began)))

    began-information : may_send_information n.terms (plain_with true false n.link) ≡ true → Sounds other_began → BeganReady
    began-information may sounds =
        let parts = and_parts (nat_lt (n.link.s - n.link.a) n.terms.k) (nat_lt n.link.s (length n.link.contents)) may in
        let unsent : n.link.s < length n.link.contents = ltb-true n.link.s (length n.link.contents) parts.1 in
        let octets = unwrap_or (slice_get n.link.contents n.link.s) [] in
        let running = (with_information_with true false n.link).running in
        let one : suc n.link.s ≡ m.link.r + 1 = omega arith in
        let next : near_moves other_began ≡ heard (n.link.again - 1) (with_information_sent n.link.again n.link.counts) (m.link.r + 1) n.link.r false bm true running (m.delivered ++ octets ∷ []) =
        ap (λ x. record { near = without_first x; far = with_first_of x.way (in_8 m (enquiry m.link.r ∷ []) bm m.link.a false m.delivered) }) (gives-information true false n may)
        ∙ ap (λ y. record { near = record n { link = with_information_with true false n.link; way = [] }; far = y })
        (informed-8 m (enquiry m.link.r ∷ []) bm m.link.a false m.delivered n.terms n.link n.link.r
        (le-ltb m.terms.n201 (length octets) (fits-at m.terms.n201 n.link.contents n.link.s there.sizes))
        (eq-eqb (seq n.link.s).value (seq m.link.r).value (ap (λ i. (seq i).value) (grind arith))) (names-a m n back))
        ∙ ap (λ i. record { near = in_7_with true false (tallied (n.link.again - 1) (with_information_sent n.link.again n.link.counts) n) [] n.link.a (i + 1) false running n.delivered; far = in_8 (with_one_more m) (enquiry m.link.r ∷ []) bm n.link.r true (m.delivered ++ octets ∷ []) }) (grind arith) in
        let left : length n.link.contents ≤ m.link.r + u = there.left in
        subst (λ e. NearReady true (near_moves (far_moves e))) (sym next)
        (heard-near (n.link.again - 1) (with_information_sent n.link.again n.link.counts) (m.link.r + 1) n.link.r false bm true running (m.delivered ++ octets ∷ []) (names-r m n back) (omega arith) (omega arith)
        (ap (λ ds. ds ++ octets ∷ []) (there.delivered ∙ ap (λ i. take i n.link.contents) (sym (grind arith))) ∙ take-one n.link.contents n.link.s unsent ∙ ap (λ i. take i n.link.contents) one)
        (λ less. refl) (omega (arith, left)) (subst Sounds next (sounds-near other_began sounds)))

    began-nothing : may_send_information n.terms (plain_with true false n.link) ≡ false → Sounds other_began → BeganReady
    began-nothing may sounds =
        let next : near_moves other_began ≡ heard n.link.again n.link.counts m.link.r m.link.a m.link.rejecting bm false n.link.running m.delivered =
        ap (λ x. record { near = without_first x; far = with_first_of x.way (in_8 m (enquiry m.link.r ∷ []) bm m.link.a false m.delivered) }) (gives-nothing true false n may quiet)
        ∙ ap (λ i. record { near = in_7_with true false n [] n.link.a i false n.link.running n.delivered; far = in_8 m (enquiry m.link.r ∷ []) bm m.link.a false m.delivered }) (grind arith) in
        subst (λ e. NearReady true (near_moves (far_moves e))) (sym next)
        (heard-near n.link.again n.link.counts m.link.r m.link.a m.link.rejecting bm false n.link.running m.delivered (names-a m n back) there.low (omega arith) there.delivered
        (λ less. absurd (omega (arith, less))) there.left (subst Sounds next (sounds-near other_began sounds)))

    pub other-began : Sounds other_began → BeganReady
    other-began = grind (arith, began-information, began-nothing)

  -- The busy end asks, far, and the other has nothing outstanding: a round and a half, after which the busy end's turn is as any.
  module _ (bn : Bool) (all : m.link.s ≤ m.link.a) where
    abbrev busy_began : Ends
    busy_began = record { near = plain_end m; far = in_8_with true n (enquiry_with true n.link.r ∷ []) bn n.link.a false n.delivered }

    -- what far has made of near's frame, if there was one
    abbrev noted : ℕ → LinkCounts → ℕ → ℕ → Bool → Option LinkTimer → Ends
    noted g k s' a' b running =
        record { near = in_7 (tallied g k m) [] m.link.a s' false running m.delivered; far = in_8_with true n (enquiry_with true n.link.r ∷ []) b a' false n.delivered }

    module _ (g : ℕ) (k : LinkCounts) (s' a' : ℕ) (b : Bool) (running : Option LinkTimer) where
      abbrev noted_replied : Ends
      noted_replied = record { near = in_7_with false true (tallied g k m) (reply m.link.r ∷ []) n.link.r s' false (Some T200) m.delivered; far = in_8_with true n [] b a' false n.delivered }

      abbrev noted_answered : Ends
      noted_answered = record { near = in_7_with false true (tallied g k m) [] n.link.r s' false (Some T200) m.delivered; far = in_7_with true false (going_back m.link.r n) [] m.link.r m.link.r false (Some T203) n.delivered }

      noted-far : named a' n.link.s (seq m.link.r) ≡ Some m.link.r → m.link.s ≤ s' → s' ≤ m.link.a + 127 → Sounds (noted g k s' a' b running)
          → FarReady true (near_moves (far_moves (noted g k s' a' b running)))
      noted-far names up within h =
          let low : m.link.a ≤ n.link.r = back.low in
          let one : far_moves (noted g k s' a' b running) ≡ noted_replied =
          ap (λ x. record { near = x; far = in_8_with true n [] b a' false n.delivered })
          (heeds-7 (tallied g k m) false [] m.link.a s' false running m.delivered n.terms n.link.r n.link.r (room-0 m back.ranges) (named-number m.link.a s' n.link.r low (omega arith) within)) in
          let two : near_moves noted_replied ≡ noted_answered =
          ap (λ y. record { near = in_7_with false true (tallied g k m) [] n.link.r s' false (Some T200) m.delivered; far = y })
          (answered-8 true n [] b a' false n.delivered m.terms m.link.r m.link.r names) in
          let both = ap near_moves one ∙ two in
          let s = subst Sounds both (sounds-near (far_moves (noted g k s' a' b running)) (sounds-far (noted g k s' a' b running) h)) in
          grind arith

    abbrev NotedReady : Type 0
    NotedReady = FarReady true (near_moves (far_moves (near_moves busy_began)))

    abbrev giving_far : Endpoint → Ends
    giving_far x = record { near = without_first x; far = with_first_of x.way (in_8_with true n (enquiry_with true n.link.r ∷ []) bn n.link.a false n.delivered) }

    noted-information : may_send_information m.terms (plain m.link) ≡ true → Sounds busy_began → NotedReady
    noted-information may sounds =
        let running = (with_information_with false false m.link).running in
        let next : near_moves busy_began ≡ noted (m.link.again - 1) (with_information_sent m.link.again m.link.counts) (m.link.s + 1) m.link.r bn running =
        ap giving_far (gives-information false false m may)
        ∙ ap (λ y. record { near = record m { link = with_information_with false false m.link; way = [] }; far = y })
        (drops-8 n (enquiry_with true n.link.r ∷ []) bn n.link.a false n.delivered m.terms m.link m.link.r
        (le-ltb n.terms.n201 (length (unwrap_or (slice_get m.link.contents m.link.s) [])) (fits-at n.terms.n201 m.link.contents m.link.s back.sizes)) (names-a n m there)) in
        subst (λ e. FarReady true (near_moves (far_moves e))) (sym next)
        (noted-far (m.link.again - 1) (with_information_sent m.link.again m.link.counts) (m.link.s + 1) m.link.r bn running (names-r n m there) (omega arith) (omega (arith, all)) (subst Sounds next (sounds-near busy_began sounds)))

    noted-note : may_send_information m.terms (plain m.link) ≡ false → m.link.pending ≡ true → Sounds busy_began → NotedReady
    noted-note may owed sounds =
        let next : near_moves busy_began ≡ noted m.link.again m.link.counts m.link.s m.link.r false m.link.running =
        ap giving_far (gives-acknowledgement false false m may owed)
        ∙ ap (λ y. record { near = record m { link = record (plain m.link) { pending = false }; way = [] }; far = y })
        (acknowledged-8 true n (enquiry_with true n.link.r ∷ []) bn n.link.a false n.delivered m.terms m.link m.link.r (names-a n m there)) in
        subst (λ e. FarReady true (near_moves (far_moves e))) (sym next)
        (noted-far m.link.again m.link.counts m.link.s m.link.r false m.link.running (names-r n m there) (omega arith) back.near (subst Sounds next (sounds-near busy_began sounds)))

    noted-nothing : may_send_information m.terms (plain m.link) ≡ false → m.link.pending ≡ false → Sounds busy_began → NotedReady
    noted-nothing may owed sounds =
        let next : near_moves busy_began ≡ noted m.link.again m.link.counts m.link.s n.link.a bn m.link.running = ap giving_far (gives-nothing false false m may owed) in
        subst (λ e. FarReady true (near_moves (far_moves e))) (sym next)
        (noted-far m.link.again m.link.counts m.link.s n.link.a bn m.link.running (names-a n m there) (omega arith) back.near (subst Sounds next (sounds-near busy_began sounds)))

    pub busy-began : Sounds busy_began → NotedReady
    busy-began = grind (arith, noted-information, noted-note, noted-nothing)

  -- Neither asks.
  pub none-asks : (p : Bool) (running running' : Option LinkTimer) → n.link.s ≤ n.link.a
      → IsSound n.terms (in_7_with true false n [] n.link.a n.link.s false running n.delivered).link → IsSound m.terms (in_7 m [] m.link.a m.link.s p running' m.delivered).link
      → Paired false n.link.r n.delivered n.link.contents m.link.contents (in_7_with true false n [] n.link.a n.link.s false running n.delivered) (in_7 m [] m.link.a m.link.s p running' m.delivered)
  none-asks p running running' all sn sm = grind arith
