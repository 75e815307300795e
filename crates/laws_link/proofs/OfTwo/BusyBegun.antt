-- Own busy begins at one of two ends that are ready: RNR goes to the other, and then what the busy end gives arrives.
use Rattle.laws_link.proofs.Vocabulary.{◌≡◌, ℕ, suc, ◌+◌, ◌-◌, ◌<◌, ◌≤◌, Bool, true, false, cond, List, [], ◌∷◌, ◌++◌, length, take, Option, Some, refl, sym, ap, subst, ◌∙◌, append-nil, arith, nat_lt, slice_get, unwrap_or, lt-ltb, le-ltb, ltb-true, and_parts, seq, named, LinkTimer, T200, ControlFrame, Terms, Link, frame, received, requested, SetBusy, Course, begun, Endpoint, Ends, with_link}
use Rattle.laws_link.proofs.Vocabulary.{LinkCounts, with_information_sent, with_first_of, without_first, sound-after, IsReady, IsTaken, HasUnsent, rounds, GetsThrough, with_near_busy, with_far_busy, ErrorCode, State, by_number, failed, acknowledged_by_information_in_7, may_send_information}
use Rattle.laws_link.proofs.OfTwo.Plain.{plain, plain_end, is_plain, with_information, information_frame, acknowledgement_frame, gives-information, gives-acknowledgement, gives-nothing}
use Rattle.laws_link.proofs.OfTwo.Halves.{named-number, fits-at}
use Rattle.laws_link.proofs.OfTwo.Arriving.{near_moves, far_moves}
use Rattle.laws_link.proofs.OfTwo.Shapes.{in_7_with, having, tallied}
use Rattle.laws_link.proofs.OfTwo.Acknowledging.{Acknowledges, by-rr, by-information}
use Rattle.laws_link.proofs.OfTwo.Recovering.{Sounds, sounds-near, sounds-far}
use Rattle.laws_link.proofs.OfTwo.Recovery.{after-round}
use Rattle.laws_link.proofs.OfTwo.BusyShapes.{busy_report, learns-7}
use Rattle.laws_link.proofs.OfTwo.BusyRounds.{Paired, Done, first-open, from-near, from-far, gets-through}

-- what the other's I-frame, or acknowledgement, is to a busy end in state 7 whose report waits
record Heeds (n : Endpoint) (ws : List ControlFrame) (x s : ℕ) (p : Bool) (ds : List (List ℕ)) (n' : Endpoint) : Type 0 where
  running : Option LinkTimer
  is : n' ≡ in_7_with true false n ws x s p running ds

module _ (n : Endpoint) (ws : List ControlFrame) (a s : ℕ) (p : Bool) (running : Option LinkTimer) (ds : List (List ℕ)) (t : Terms) (l : Link) (x : ℕ)
    (names : named a s (seq l.r) ≡ Some x) (low : a ≤ x) where
  abbrev here : Course
  here = begun (in_7_with true false n ws a s p running ds).link

  ended : (c : Course) → Acknowledges x here c → Heeds n ws x s p ds (having (in_7_with true false n ws a s p running ds) c)
  ended c h = record { running = h.running; is = ap (having (in_7_with true false n ws a s p running ds)) h.is ∙ ap (λ xs. in_7_with true false n ws x s p h.running xs) (append-nil ds) }

  drops : nat_lt n.terms.n201 (length (unwrap_or (slice_get l.contents l.s) [])) ≡ false
      → Heeds n ws x s p ds (with_link (received (frame (information_frame t l))) (in_7_with true false n ws a s p running ds))
  drops fits =
      subst (λ b. Heeds n ws x s p ds (having (in_7_with true false n ws a s p running ds) (cond b (failed n.terms ErrorCode.O here) (by_number n.terms (seq l.r) acknowledged_by_information_in_7 here))))
      (sym fits) (ended _ (by-information n.terms (seq l.r) x here names low))

  notes : Heeds n ws x s p ds (with_link (received (frame (acknowledgement_frame t l))) (in_7_with true false n ws a s p running ds))
  notes = ended _ (by-rr n.terms (seq l.r) x here names low)

-- own busy begins
abbrev reporting : Endpoint → Endpoint
reporting n = in_7_with true false n (busy_report n.link.r ∷ []) n.link.a n.link.s false n.link.running n.delivered

module _ (n : Endpoint) (h : IsReady n) where
  abbrev told : Bool → Endpoint
  told b =
      record n {
        link = record n.link { state = State.Established; own_busy = true; peer_busy = false; pending = false; waiting = cond b (busy_report n.link.r ∷ []) [] };
        way = [];
        delivered = n.delivered ++ [];
      }

one-passed : (P : Ends → Type 0) (u : ℕ) (e : Ends) → P (rounds (u + 1) (far_moves (near_moves e))) → P (rounds (u + 2) e)
one-passed P u e h =
    let count : suc (u + 1) ≡ u + 2 = omega arith in
    subst (λ i. P (rounds i e)) count (subst P (sym (after-round (u + 1) e)) h)

-- the busy end n and the other, m
module _ (u : ℕ) (n m : Endpoint) (hn : IsReady n) (hm : IsReady m) (there : IsTaken n m) (back : IsTaken m n) (un : HasUnsent u n) where
  names-r : (s' : ℕ) → m.link.s ≤ s' → s' ≤ m.link.a + 127 → named m.link.a s' (seq n.link.r) ≡ Some n.link.r
  names-r s' up within = grind (arith, named-number)

  within-m : m.link.s ≤ m.link.a + 127
  within-m = let within : m.link.s ≤ m.link.a + m.terms.k = hm.sound.within in let small : m.terms.k ≤ 127 = hm.ranges.k_high in omega arith

  delivered : m.delivered ≡ take n.link.s n.link.contents
  delivered = there.delivered ∙ ap (λ i. take i n.link.contents) there.received

  -- the busy end gives its report: then they are a pair
  abbrev reported : ℕ → LinkCounts → ℕ → ℕ → Bool → Option LinkTimer → Ends
  reported g k a s' p running =
      record { near = in_7_with true false n [] a n.link.s false running n.delivered; far = in_7_with false true (tallied g k m) [] n.link.r s' p (Some T200) m.delivered }

  pair : (g : ℕ) (k : LinkCounts) (a s' : ℕ) (p : Bool) (running : Option LinkTimer) → m.link.s ≤ s' → (a < n.link.s → p ≡ true) → Sounds (reported g k a s' p running)
      → Paired true n.link.r n.delivered n.link.contents m.link.contents (reported g k a s' p running).near (reported g k a s' p running).far
  pair g k a s' p running up owed s = grind (arith, delivered)

  -- The busy end is near.
  module _ where
    abbrev near_first : Ends
    near_first = record { near = reporting n; far = m }

    near-one : near_moves near_first ≡ reported m.link.again m.link.counts n.link.a m.link.s m.link.pending n.link.running
    near-one =
        ap (λ y. near_moves (record { near = reporting n; far = y })) (is_plain m hm)
        ∙ ap (λ y. record { near = in_7_with true false n [] n.link.a n.link.s false n.link.running n.delivered; far = y })
        (learns-7 m false [] m.link.a m.link.s m.link.pending m.link.running m.delivered n.terms n.link.r n.link.r (names-r m.link.s (omega arith) within-m))

    pub near-begun : Sounds near_first → Done true n.link.r n.delivered n.link.contents m.link.contents (rounds (u + 2) near_first).near (rounds (u + 2) near_first).far
    near-begun h =
        let e1 = reported m.link.again m.link.counts n.link.a m.link.s m.link.pending n.link.running in
        let p = pair m.link.again m.link.counts n.link.a m.link.s m.link.pending n.link.running (omega arith) there.owed (subst Sounds near-one (sounds-near near_first h)) in
        let x = first-open u true n.link.r n.delivered n.link.contents m.link.contents e1.near e1.far p un in
        one-passed (λ e. Done true n.link.r n.delivered n.link.contents m.link.contents e.near e.far) u near_first
        (subst (λ e. Done true n.link.r n.delivered n.link.contents m.link.contents (rounds (u + 1) (far_moves e)).near (rounds (u + 1) (far_moves e)).far) (sym near-one)
        (from-near u true n.link.r n.delivered n.link.contents m.link.contents (far_moves e1) x.paired x.left))

  -- It is far.
  module _ where
    abbrev far_first : Ends
    far_first = record { near = m; far = reporting n }

    abbrev far_heard : ℕ → LinkCounts → ℕ → ℕ → Bool → Option LinkTimer → Option LinkTimer → Ends
    far_heard g k a s' p running running' =
        record { near = in_7_with false false (tallied g k m) [] m.link.a s' p running' m.delivered; far = in_7_with true false n (busy_report n.link.r ∷ []) a n.link.s false running n.delivered }

    abbrev FarDone : Ends → Type 0
    FarDone e = Done true n.link.r n.delivered n.link.contents m.link.contents (rounds (u + 1) (far_moves e)).far (rounds (u + 1) (far_moves e)).near

    after-heard : (g : ℕ) (k : LinkCounts) (a s' : ℕ) (p : Bool) (running running' : Option LinkTimer) → m.link.s ≤ s' → s' ≤ m.link.a + 127 → (a < n.link.s → p ≡ true)
        → Sounds (far_heard g k a s' p running running') → FarDone (far_heard g k a s' p running running')
    after-heard g k a s' p running running' up within owed h =
        let e2 = reported g k a s' p running in
        let next : far_moves (far_heard g k a s' p running running') ≡ record { near = e2.far; far = e2.near } =
        ap (λ x. record { near = x; far = e2.near }) (learns-7 (tallied g k m) false [] m.link.a s' p running' m.delivered n.terms n.link.r n.link.r (names-r s' up within)) in
        let s = subst Sounds next (sounds-far (far_heard g k a s' p running running') h) in
        subst (λ e. Done true n.link.r n.delivered n.link.contents m.link.contents (rounds (u + 1) e).far (rounds (u + 1) e).near) (sym next)
        (from-far u true n.link.r n.delivered n.link.contents m.link.contents (record { near = e2.far; far = e2.near })
        (pair g k a s' p running up owed (record { near_ranges = s.far_ranges; far_ranges = s.near_ranges; near = s.far; far = s.near })) un)

    abbrev giving : Endpoint → Ends
    giving x = record { near = without_first x; far = with_first_of x.way (reporting n) }

    plain-first : near_moves far_first ≡ near_moves (record { near = plain_end m; far = reporting n })
    plain-first = ap (λ x. near_moves (record { near = x; far = reporting n })) (is_plain m hm)

    -- by what the other gives before
    informs : may_send_information m.terms (plain m.link) ≡ true → Sounds far_first → FarDone (near_moves far_first)
    informs may h =
        let parts = and_parts (nat_lt (m.link.s - m.link.a) m.terms.k) (nat_lt m.link.s (length m.link.contents)) may in
        let few : m.link.s - m.link.a < m.terms.k = ltb-true (m.link.s - m.link.a) m.terms.k parts.0 in
        let small : m.terms.k ≤ 127 = hm.ranges.k_high in
        let d = drops n (busy_report n.link.r ∷ []) n.link.a n.link.s false n.link.running n.delivered m.terms m.link n.link.s (grind (arith, named-number)) hn.sound.ordered
        (le-ltb n.terms.n201 (length (unwrap_or (slice_get m.link.contents m.link.s) [])) (fits-at n.terms.n201 m.link.contents m.link.s back.sizes)) in
        let running' = (with_information m.link).running in
        let next : near_moves far_first ≡ far_heard (m.link.again - 1) (with_information_sent m.link.again m.link.counts) n.link.s (m.link.s + 1) false d.running running' =
        plain-first ∙ ap giving (gives-information false false m may) ∙ ap (λ y. record { near = record m { link = with_information m.link; way = [] }; far = y }) d.is in
        subst FarDone (sym next) (after-heard (m.link.again - 1) (with_information_sent m.link.again m.link.counts) n.link.s (m.link.s + 1) false d.running running' (omega arith) (omega arith) (λ less. absurd (omega (arith, less))) (subst Sounds next (sounds-near far_first h)))

    acknowledges : may_send_information m.terms (plain m.link) ≡ false → m.link.pending ≡ true → Sounds far_first → FarDone (near_moves far_first)
    acknowledges may owed h =
        let d = notes n (busy_report n.link.r ∷ []) n.link.a n.link.s false n.link.running n.delivered m.terms m.link n.link.s (grind (arith, named-number)) hn.sound.ordered in
        let next : near_moves far_first ≡ far_heard m.link.again m.link.counts n.link.s m.link.s false d.running m.link.running =
        plain-first ∙ ap giving (gives-acknowledgement false false m may owed) ∙ ap (λ y. record { near = record m { link = record (plain m.link) { pending = false }; way = [] }; far = y }) d.is in
        subst FarDone (sym next) (after-heard m.link.again m.link.counts n.link.s m.link.s false d.running m.link.running (omega arith) within-m (λ less. absurd (omega (arith, less))) (subst Sounds next (sounds-near far_first h)))

    rests : may_send_information m.terms (plain m.link) ≡ false → m.link.pending ≡ false → Sounds far_first → FarDone (near_moves far_first)
    rests may owed h =
        let next : near_moves far_first ≡ far_heard m.link.again m.link.counts n.link.a m.link.s false n.link.running m.link.running = plain-first ∙ ap giving (gives-nothing false false m may owed) in
        subst FarDone (sym next) (after-heard m.link.again m.link.counts n.link.a m.link.s false n.link.running m.link.running (omega arith) within-m (λ less. sym owed ∙ there.owed less) (subst Sounds next (sounds-near far_first h)))

    by-flags : (may owed : Bool) → may_send_information m.terms (plain m.link) ≡ may → m.link.pending ≡ owed → Sounds far_first → FarDone (near_moves far_first)
    by-flags may owed e p = grind (arith, informs, acknowledges, rests)

    pub far-begun : Sounds far_first → Done true n.link.r n.delivered n.link.contents m.link.contents (rounds (u + 2) far_first).far (rounds (u + 2) far_first).near
    far-begun h =
        one-passed (λ e. Done true n.link.r n.delivered n.link.contents m.link.contents e.far e.near) u far_first
        (by-flags (may_send_information m.terms (plain m.link)) m.link.pending refl refl h)

-- So it is from the request on.
abbrev pub Begun : Endpoint → Endpoint → Endpoint → Endpoint → Type 0
Begun n m n' m' = GetsThrough n m n' m' × (m'.link.peer_busy ≡ true)

module _ (u : ℕ) (e : Ends) where
  pub near-through : IsReady e.near → IsReady e.far → IsTaken e.near e.far → IsTaken e.far e.near → HasUnsent u e.near
      → Begun e.near e.far (rounds (u + 2) (with_near_busy e)).near (rounds (u + 2) (with_near_busy e)).far
  near-through hn hm there back un =
      let is : with_near_busy e ≡ record { near = reporting e.near; far = e.far } = ap (λ x. record { near = x; far = e.far }) (grind (arith, is_plain, lt-ltb, in_7_with, busy_report, append-nil)) in
      let s : Sounds (with_near_busy e) =
      record { near_ranges = hn.ranges; far_ranges = hm.ranges; near = sound-after e.near.terms hn.ranges (requested SetBusy false) e.near.link hn.sound; far = hm.sound } in
      subst (λ e'. Begun e.near e.far (rounds (u + 2) e').near (rounds (u + 2) e').far) (sym is)
      ((gets-through true e.near e.far _ _ (near-begun u e.near e.far hn hm there back un (subst Sounds is s)), (near-begun u e.near e.far hn hm there back un (subst Sounds is s)).paired.taken_for))

  pub far-through : IsReady e.far → IsReady e.near → IsTaken e.far e.near → IsTaken e.near e.far → HasUnsent u e.far
      → Begun e.far e.near (rounds (u + 2) (with_far_busy e)).far (rounds (u + 2) (with_far_busy e)).near
  far-through hn hm there back un =
      let is : with_far_busy e ≡ record { near = e.near; far = reporting e.far } = ap (λ x. record { near = e.near; far = x }) (grind (arith, is_plain, lt-ltb, in_7_with, busy_report, append-nil)) in
      let s : Sounds (with_far_busy e) =
      record { near_ranges = hm.ranges; far_ranges = hn.ranges; near = hm.sound; far = sound-after e.far.terms hn.ranges (requested SetBusy false) e.far.link hn.sound } in
      subst (λ e'. Begun e.far e.near (rounds (u + 2) e').far (rounds (u + 2) e').near) (sym is)
      ((gets-through true e.far e.near _ _ (far-begun u e.far e.near hn hm there back un (subst Sounds is s)), (far-begun u e.far e.near hn hm there back un (subst Sounds is s)).paired.taken_for))
