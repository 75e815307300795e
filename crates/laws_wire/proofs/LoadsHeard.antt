-- A frame that is heard in states 7 and 8 brings no more to send than it weighs, and than the contents that it delivers
-- allow.
use Rattle.laws_wire.proofs.Vocabulary.{◌≡◌, ℕ, ◌+◌, ◌*◌, ◌≤◌, Bool, true, false, cond, ◌&&◌, IsTrue, List, length, Option, Some, None, refl, sym, subst, ◌⊎◌, inl, inr, true≢false, arith, nat_lt, Seq, named, Control, ReceiveReady, ReceiveNotReady, Reject, Parts, State, Established, TimerRecovery, LinkTimer, T203, Terms, Link, is_multiple_frame, received, course, begun, Step, ◌then◌, by_bit, Means}
use Rattle.laws_wire.proofs.Vocabulary.{named-within, T200, frame, IsSound, code_J, code_O}
use Rattle.model_link.specs.Counts.{with_reject_received}
use Rattle.model_link.specs.Machine
use Rattle.model_link.specs.Steps.{Course, nothing}
use Rattle.model_link.specs.Words
use Rattle.model_link.specs.MultipleFrame
use Rattle.model_link.specs.Established
use Rattle.model_link.specs.TimerRecovery
use Rattle.laws_wire.proofs.Loads.{answer_to, brings, load, may_reject, back, one-waits}

module _ (w : ℕ) (t : Terms) (l : Link) (sound : IsSound t l) (wide : 2 * t.k ≤ w) where
  -- the numbers are as they were, except for V(R); and there is so much to send
  record Costs (g b : ℕ) (c : Course) : Type 0 where
    contents : c.link.contents ≡ l.contents
    first : c.link.a ≡ l.a
    next : c.link.s ≡ l.s
    state : c.link.state ≡ l.state
    received : c.link.r ≡ l.r + g
    within : load w c.link ≤ b

  -- if the link is still in state 7 or 8
  record Ends (g b : ℕ) (c : Course) : Type 0 where
    ends : IsTrue (is_multiple_frame c.link.state) → (c.link.contents ≡ l.contents) × (c.link.r ≡ l.r + g) × (load w c.link ≤ b)

  at-first : Costs 0 (load w l) (begun l)
  at-first = record { contents = refl; first = refl; next = refl; state = refl; received = omega arith; within = omega arith }

  -- REJ is counted
  counted-first : Costs 0 (load w l) (Words.count with_reject_received (begun l))
  counted-first = record { contents = refl; first = refl; next = refl; state = refl; received = at-first.received; within = at-first.within }

  more : (g b b' : ℕ) (c : Course) → b ≤ b' → Costs g b c → Costs g b' c
  more g b b' c le h = let less = h.within in record { contents = h.contents; first = h.first; next = h.next; state = h.state; received = h.received; within = omega (arith, le, less) }

  answer_costs : (g b : ℕ) (c : Course) → Costs g b c → Costs g (b + 2) (Words.answer t c)
  answer_costs g b c h = grind (arith, one-waits, load)

  answered : (x : Bool) (g b : ℕ) (c : Course) → Costs g b c → Costs g (b + answer_to x) (by_bit x (Words.answer t) nothing c)
  answered true g b c h = answer_costs g b c h
  answered false g b c h = more g b (b + 0) c (omega arith) h

  peer_busy_costs : (busy : Bool) (g b : ℕ) (c : Course) → Costs g b c → Costs g b (Words.peer_busy_is busy c)
  peer_busy_costs busy g b c h = record { contents = h.contents; first = h.first; next = h.next; state = h.state; received = h.received; within = h.within }

  unsolicited_costs : (final : Bool) (g b : ℕ) (c : Course) → Costs g b c → Costs g b (Established.unsolicited t final c)
  unsolicited_costs true g b c h = record { contents = h.contents; first = h.first; next = h.next; state = h.state; received = h.received; within = h.within }
  unsolicited_costs false g b c h = h

  -- ---- what an N(R) does

  Effect : ℕ → ℕ → ℕ → Step → Type 0
  Effect n b b' f = (g : ℕ) (c : Course) → l.a ≤ n → n ≤ l.s → Costs g b c → Ends g b' (f c)

  by-number : (nr : Seq) (f : ℕ → Step) (g b b' : ℕ) → ((n : ℕ) → Effect n b b' (f n)) → (c : Course) → Costs g b c → Ends g b' (Words.by_number t nr f c)
  unfolding Effect
  by-number nr f g b b' x c h = go (named c.link.a c.link.s nr) refl
    where
      go : (o : Option ℕ) → named c.link.a c.link.s nr ≡ o → Ends g b' (elim o [ None ↦ (Words.error t code_J then Words.re_establish t) c | Some n ↦ f n c ])
      go None e = record { ends = λ up. absurd (true≢false (sym up)) }
      go (Some n) e =
          let between = named-within c.link.a c.link.s n nr e in
          x n g c (subst (λ a. a ≤ n) h.first between.0) (subst (λ s. n ≤ s) h.next between.1) h

  acknowledged : (n b : ℕ) → Effect n b b (Words.acknowledge n)
  unfolding Effect
  acknowledged n b g c low high h = record { ends = λ up. (h.contents, h.received, h.within) }

  in_7 : (n b : ℕ) → Effect n b b (Established.acknowledged_in_7 n)
  unfolding Effect
  in_7 n b g c low high h = grind arith

  by_information_7 : (n b : ℕ) → Effect n b b (Established.acknowledged_by_information_in_7 n)
  unfolding Effect
  by_information_7 n b g c low high h = grind (arith, in_7)

  rnr_7 : (n b : ℕ) → Effect n b b (Established.acknowledged_by_rnr_in_7 n)
  unfolding Effect
  rnr_7 n b g c low high h = record { ends = λ up. (h.contents, h.received, h.within) }

  rej_7 : (n b : ℕ) → Effect n b (b + w) (Established.acknowledged_by_rej_in_7 n)
  unfolding Effect
  rej_7 n b g c low high h = grind (arith, load)

  in_8 : l.state ≡ TimerRecovery → (timer : LinkTimer) (final : Bool) (n b : ℕ) → Effect n b b (TimerRecovery.acknowledged_in_8 timer final n)
  unfolding Effect
  in_8 here timer true n b g c low high h = grind (arith, load, back)
  in_8 here timer false n b g c low high h = record { ends = λ up. (h.contents, h.received, h.within) }

  looser : (n b b' : ℕ) (f : Step) → b ≤ b' → Effect n b b f → Effect n b b' f
  unfolding Effect
  looser n b b' f le x g c low high h =
      record { ends = λ up. let y = (x g c low high h).ends up in let less = y.2 in (y.0, y.1, omega (arith, le, less)) }

  -- ---- supervisory frames

  supervised : (own : MultipleFrame.Particulars) (busy b pf : Bool) (nr : Seq) (effect : Bool → ℕ → Step) (x : ℕ)
      → ((final : Bool) (g b : ℕ) (c : Course) → Costs g b c → Costs g b (own.told_of final c))
      → ((final : Bool) (n b : ℕ) → Effect n b (b + x) (effect final n))
      → (c : Course) → Costs 0 (load w l) c → Ends 0 (load w l + answer_to (b && pf) + x) (MultipleFrame.supervisory t own busy b pf nr effect c)
  supervised own busy b pf nr effect x told does c h =
      let total = load w l + answer_to (b && pf) in
      let c1 = Words.peer_busy_is busy c in
      let c2 = MultipleFrame.answered t b pf c1 in
      let final = MultipleFrame.is_final b pf in
      let h1 : Costs 0 (load w l) c1 = peer_busy_costs busy 0 (load w l) c h in
      let h2 : Costs 0 total c2 = answered (b && pf) 0 (load w l) c1 h1 in
      by-number nr (effect final) 0 total (total + x) (λ n. does final n total) (own.told_of final c2) (told final 0 total c2 h2)

  unchanged : (n b : ℕ) (f : Step) → Effect n b b f → Effect n b (b + 0) f
  unchanged n b f x = looser n b (b + 0) f (omega arith) x

  -- ---- I-frames

  -- nothing is delivered, or one contents
  Middle : ℕ → Course → Type 0
  Middle b c = Costs 0 b c ⊎ Costs 1 (b + (w + 4)) c

  in-sequence : (p : Bool) (octets : List ℕ) → Costs 1 (load w l + answer_to p + (w + 4)) (MultipleFrame.in_sequence t p octets (begun l))
  in-sequence p octets = go p
    where
      c3 : Course
      c3 = (Words.count_received then Words.rejecting_is false then Words.deliver t octets) (begun l)

      h3 : Costs 1 (load w l + (w + 2)) c3
      h3 = record { contents = refl; first = refl; next = refl; state = refl; received = refl; within = omega arith }

      go : (p : Bool) → Costs 1 (load w l + answer_to p + (w + 4)) (by_bit p (Words.answer t) (Words.pending_is true) c3)
      go true = more 1 (load w l + (w + 2) + 2) (load w l + 2 + (w + 4)) (Words.answer t c3) (omega arith) (answer_costs 1 (load w l + (w + 2)) c3 h3)
      go false = record { contents = refl; first = refl; next = refl; state = refl; received = refl; within = omega arith }

  out-of-sequence : (p : Bool) → Costs 0 (load w l + answer_to p) (MultipleFrame.out_of_sequence t p (begun l))
  out-of-sequence p = grind (arith, load, answer_to, answered, at-first, one-waits, may_reject)

  contents-cost : (ns : Seq) (p : Bool) (octets : List ℕ) → Middle (load w l + answer_to p) (MultipleFrame.contents_in_7_8 t ns p octets (begun l))
  unfolding Middle
  contents-cost ns p octets =
      one-of l.own_busy _ _ (inl (answered p 0 (load w l) (begun l) at-first))
      (one-of (MultipleFrame.is_next ns l) _ _ (inr (in-sequence p octets)) (inl (out-of-sequence p)))
    where
      one-of : (x : Bool) (u v : Course) → Costs 0 (load w l + answer_to p) u ⊎ Costs 1 (load w l + answer_to p + (w + 4)) u
          → Costs 0 (load w l + answer_to p) v ⊎ Costs 1 (load w l + answer_to p + (w + 4)) v
          → Costs 0 (load w l + answer_to p) (cond x u v) ⊎ Costs 1 (load w l + answer_to p + (w + 4)) (cond x u v)
      one-of x u v y z = grind arith

  pub record Hears (b : ℕ) (c : Course) : Type 0 where
    pub hears : IsTrue (is_multiple_frame c.link.state)
        → (c.link.contents ≡ l.contents) × (((c.link.r ≡ l.r) × (load w c.link ≤ b)) ⊎ ((c.link.r ≡ l.r + 1) × (load w c.link ≤ b + (w + 4))))

  hears-0 : (b : ℕ) (c : Course) → Ends 0 b c → Hears b c
  hears-0 b c h = record { hears = λ up. let x = h.ends up in let e = x.1 in (x.0, inl (omega (arith, e), x.2)) }

  information : (ns nr : Seq) (p : Bool) (octets : List ℕ) (f : ℕ → Step) → ((n b : ℕ) → Effect n b b (f n))
      → Hears (load w l + answer_to p) (MultipleFrame.information_in_7_8 t ns nr p octets f (begun l))
  unfolding Middle
  information ns nr p octets f x = long (nat_lt t.n201 (length octets))
    where
      total : ℕ
      total = load w l + answer_to p

      c : Course
      c = MultipleFrame.contents_in_7_8 t ns p octets (begun l)

      go : Costs 0 total c ⊎ Costs 1 (total + (w + 4)) c → Hears total (Words.by_number t nr f c)
      go (inl h) = hears-0 total (Words.by_number t nr f c) (by-number nr f 0 total total (λ n. x n total) c h)
      go (inr h) = (record { hears = λ up. let x = (by-number nr f 1 (total + (w + 4)) (total + (w + 4)) (λ n. x n (total + (w + 4))) c h).ends up in (x.0, inr (x.1, x.2)) })

      long : (b : Bool) → Hears total (cond b (MultipleFrame.failed t code_O (begun l)) (Words.by_number t nr f c))
      long true = record { hears = λ up. absurd (true≢false (sym up)) }
      long false = go (contents-cost ns p octets)

  -- ---- any frame

  within : (b b' : ℕ) (c : Course) → b ≡ b' → Hears b c → Hears b' c
  within b b' c e h = subst (λ x. Hears x c) e h

  frames-7 : (b : Bool) (octets : List ℕ) (m : ℕ) (control : Control) → Means m control → Hears (load w l + brings w b control) (Established.frame_in_7 t b octets control (begun l))
  frames-7 b octets m (ReceiveReady nr pf) e =
      within _ _ _ (omega arith) (hears-0 _ _ (supervised (Established.particulars_in_7 t) false b pf nr (Established.particulars_in_7 t).by_rr 0 unsolicited_costs (λ final n b. unchanged n b (Established.acknowledged_in_7 n) (in_7 n b)) (begun l) at-first))
  frames-7 b octets m (ReceiveNotReady nr pf) e =
      within _ _ _ (omega arith) (hears-0 _ _ (supervised (Established.particulars_in_7 t) true b pf nr (Established.particulars_in_7 t).by_rnr 0 unsolicited_costs (λ final n b. unchanged n b (Established.acknowledged_by_rnr_in_7 n) (rnr_7 n b)) (begun l) at-first))
  frames-7 b octets m (Reject nr pf) e =
      within _ _ _ (omega arith) (hears-0 _ _ (supervised (Established.particulars_in_7 t) false b pf nr (Established.particulars_in_7 t).by_rej w unsolicited_costs (λ final n b. rej_7 n b) (Words.count with_reject_received (begun l)) counted-first))
  frames-7 b octets m control e = grind (arith, information, by_information_7)

  solicited_costs : (final : Bool) (g b : ℕ) (c : Course) → Costs g b c → Costs g b (TimerRecovery.solicited final c)
  solicited_costs final g b c h = h

  frames-8 : l.state ≡ TimerRecovery → (b : Bool) (octets : List ℕ) (m : ℕ) (control : Control) → Means m control
      → Hears (load w l + brings w b control) (TimerRecovery.frame_in_8 t b octets control (begun l))
  frames-8 here b octets m (ReceiveReady nr pf) e =
      within _ _ _ (omega arith) (hears-0 _ _ (supervised (TimerRecovery.particulars_in_8 t) false b pf nr (TimerRecovery.particulars_in_8 t).by_rr 0 solicited_costs
      (λ final n b. unchanged n b (TimerRecovery.acknowledged_in_8 T203 final n) (in_8 here T203 final n b)) (begun l) at-first))
  frames-8 here b octets m (ReceiveNotReady nr pf) e =
      within _ _ _ (omega arith) (hears-0 _ _ (supervised (TimerRecovery.particulars_in_8 t) true b pf nr (TimerRecovery.particulars_in_8 t).by_rnr 0 solicited_costs
      (λ final n b. unchanged n b (TimerRecovery.acknowledged_in_8 T200 final n) (in_8 here T200 final n b)) (begun l) at-first))
  frames-8 here b octets m (Reject nr pf) e =
      within _ _ _ (omega arith) (hears-0 _ _ (supervised (TimerRecovery.particulars_in_8 t) false b pf nr (TimerRecovery.particulars_in_8 t).by_rej w solicited_costs
      (λ final n b. looser n b (b + w) (TimerRecovery.acknowledged_in_8 T203 final n) (omega arith) (in_8 here T203 final n b)) (Words.count with_reject_received (begun l)) counted-first))
  frames-8 here b octets m control e = grind (arith, information, acknowledged)

  frames-in : (here : State) → l.state ≡ here → IsTrue (is_multiple_frame here) → (b : Bool) (octets : List ℕ) (m : ℕ) (control : Control) → Means m control
      → Hears (load w l + brings w b control) (Machine.frame_in here t b octets control (begun l))
  frames-in Established at is b octets m control e = frames-7 b octets m control e
  frames-in TimerRecovery at is b octets m control e = frames-8 at b octets m control e
  frames-in other at is b octets m control e = absurd (true≢false (sym is))

  pub frame-hears : IsTrue (is_multiple_frame l.state) → (f : Parts) (m : ℕ) → Means m f.control → Hears (load w l + brings w f.address.command f.control) (course t (received (frame f)) l)
  frame-hears up f m e = frames-in l.state refl up f.address.command f.info m f.control e
