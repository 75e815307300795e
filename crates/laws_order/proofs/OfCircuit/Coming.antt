-- A frame that an end has to give, or that is on its way, comes in so many beats, whatever else is given meanwhile.
use Rattle.laws_order.proofs.Vocabulary.{◌≡◌, ℕ, ◌+◌, ◌*◌, ◌≤◌, ◌<◌, ◌⊎◌, inl, inr, Bool, true, false, cond, List, [], ◌∷◌, ◌++◌, length, drop, Option, None, Some, is_some, option_map, option_to_list, refl, sym, ap, ◌∙◌, subst, arith, append-nil, append_assoc, length-append, All, length-map, All-head, All-tail, Service, Item, idle, heard_in, Config, NextFrame, gave, frames_among, Port, gained}
use Rattle.laws_order.proofs.Vocabulary.{given_in, is_due, item_of, left_of, IsSoundPort, heard_with, Wire, stream_frame, StreamEvent, port_pull, port_octet, frame}
use Rattle.laws_wire.specs.Wire as wire
use Rattle.laws_order.specs.circuit.Circuit.{Endpoint as OctetEndpoint, port_of, happens, with_first_of, Circuit, Step as OctetStep, receives as octet_receives, StepAt as OctetStepAt, at_near, at_far, acting, turned, doing}
unfoldable use Rattle.laws_order.specs.circuit.Circuit.{doing_all}
use Rattle.laws_order.proofs.OfCircuit.AtPort.{next_of_card, pull-between, pull-put, pull-given, pull-received, card-heard, port-heard}
use Rattle.laws_order.proofs.OfCircuit.Takings.{IsMuteOf, IsMute, one_pull, one_hearing, mute-talk, count_near, count_far}
use Rattle.laws_order.proofs.OfCircuit.OneWay.{Carries, framed, frames_among-append, one-heard, out, all-given}
use Rattle.laws_order.proofs.OfCircuit.Projected.{as_wire, hearing_means, act_meant, doing_meant, Fits, Follows, other-way, one-done}
unfoldable use Rattle.laws_order.proofs.OfCircuit.Projected.{doings_meant}
use Rattle.laws_order.proofs.OfCircuit.Ran.{Ran, config, sound-port, on-line}
use Rattle.laws_order.proofs.OfCircuit.Takings.{is_taking_of, takings, takings-append}

-- ---- no frame is taken

abbrev pub IsDeaf : Option wire.Step → Wire → Type 0
IsDeaf None f = Unit {0}
IsDeaf (Some act) f = is_taking_of act f ≡ false

deaf-near : (o : Option wire.Step) (f : Wire) → takings (option_to_list (option_map wire.at_near o)) f ≡ 0 → IsDeaf o f
unfolding takings
deaf-near o f e = grind (arith, is_taking_of)

deaf-far : (o : Option wire.Step) (f : Wire) → takings (option_to_list (option_map wire.at_far o)) f ≡ 0 → IsDeaf o (wire.turned f)
unfolding takings
deaf-far o f e = grind (arith, is_taking_of)

module _ (n201 : ℕ) where
  -- an octet that is heard there ends nothing
  deaf-heard : (c d : Config) (fits : Fits n201 c) (fits_far : Fits n201 d) (w : Circuit) (there back : List (List ℕ)) → Follows n201 c d w there back → (value : ℕ) (more : List ℕ)
      → w.far.way ≡ value ∷ more → IsDeaf (hearing_means (value ∷ more) w.near) (as_wire there back w) → gained n201 (port_of w.near).received value ≡ None
  deaf-heard c d fits fits_far w there back h value more is deaf =
      let size : w.near.card.card.config.n201 ≡ n201 = ap (λ (x : Config). x.n201) (config c fits.ranged w.near h.near) ∙ fits.size in
      go (gained n201 (port_of w.near).received value) refl
      (subst (λ n. IsDeaf (cond (is_some (gained n (port_of w.near).received value)) (Some wire.receives) None) (as_wire there back w)) size deaf)
    where
      go : (o : Option StreamEvent) → gained n201 (port_of w.near).received value ≡ o → IsDeaf (cond (is_some o) (Some wire.receives) None) (as_wire there back w) → o ≡ None
      go None e deaf = refl
      go (Some event) e deaf =
          let x =
          one-heard n201 (port_of w.far) w.far.way (port_of w.near).received back h.comes (subst (λ n. IsSoundPort n (port_of w.far)) fits_far.size (sound-port d fits_far.ranged w.far h.far))
          (on-line d fits_far.ranged w.far h.far) value more event is e in
          grind arith

  -- What each act at either end keeps, so does a list of them in which no frame is taken; what is done is counted.
  module _ (P : Circuit → ℕ → ℕ → Type 0) (one two : OctetStep → ℕ)
      (near : (c d : Config) → Fits n201 c → Fits n201 d → (w : Circuit) (there back : List (List ℕ)) → Follows n201 c d w there back → (act : OctetStep) → IsMuteOf act
      → IsDeaf (act_meant act w) (as_wire there back w) → (a b : ℕ) → P w a b → P (acting act w) (a + one act) b)
      (far : (c d : Config) → Fits n201 c → Fits n201 d → (w : Circuit) (there back : List (List ℕ)) → Follows n201 c d w there back → (act : OctetStep) → IsMuteOf act
      → IsDeaf (act_meant act (turned w)) (wire.turned (as_wire there back w)) → (a b : ℕ) → P w a b → P (turned (acting act (turned w))) a (b + two act)) where
    one-kept : (c d : Config) → Fits n201 c → Fits n201 d → (w : Circuit) (there back : List (List ℕ)) → Follows n201 c d w there back → (x : OctetStepAt) → IsMute x
        → takings (option_to_list (doing_meant x w)) (as_wire there back w) ≡ 0 → (a b : ℕ) → P w a b → P (doing x w) (a + count_near one (x ∷ [])) (b + count_far two (x ∷ []))
    one-kept c d fits fits_far w there back h (at_near act) mute none a b p =
        subst (λ m. P (acting act w) m (b + 0)) (let e : a + one act ≡ a + (one act + 0) = omega arith in e)
        (subst (λ m. P (acting act w) (a + one act) m) (let e : b ≡ b + 0 = omega arith in e)
        (near c d fits fits_far w there back h act mute (deaf-near (act_meant act w) (as_wire there back w) none) a b p))
    one-kept c d fits fits_far w there back h (at_far act) mute none a b p =
        let w' = turned (acting act (turned w)) in
        subst (λ m. P w' m (b + (two act + 0))) (let e : a ≡ a + 0 = omega arith in e)
        (subst (λ m. P w' a m) (let e : b + two act ≡ b + (two act + 0) = omega arith in e)
        (far c d fits fits_far w there back h act mute (deaf-far (act_meant act (turned w)) (as_wire there back w) none) a b p))

    near-one : (x : OctetStepAt) (ds : List OctetStepAt) → count_near one (x ∷ ds) ≡ count_near one (x ∷ []) + count_near one ds
    near-one x ds = grind arith

    far-one : (x : OctetStepAt) (ds : List OctetStepAt) → count_far two (x ∷ ds) ≡ count_far two (x ∷ []) + count_far two ds
    far-one x ds = grind arith

    all-kept : (service : Service) (tei : ℕ) (c d : Config) (fits : Fits n201 c) (fits_far : Fits n201 d) (ds : List OctetStepAt) → All IsMute ds → (w : Circuit) (there back : List (List ℕ))
        → Follows n201 c d w there back → takings (doings_meant ds w) (as_wire there back w) ≡ 0 → (a b : ℕ) → P w a b → P (doing_all ds w) (a + count_near one ds) (b + count_far two ds)
    unfolding doing_all doings_meant
    all-kept service tei c d fits fits_far [] all w there back h none a b p = grind arith
    all-kept service tei c d fits fits_far (x ∷ ds) all w there back h none a b p =
        let first = option_to_list (doing_meant x w) in
        let others = doings_meant ds (doing x w) in
        let f = as_wire there back w in
        let mute = All-head IsMute x ds all in
        let both : takings (first ++ others) f ≡ takings first f + takings others (wire.doing_all first f) = takings-append first others f in
        let now : takings first f ≡ 0 = omega (arith, both, none) in
        let later : takings others (wire.doing_all first f) ≡ 0 = omega (arith, both, none) in
        let go = one-done n201 service tei c d fits fits_far x (mute-talk service tei x mute) w there back h in
        let rest =
        all-kept service tei c d fits fits_far ds (All-tail IsMute x ds all) (doing x w) go.there' go.back' go.follows (subst (λ f. takings others f ≡ 0) go.same later)
        (a + count_near one (x ∷ [])) (b + count_far two (x ∷ [])) (one-kept c d fits fits_far w there back h x mute now a b p) in
        let near : a + count_near one (x ∷ []) + count_near one ds ≡ a + count_near one (x ∷ ds) = (let e = near-one x ds in omega (arith, e)) in
        let far : b + count_far two (x ∷ []) + count_far two ds ≡ b + count_far two (x ∷ ds) = (let e = far-one x ds in omega (arith, e)) in
        subst (λ m. P (doing_all ds (doing x w)) (a + count_near one (x ∷ ds)) m) far
        (subst (λ m. P (doing_all ds (doing x w)) m (b + count_far two (x ∷ []) + count_far two ds)) near rest)

  -- ---- from one end to the other: a sender's pulls and a receiver's hearings are counted

  pub record Kept (R : OctetEndpoint → OctetEndpoint → ℕ → ℕ → Type 0) : Type 0 where
    pub on_pull : (c : Config) (fits : Fits n201 c) (s r : OctetEndpoint) → Ran c s → (a b : ℕ) → R s r a b → R (happens port_pull s) r (a + 1) b
    pub on_octet : (c : Config) (fits : Fits n201 c) (s r : OctetEndpoint) → Ran c s → (value : ℕ) → gained n201 (port_of s).received value ≡ None → (a b : ℕ) → R s r a b → R (happens (port_octet value) s) r a b
    pub on_way : (s r : OctetEndpoint) (way : List ℕ) (a b : ℕ) → R s r a b → R (record s { way = way }) r a b
    pub there_pull : (c : Config) (fits : Fits n201 c) (s r : OctetEndpoint) → Ran c r → (a b : ℕ) → R s r a b → R s (happens port_pull r) a b
    pub there_octet : (c : Config) (fits : Fits n201 c) (s r : OctetEndpoint) → Ran c r → (value : ℕ) → gained n201 (port_of r).received value ≡ None → (a b : ℕ) → R s r a b → R s (happens (port_octet value) r) a (b + 1)
    pub there_none : (s r : OctetEndpoint) (frames : List (List ℕ)) → Carries n201 (port_of s) s.way (port_of r).received frames → s.way ≡ [] → (a b : ℕ) → R s r a b → R s r a (b + 1)
    pub there_way : (s r : OctetEndpoint) (way : List ℕ) (a b : ℕ) → R s r a b → R s (record r { way = way }) a b

  module _ (R : OctetEndpoint → OctetEndpoint → ℕ → ℕ → Type 0) (kept : Kept R) where
    sender : (c d : Config) (fits : Fits n201 c) (fits_far : Fits n201 d) (w : Circuit) (there back : List (List ℕ)) (h : Follows n201 c d w there back) (act : OctetStep) → IsMuteOf act
        → IsDeaf (act_meant act w) (as_wire there back w) → (a b : ℕ) → R w.near w.far a b → R (acting act w).near (acting act w).far (a + one_pull act) b
    sender c d fits fits_far w there back h octet_receives mute deaf a b p = go w.far.way refl deaf
      where
        same : a ≡ a + 0
        same = omega arith

        go : (way : List ℕ) → w.far.way ≡ way → IsDeaf (hearing_means way w.near) (as_wire there back w) → R (with_first_of way w.near) (record w.far { way = drop 1 way }) (a + 0) b
        go [] is deaf = subst (λ m. R w.near (record w.far { way = [] }) m b) same (kept.there_way w.near w.far [] a b p)
        go (value ∷ more) is deaf =
            subst (λ m. R (happens (port_octet value) w.near) (record w.far { way = more }) m b) same
            (kept.there_way (happens (port_octet value) w.near) w.far more a b (kept.on_octet c fits w.near w.far h.near value (deaf-heard c d fits fits_far w there back h value more is deaf) a b p))
    sender c d o fits_far w there back h act mute deaf a b p = grind arith

    receiver : (c d : Config) (fits : Fits n201 c) (fits_far : Fits n201 d) (w : Circuit) (there back : List (List ℕ)) (h : Follows n201 c d w there back) (act : OctetStep) → IsMuteOf act
        → IsDeaf (act_meant act w) (as_wire there back w) → (a b : ℕ) → R w.far w.near a b → R (acting act w).far (acting act w).near a (b + one_hearing act)
    receiver c d fits fits_far w there back h octet_receives mute deaf a b p = go w.far.way refl deaf
      where
        go : (way : List ℕ) → w.far.way ≡ way → IsDeaf (hearing_means way w.near) (as_wire there back w) → R (record w.far { way = drop 1 way }) (with_first_of way w.near) a (b + 1)
        go [] is deaf = kept.on_way w.far w.near [] a (b + 1) (kept.there_none w.far w.near back h.comes is a b p)
        go (value ∷ more) is deaf =
            let none = deaf-heard c d fits fits_far w there back h value more is deaf in
            kept.on_way w.far (happens (port_octet value) w.near) more a (b + 1) (kept.there_octet c fits w.far w.near h.near value none a b p)
    receiver c d o fits_far w there back h act mute deaf a b p = grind arith

    -- from the near end, and from the far one
    pub from-near : (service : Service) (tei : ℕ) (c d : Config) (fits : Fits n201 c) (fits_far : Fits n201 d) (ds : List OctetStepAt) → All IsMute ds → (w : Circuit) (there back : List (List ℕ))
        → Follows n201 c d w there back → takings (doings_meant ds w) (as_wire there back w) ≡ 0 → R w.near w.far 0 0
        → R (doing_all ds w).near (doing_all ds w).far (0 + count_near one_pull ds) (0 + count_far one_hearing ds)
    from-near service tei c d fits fits_far ds all w there back h none p =
        all-kept (λ w a b. R w.near w.far a b) one_pull one_hearing sender
        (λ c d fits fits_far w there back h act mute deaf a b p. receiver d c fits_far fits (turned w) back there (other-way n201 c d w there back h) act mute deaf a b p)
        service tei c d fits fits_far ds all w there back h none 0 0 p

    pub from-far : (service : Service) (tei : ℕ) (c d : Config) (fits : Fits n201 c) (fits_far : Fits n201 d) (ds : List OctetStepAt) → All IsMute ds → (w : Circuit) (there back : List (List ℕ))
        → Follows n201 c d w there back → takings (doings_meant ds w) (as_wire there back w) ≡ 0 → R w.far w.near 0 0
        → R (doing_all ds w).far (doing_all ds w).near (0 + count_far one_pull ds) (0 + count_near one_hearing ds)
    from-far service tei c d fits fits_far ds all w there back h none p =
        all-kept (λ w a b. R w.far w.near b a) one_hearing one_pull (λ c d fits fits_far w there back h act mute deaf a b p. receiver c d fits fits_far w there back h act mute deaf b a p)
        (λ c d fits fits_far w there back h act mute deaf a b p. sender d c fits_far fits (turned w) back there (other-way n201 c d w there back h) act mute deaf b a p)
        service tei c d fits fits_far ds all w there back h none 0 0 p

  -- ---- a sender's part, so long as the receiver hears no frame

  module _ (events : List StreamEvent) (Q : OctetEndpoint → ℕ → Type 0)
      (pull : (c : Config) (fits : Fits n201 c) (s : OctetEndpoint) → Ran c s → (a : ℕ) → Q s a → Q (happens port_pull s) (a + 1))
      (hear : (c : Config) (fits : Fits n201 c) (s : OctetEndpoint) → Ran c s → (value : ℕ) → gained n201 (port_of s).received value ≡ None → (a : ℕ) → Q s a → Q (happens (port_octet value) s) a)
      (way : (s : OctetEndpoint) (way : List ℕ) (a : ℕ) → Q s a → Q (record s { way = way }) a) where
    abbrev pub Both : OctetEndpoint → OctetEndpoint → ℕ → ℕ → Type 0
    Both s r a b = Q s a × (heard_in n201 (port_of r).received ≡ events)

    sending : Kept Both
    sending = record {
      on_pull = λ c fits s r ran a b p. (pull c fits s ran a p.0, p.1);
      on_octet = λ c fits s r ran value none a b p. (hear c fits s ran value none a p.0, p.1);
      on_way = λ s r left a b p. (way s left a p.0, p.1);
      there_pull = λ c fits s r ran a b p. (p.0, ap (heard_in n201) (pull-received n201 c fits r ran) ∙ p.1);
      there_octet = λ c fits s r ran value none a b p. (p.0, heard-so c fits r ran value none p.1);
      there_none = λ s r frames carries empty a b p. p;
      there_way = λ s r left a b p. p;
    }
      where
        heard-so : (c : Config) (fits : Fits n201 c) (r : OctetEndpoint) → Ran c r → (value : ℕ) → gained n201 (port_of r).received value ≡ None → heard_in n201 (port_of r).received ≡ events
            → heard_in n201 (port_of (happens (port_octet value) r)).received ≡ events
        heard-so c fits r ran value none same = grind (arith, port-heard, heard_with, option_to_list, append-nil)

  -- ---- the frame that it has to give is put on the line

  abbrev pub frames_of : OctetEndpoint → List (List ℕ)
  frames_of s = frames_among (port_of s).items

  more-frames : (items : List Item) (i : Item) → length (frames_among (items ++ i ∷ [])) ≡ length (frames_among items) + length (frames_among (i ∷ []))
  more-frames items i = ap length (frames_among-append items (i ∷ [])) ∙ length-append (frames_among items) (frames_among (i ∷ []))

  module _ (f : NextFrame) (most n : ℕ) where
    -- more frames than so many have been put there, or the frame waits, and so few bits are left before it
    abbrev pub Puts : OctetEndpoint → ℕ → Type 0
    Puts s a = (n < length (frames_of s)) ⊎ ((next_of_card s.line s.card.card ≡ gave (Some f)) × (length (left_of (port_of s)) + 8 * a ≤ most) × (n ≤ length (frames_of s)))

    puts-pulled : (c : Config) (fits : Fits n201 c) (s : OctetEndpoint) → Ran c s → (a : ℕ) → Puts s a → Puts (happens port_pull s) (a + 1)
    puts-pulled c fits s ran a p = go (is_due (port_of s)) refl p
      where
        s' : OctetEndpoint
        s' = happens port_pull s

        go : (due : Bool) → is_due (port_of s) ≡ due → Puts s a → Puts s' (a + 1)
        go false e (inl more) = let same = ap (λ is. length (frames_among is)) (pull-between n201 c fits s ran e).1 in inl (omega (arith, more, same))
        go false e (inr (waits, few, low)) =
            let x = pull-between n201 c fits s ran e in
            inr (ap (next_of_card s.line) x.0 ∙ waits, omega (arith, few, x.2), omega (arith, low, (ap (λ is. length (frames_among is)) x.1)))
        go true e (inl more) =
            let i = item_of (given_in (next_of_card s.line s.card.card)) in
            let same = ap (λ is. length (frames_among is)) (pull-put n201 c fits s ran e) ∙ more-frames (port_of s).items i in inl (omega (arith, more, same))
        go true e (inr (waits, few, low)) =
            let same = ap (λ is. length (frames_among is)) (pull-put n201 c fits s ran e ∙ ap (λ a. (port_of s).items ++ item_of (given_in a) ∷ []) waits) ∙ more-frames (port_of s).items (frame f.octets) in
            inl (omega (arith, low, same))

    puts-heard : (c : Config) (fits : Fits n201 c) (s : OctetEndpoint) → Ran c s → (value : ℕ) → gained n201 (port_of s).received value ≡ None → (a : ℕ) → Puts s a → Puts (happens (port_octet value) s) a
    puts-heard c fits s ran value none a p = grind (arith, port-heard, next_of_card, card-heard)

    pub putting : (events : List StreamEvent) → Kept (λ s r a b. Puts s a × (heard_in n201 (port_of r).received ≡ events))
    putting events = sending events Puts puts-pulled puts-heard (λ s way a p. p)

  -- ---- something is put on the line behind what is there

  module _ (items : List Item) (most : ℕ) where
    pub record IsBehind (now : List Item) : Type 0 where
      pub item : Item
      pub more : List Item
      pub is : now ≡ items ++ (item ∷ more)

    abbrev pub GoesOn : OctetEndpoint → ℕ → Type 0
    GoesOn s a = IsBehind (port_of s).items ⊎ (((port_of s).items ≡ items) × (length (left_of (port_of s)) + 8 * a ≤ most))

    goes-pulled : (c : Config) (fits : Fits n201 c) (s : OctetEndpoint) → Ran c s → (a : ℕ) → GoesOn s a → GoesOn (happens port_pull s) (a + 1)
    goes-pulled c fits s ran a p = go (is_due (port_of s)) refl p
      where
        s' : OctetEndpoint
        s' = happens port_pull s

        go : (due : Bool) → is_due (port_of s) ≡ due → GoesOn s a → GoesOn s' (a + 1)
        go false e (inl behind) = inl (record { item = behind.item; more = behind.more; is = (pull-between n201 c fits s ran e).1 ∙ behind.is })
        go false e (inr (same, few)) = let x = pull-between n201 c fits s ran e in let less = x.2 in inr (x.1 ∙ same, omega (arith, few, less))
        go true e (inl behind) =
            let i = item_of (given_in (next_of_card s.line s.card.card)) in
            inl (record {
              item = behind.item;
              more = behind.more ++ i ∷ [];
              is = pull-put n201 c fits s ran e ∙ ap (λ is. is ++ i ∷ []) behind.is ∙ append_assoc items (behind.item ∷ behind.more) (i ∷ []);
            })
        go true e (inr (same, few)) =
            let i = item_of (given_in (next_of_card s.line s.card.card)) in inl (record { item = i; more = []; is = pull-put n201 c fits s ran e ∙ ap (λ is. is ++ i ∷ []) same })

    goes-heard : (c : Config) (fits : Fits n201 c) (s : OctetEndpoint) → Ran c s → (value : ℕ) → gained n201 (port_of s).received value ≡ None → (a : ℕ) → GoesOn s a → GoesOn (happens (port_octet value) s) a
    goes-heard c fits s ran value none a p = grind (arith, port-heard)

    pub going : (events : List StreamEvent) → Kept (λ s r a b. GoesOn s a × (heard_in n201 (port_of r).received ≡ events))
    going events = sending events GoesOn goes-pulled goes-heard (λ s way a p. p)

  -- then all frames that were there have been given, to the last bit
  all-idle : (i : Item) (more : List Item) → frames_among (i ∷ more) ≡ [] → (front : List Item) × ((i ∷ more) ≡ front ++ idle ∷ [])
  all-idle idle [] e = ([], refl)
  all-idle idle (j ∷ more) e = let x = all-idle j more e in (idle ∷ x.0, ap (λ is. idle ∷ is) x.1)
  all-idle (frame octets) more e = absurd (cc e)

  module _ (c : Config) (fits : Fits n201 c) (s : OctetEndpoint) (ran : Ran c s) (received : List ℕ) (frames : List (List ℕ)) (carries : Carries n201 (port_of s) s.way received frames) where
    its-sound : IsSoundPort n201 (port_of s)
    its-sound = subst (λ n. IsSoundPort n (port_of s)) fits.size (sound-port c fits.ranged s ran)

    pub all-out : (items : List Item) (most : ℕ) → IsBehind items most (port_of s).items → length (frames_among items) ≤ length (heard_in n201 (port_of s).given)
    all-out items most behind = go (frames_among (behind.item ∷ behind.more)) refl
      where
        new : List Item
        new = behind.item ∷ behind.more

        all : frames_of s ≡ frames_among items ++ frames_among new
        all = ap frames_among behind.is ∙ frames_among-append items new

        sum : length (frames_of s) ≡ length (frames_among items) + length (frames_among new)
        sum = ap length all ∙ length-append (frames_among items) (frames_among new)

        go : (fs : List (List ℕ)) → frames_among new ≡ fs → length (frames_among items) ≤ length (heard_in n201 (port_of s).given)
        go [] none =
            let x = all-idle behind.item behind.more none in
            let heard =
            all-given n201 (port_of s) s.way received frames carries its-sound (on-line c fits.ranged s ran) (items ++ x.0)
            (behind.is ∙ ap (λ is. items ++ is) x.1 ∙ sym (append_assoc items x.0 (idle ∷ []))) in
            omega (arith, (sym (length-map (frames_of s) (λ octets. stream_frame octets)) ∙ ap length heard), sum)
        go (f ∷ fs) some =
            let x = out n201 (port_of s) s.way received frames carries its-sound (on-line c fits.ranged s ran) in
            let one = x.one in
            let few = ap length some in
            let long = sym (length-map (frames_of s) (λ octets. stream_frame octets)) ∙ ap length x.heard ∙ length-append (heard_in n201 (port_of s).given) (framed x.on_its_way) in
            grind (arith, length-map, sum)

  -- ---- what was given is heard

  module _ (first : List ℕ) (way : ℕ) (events : List StreamEvent) where
    abbrev pub Hears : OctetEndpoint → OctetEndpoint → ℕ → ℕ → Type 0
    Hears s r a b =
        ((more : List ℕ) × ((port_of s).given ≡ first ++ more)) × ((length first + b ≤ length (port_of r).received + way) ⊎ (length first ≤ length (port_of r).received))
        × (heard_in n201 (port_of r).received ≡ events)

    pub hearing : Kept Hears
    hearing = record {
      on_pull = λ c fits s r ran a b p. let x = pull-given n201 c fits s ran in ((p.0.0 ++ x.0 ∷ [], x.1 ∙ ap (λ l. l ++ x.0 ∷ []) p.0.1 ∙ append_assoc first p.0.0 (x.0 ∷ [])), p.1, p.2);
      on_octet = λ c fits s r ran value none a b p. ((p.0.0, ap (λ (q : Port). q.given) (port-heard n201 c fits s ran value none) ∙ p.0.1), p.1, p.2);
      on_way = λ s r left a b p. p;
      there_pull = λ c fits s r ran a b p. let same = pull-received n201 c fits r ran in (p.0, subst (Come b) (sym same) p.1, ap (heard_in n201) same ∙ p.2);
      there_octet = λ c fits s r ran value none a b p. let q = heard-so c fits r ran value none b p.1 p.2 in (p.0, q.0, q.1);
      there_none = λ s r frames carries empty a b p. (p.0, inr (all-there s r frames carries empty p.0.0 p.0.1), p.2);
      there_way = λ s r left a b p. p;
    }
      where
        Come : ℕ → List ℕ → Type 0
        Come b received = (length first + b ≤ length received + way) ⊎ (length first ≤ length received)

        heard-so : (c : Config) (fits : Fits n201 c) (r : OctetEndpoint) → Ran c r → (value : ℕ) → gained n201 (port_of r).received value ≡ None → (b : ℕ) → Come b (port_of r).received
            → heard_in n201 (port_of r).received ≡ events → Come (b + 1) (port_of (happens (port_octet value) r)).received × (heard_in n201 (port_of (happens (port_octet value) r)).received ≡ events)
        heard-so c fits r ran value none b come same = grind (arith, port-heard, Come, length-append, heard_with, option_to_list, append-nil)

        all-there : (s r : OctetEndpoint) (frames : List (List ℕ)) → Carries n201 (port_of s) s.way (port_of r).received frames → s.way ≡ [] → (more : List ℕ) → (port_of s).given ≡ first ++ more
            → length first ≤ length (port_of r).received
        all-there s r frames carries empty more given = grind (arith, length-append, append-nil)
