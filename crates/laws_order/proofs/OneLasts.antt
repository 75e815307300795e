-- The far end lasts in its establishment, and that of the near end is over: what happens at the far end.
use Rattle.laws_order.proofs.Vocabulary.{◌≡◌, ℕ, ◌+◌, ◌≤◌, cond, IsTrue, List, [], ◌∷◌, ◌++◌, length, take, Option, None, refl, sym, ap, ◌∙◌, subst, append-nil, true≢false, inl, inr, arith, option_to_list, Seq, seq, is_seq, Control, Information, ReceiveReady, ReceiveNotReady, Reject, Service, Parts, State, Terms, Link, is_multiple_frame, frames_of, Means, frame-taken, came, hears}
use Rattle.laws_order.proofs.Vocabulary.{expiry, request, next, link_of, terms, after_is_sound, Seen, seen, offer-tells_nothing, frames_given, Endpoint, Wire, requests, expires, sends, receives, loses, answered, happens, frames_by, turned, sides-turned, flat_map-append, Event, of_link_in, of_link_at, AnyStep, step, disturbed, elsewhere, IsElsewhere, IsPossibleAt, elsewhere_on, any_acting, seen_by}
use Rattle.laws_order.proofs.Vocabulary.{data_noted, StaysEstablished, of_link_on, FramesEvent, link_frame, LinkEvent, cleared, requested, offer, expired, received, after, course, told, at, event-delivers, none-delivered, timer-delivers, own_side, heard_side}
use Rattle.laws_order.proofs.Does.{Has, Does, IsKind}
use Rattle.laws_order.proofs.Down.{Speaks}
use Rattle.laws_order.proofs.Lasting.{speaks-report, speaks-plain, speaks-answered, Brings, Brought, brought-lower, brought-tail, Takes, takes-so}
use Rattle.laws_order.proofs.Leading.{NotHeard, not-heard, other-line}
use Rattle.laws_order.proofs.LinkEnds.{Ended, sabme-ends, disc-ends}
use Rattle.laws_order.proofs.NearOver.{Lasts, IsFirst, other_first, its_first, first-is, comes-so}
use Rattle.laws_order.proofs.Pairs.{request-grows, timer-same, offer-same, link_here, proper, way_here, endpoint-does}
use Rattle.laws_order.proofs.Putting.{Each, AnsweredAt, Awaited, each-back, each-append}
use Rattle.laws_order.proofs.Saying.{NotUi, each-as, event-grows, on_line}

none-awaited : (to : State) → IsTrue (is_multiple_frame to) → Awaited Speaks to
none-awaited to up = grind arith

-- Each N(R) means its value.
its-value : (nr : Seq) → nr ≡ seq nr.value
its-value nr = is_seq nr nr.value (let low = nr.in_range in omega (arith, low))

module _ (service : Service) (tei : ℕ) where
  abbrev line_of : Endpoint → List Parts
  line_of s = on_line service tei s

  module _ (contents : List (List ℕ)) (a k : ℕ) (small : k ≤ 127) where
    abbrev Last : Wire → List (List ℕ) → Type 0
    Last w dm = Lasts service tei contents a k small w dm

    -- The far end, at which something happens, as it sees the two.
    module _ (near far : Endpoint) (dm : List (List ℕ)) (e : Event) (way : List (List ℕ)) (near-way : List (List ℕ)) where
      abbrev w : Wire
      w = record { near = record near { way = near-way }; far = far }

      abbrev w' : Wire
      w' = record { near = record near { way = way }; far = happens e far }

      abbrev t : List Seen
      t = seen e (answered e far)

      abbrev l : Link
      l = link_here service tei far

      abbrev l' : Link
      l' = link_here service tei (happens e far)

      abbrev Own : Terms
      Own = terms far.card.config service tei

      -- what it takes of the line leaves this of it
      record After (d : Option (List ℕ)) : Type 0 where
        top : ℕ
        took : Takes contents top l.r l'.r d
        rest : Brought contents (a + k) top (line_of (record near { way = way }))

      module _ (h : Last w dm) (stays : StaysEstablished service tei t) where
        then-lasts : (d : Option (List ℕ)) → After d → IsTrue (is_multiple_frame l'.state) → Each Speaks (line_of (happens e far)) → data_noted service tei t ≡ option_to_list d
            → Last w' (dm ++ data_noted service tei t)
        then-lasts d x up speech noted = record {
          near = record { sound = h.near.sound; within = h.near.within };
          far = (record { sound = after_is_sound far.card (at far.line e) h.far.sound h.far.within; within = h.far.within });
          sides = h.sides;
          up = up;
          line = brought-lower contents (a + k) x.top l'.r (line_of (record near { way = way })) x.took.to x.rest;
          low = let one = h.low in let two = x.took.up in omega (arith, one, two);
          speech = speech;
          delivered = ap (λ ds. ds ++ data_noted service tei t) h.delivered ∙ ap (λ ds. take l.r contents ++ ds) noted ∙ x.took.delivered;
          accepted = x.took.accepted;
        }

        way-then : way_here service tei (happens e far) ≡ way_here service tei far ++ of_link_on service tei (own_side far.card.config) (frames_by (answered e far))
        way-then = flat_map-append (of_link_at service tei (own_side far.card.config)) far.way (frames_by (answered e far))

        still : Brought contents (a + k) l.r (line_of (record near { way = way })) → l'.r ≡ l.r → After None
        still line same = record { top = l.r; took = grind (arith, option_to_list, append-nil); rest = line }

        module _ (x : Has far.card.config service tei l l' e (answered e far)) where
          speech-then : (ev : LinkEvent) → x.event ≡ ev → (ev ≡ cleared → ⊥) → AnsweredAt Speaks ev → Each Speaks (line_of (happens e far))
          speech-then ev is other answer =
              let p = proper service tei far h.far h.up in
              let waits = frames_of Own l.waiting in
              let g = event-grows far.card.config service tei Speaks speaks-report speaks-plain (way_here service tei far) l l' (frames_by (answered e far)) ev other
              (x.is ∙ ap (λ ev. after Own ev l) is) (x.frames ∙ ap (λ ev. frames_given far.card.config Own ev l) is) p.ranges p.sound answer
              (none-awaited l'.state x.up) (λ up ns nr p. tt)
              (each-as Speaks NotUi speaks-plain waits (each-back Speaks (way_here service tei far) waits h.speech)) in
              grind (arith, way-then, each-append)

          noted-then : (ev : LinkEvent) → x.event ≡ ev → (d : Option (List ℕ)) → (course Own ev l).delivered ≡ d → data_noted service tei t ≡ option_to_list d
          noted-then ev is d delivers = x.noted ∙ ap (λ ev. option_to_list (told Own ev l).delivered) is ∙ ap option_to_list delivers

          up-then : (ev : LinkEvent) → x.event ≡ ev → IsTrue (is_multiple_frame (after Own ev l).state)
          up-then ev is = subst (λ (y : Link). IsTrue (is_multiple_frame y.state)) (x.is ∙ ap (λ ev. after Own ev l) is) x.up

          received-then : (ev : LinkEvent) → x.event ≡ ev → (r : ℕ) → (after Own ev l).r ≡ r → l'.r ≡ r
          received-then ev is r h = ap (λ (y : Link). y.r) (x.is ∙ ap (λ ev. after Own ev l) is) ∙ h

          -- an I-frame or a supervisory frame
          taken-so : (f : Parts) (m : ℕ) → Means m f.control → Speaks f.control → x.event ≡ received (link_frame f)
              → (top : ℕ) → l.r ≤ top → Brings contents (a + k) l.r top f.info f.control → Brought contents (a + k) top (line_of (record near { way = way }))
              → Last w' (dm ++ data_noted service tei t)
          taken-so f m means speaks is top up brings rest =
              let ev = received (link_frame f) in
              let this = frame-taken Own l h.up f.address.command f.info m f.control means in
              let goes = up-then ev is in
              let same = received-then ev is this.r ((this.took.by.stay goes).2).received in
              then-lasts this.delivered (record {
                top = top;
                took = subst (λ r. Takes contents top l.r r this.delivered) (sym same)
                    (takes-so contents a k l.r this.r top f.info f.control this.delivered small h.low up h.accepted brings this.advance);
                rest = rest;
              }) x.up (speech-then ev is (λ e. cc e) (speaks-answered Speaks f.control speaks)) (noted-then ev is this.delivered (this.took.delivered goes))

          ended : (f : Parts) → x.event ≡ received (link_frame f) → Ended Own (told Own (received (link_frame f)) l).notes → Last w' (dm ++ data_noted service tei t)
          ended f is h = absurd (true≢false (sym (x.ends (subst (λ ev. Ended Own (told Own ev l).notes) (sym is) h)) ∙ stays))

          by-control : (f : Parts) (control : Control) → f.control ≡ control → x.event ≡ received (link_frame f) → (top : ℕ) → l.r ≤ top
              → Brings contents (a + k) l.r top f.info control → Brought contents (a + k) top (line_of (record near { way = way })) → Last w' (dm ++ data_noted service tei t)
          by-control f (Information ns nr p) same is top up brings rest =
              taken-so f nr.value (subst (Means nr.value) (sym same) (its-value nr)) (subst Speaks (sym same) tt) is top up (subst (Brings contents (a + k) l.r top f.info) (sym same) brings) rest
          by-control f (ReceiveReady nr pf) same is top up brings rest =
              taken-so f nr.value (subst (Means nr.value) (sym same) (its-value nr)) (subst Speaks (sym same) tt) is top up (subst (Brings contents (a + k) l.r top f.info) (sym same) brings) rest
          by-control f (ReceiveNotReady nr pf) same is top up brings rest =
              taken-so f nr.value (subst (Means nr.value) (sym same) (its-value nr)) (subst Speaks (sym same) tt) is top up (subst (Brings contents (a + k) l.r top f.info) (sym same) brings) rest
          by-control f (Reject nr pf) same is top up brings rest =
              taken-so f nr.value (subst (Means nr.value) (sym same) (its-value nr)) (subst Speaks (sym same) tt) is top up (subst (Brings contents (a + k) l.r top f.info) (sym same) brings) rest
          by-control f control same is top up brings rest = grind (arith, ended, sabme-ends, disc-ends)

          -- a frame of the link that it hears is the first on the line
          abbrev First : Type 0
          First = (f : Parts) → IsKind far.card.config service tei e (received (link_frame f))
              → (top : ℕ) × (l.r ≤ top) × Brings contents (a + k) l.r top f.info f.control × Brought contents (a + k) top (line_of (record near { way = way }))

          by-kind : First → Brought contents (a + k) l.r (line_of (record near { way = way })) → (ev : LinkEvent) → x.event ≡ ev → IsKind far.card.config service tei e ev
              → Last w' (dm ++ data_noted service tei t)
          by-kind first line (received (link_frame f)) is kind = let y = first f kind in by-control f f.control refl is y.0 y.1 y.2 y.3
          by-kind first line (expired timer) is kind =
              let ev = expired timer in
              then-lasts None (still line (received-then ev is l.r (timer-same Own l h.up timer (up-then ev is)).1)) x.up (speech-then ev is (λ e. cc e) tt) (noted-then ev is None (timer-delivers Own l timer))
          by-kind first line (requested asked full) is kind =
              let ev = requested asked full in
              then-lasts None (still line (received-then ev is l.r (request-grows Own l h.up asked full (up-then ev is)).1)) x.up (speech-then ev is (λ e. cc e) tt)
              (noted-then ev is None (none-delivered Own l (course Own (requested asked full) l) (event-delivers Own l (requested asked full))))
          by-kind first line offer is kind =
              let p = proper service tei far h.far h.up in
              then-lasts None (still line (received-then offer is l.r (offer-same Own l p.ranges p.sound).1)) x.up (speech-then offer is (λ e. cc e) tt)
              (noted-then offer is None (offer-tells_nothing Own l).1)
          by-kind first line other is kind = absurd kind

        by-far : ((f : Parts) → IsKind far.card.config service tei e (received (link_frame f))
            → (top : ℕ) × (l.r ≤ top) × Brings contents (a + k) l.r top f.info f.control × Brought contents (a + k) top (line_of (record near { way = way })))
            → Brought contents (a + k) l.r (line_of (record near { way = way })) → Last w' (dm ++ data_noted service tei t)
        by-far first line = go (endpoint-does service tei far h.far h.up e)
          where
            go : Does far.card.config service tei l l' e (answered e far) → Last w' (dm ++ data_noted service tei t)
            go (inl ended) = absurd (true≢false (sym ended.0 ∙ stays))
            go (inr (inl x)) = grind (arith, then-lasts, still, way-then, way_here, append-nil)
            go (inr (inr x)) = by-kind x first line x.event refl x.kind

    -- no frame of the link is heard
    abbrev Then : Wire → List (List ℕ) → List Seen → Type 0
    Then w dm t = Last w (dm ++ data_noted service tei t)

    unheard : (w : Wire) (dm : List (List ℕ)) → Last w dm → (e : Event) → NotHeard service tei w.far.card.config e → StaysEstablished service tei (seen e (answered e w.far) ++ [])
        → Then (record { near = w.near; far = happens e w.far }) dm (seen e (answered e w.far) ++ [])
    unheard w dm h e none stays =
        let t = seen e (answered e w.far) in
        subst (Then (record { near = w.near; far = happens e w.far }) dm) (sym (append-nil t))
        (by-far w.near w.far dm e w.near.way w.near.way h (subst (StaysEstablished service tei) (append-nil t) stays)
        (λ f kind.
        let wrong : [] ≡ f ∷ [] = sym (none kind.0 kind.1) ∙ (ap (of_link_in service tei) kind.2 ∙ ap (λ b. cond {A = List Parts} b (f ∷ []) []) kind.3) in
        absurd (cc wrong)) h.line)

    unchanged : (w : Wire) (dm : List (List ℕ)) → Last w dm → Then w dm []
    unchanged w dm h = subst (Last w) (sym (append-nil dm)) h

    far-takes : (near far : Endpoint) (way : List (List ℕ)) (dm : List (List ℕ)) → let w : Wire = record { near = record near { way = way }; far = far } in
        Last w dm → let t = seen_by (step receives) (turned w) in StaysEstablished service tei t → Then (turned (any_acting (step receives) (turned w))) dm t
    far-takes near far [] dm h stays = unchanged (record { near = record near { way = [] }; far = far }) dm h
    far-takes near far (octets ∷ rest) dm h stays =
        let e = hears (came far.card.config.n201 octets) in
        let t = seen e (answered e far) in
        subst (Then (record { near = record near { way = rest }; far = happens e far }) dm) (sym (append-nil t)) (go (subst (StaysEstablished service tei) (append-nil t) stays) (first-is service tei near octets rest))
      where
        e : Event
        e = hears (came far.card.config.n201 octets)

        r : ℕ
        r = (link_here service tei far).r

        sides : own_side near.card.config ≡ heard_side far.card.config
        sides = sides-turned near.card.config far.card.config h.sides

        reads : (f : Parts) → IsKind far.card.config service tei e (received (link_frame f)) → of_link_at service tei (own_side near.card.config) octets ≡ f ∷ []
        reads f kind = comes-so service tei far near sides octets kind.0 f kind.1 (ap (of_link_in service tei) kind.2 ∙ ap (λ b. cond {A = List Parts} b (f ∷ []) []) kind.3)

        go : StaysEstablished service tei (seen e (answered e far)) → IsFirst service tei near octets rest
            → Then (record { near = record near { way = rest }; far = happens e far }) dm (seen e (answered e far))
        go stays (other_first none same) =
            by-far near far dm e rest (octets ∷ rest) h stays (λ f kind. let wrong : [] ≡ f ∷ [] = sym none ∙ reads f kind in absurd (cc wrong))
            (subst (Brought contents (a + k) r) same h.line)
        go stays (its_first g one more) =
            let line : Brought contents (a + k) r (g ∷ line_of (record near { way = rest })) = subst (Brought contents (a + k) r) more h.line in
            by-far near far dm e rest (octets ∷ rest) h stays
            (λ f kind. let same : g ≡ f = cc (sym one ∙ reads f kind) in (line.0, line.1, subst (λ (x : Parts). Brings contents (a + k) r line.0 x.info x.control) same line.2, line.3))
            (brought-tail contents (a + k) r g (line_of (record near { way = rest })) line)

    far-loses : (near far : Endpoint) (way : List (List ℕ)) (dm : List (List ℕ)) → Last (record { near = near; far = record far { way = way } }) dm
        → Last (turned (any_acting (step loses) (record { near = record far { way = way }; far = near }))) dm
    far-loses near far o dm h = grind (arith, first-is, other_first, its_first)

    far-elsewhere : (w : Wire) (dm : List (List ℕ)) (e : FramesEvent) → IsElsewhere w.far e → Last w dm → Last (record w { far = elsewhere_on e w.far }) dm
    far-elsewhere w dm e is h =
        let same : link_here service tei (elsewhere_on e w.far) ≡ link_here service tei w.far = ap (link_of service tei) (other-line service tei w.far e is) in
        let far : Link → Type 0 = λ y. IsTrue (is_multiple_frame y.state) × Brought contents (a + k) y.r (line_of w.near) × (a ≤ y.r)
        × Each Speaks (way_here service tei w.far ++ frames_of (terms w.far.card.config service tei) y.waiting) × (dm ≡ take y.r contents) × (y.r ≤ length contents) in
        let x : far (link_here service tei (elsewhere_on e w.far)) = subst far (sym same) (h.up, h.line, h.low, h.speech, h.delivered, h.accepted) in
        record {
          near = h.near;
          far = record { sound = after_is_sound w.far.card e h.far.sound is.0; within = h.far.within };
          sides = h.sides;
          up = x.0;
          line = x.1;
          low = x.2;
          speech = x.3;
          delivered = x.4;
          accepted = x.5;
        }

    pub far-goes : (act : AnyStep) (w : Wire) (dm : List (List ℕ)) → IsPossibleAt service tei w.far act → Last w dm
        → let t = seen_by act (turned w) in StaysEstablished service tei t → Then (turned (any_acting act (turned w))) dm t
    far-goes (step (requests r)) w dm is h stays = unheard w dm h (request r) (λ octets e. cc e) stays
    far-goes (step (expires timer)) w dm is h stays = unheard w dm h (expiry timer) (λ octets e. cc e) stays
    far-goes (step sends) w dm is h stays = unheard w dm h next (λ octets e. cc e) stays
    far-goes (step receives) w dm is h stays = far-takes w.near w.far w.near.way dm h stays
    far-goes (step loses) w dm is h stays = unchanged _ dm (far-loses w.near w.far w.far.way dm h)
    far-goes (disturbed what) w dm is h stays = unheard w dm h (hears what) (not-heard service tei w.far.card.config what is) stays
    far-goes (elsewhere e) w dm is h stays = unchanged _ dm (far-elsewhere w dm e is h)
