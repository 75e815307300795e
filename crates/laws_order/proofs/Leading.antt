-- Two cards whose links face each other: where anything that happens at one of them leads.
use Rattle.laws_order.proofs.Vocabulary.{arith, ◌≡◌, ℕ, Bool, true, false, cond, List, [], ◌∷◌, ◌++◌, drop, Result, Ok, Err, refl, sym, ap, ◌∙◌, subst, append-nil, ◌⊎◌, inl, inr, get_or-set_other, ReadFault, Service, Parts, reading, Link, LinkEndpoint, Joined, joined-turned, done-at, came, Config, hears, expiry, request, next, heard_side, link_of, line_at, after_is_sound, by_room}
use Rattle.laws_order.proofs.Vocabulary.{Seen, seen, Endpoint, Wire, requests, expires, sends, receives, loses, answered, happens, without_first, Event, is_of_link, of_link_in, of_link_at, AnyStep, step, disturbed, elsewhere, IsNotOf, IsElsewhere, IsPossibleAt, elsewhere_on, any_acting, seen_by, data_noted, data_granted, of_link_on, stream_frame, StreamEvent, FramesEvent, link_frame, LinkEvent}
use Rattle.laws_order.proofs.Vocabulary.{requested, offer, expired, received, nat_lt, at, frame_comes, own_side}
use Rattle.model_link.specs.TwoEnds as two
use Rattle.model_card.specs.Machine.{after}
use Rattle.laws_order.proofs.Does.{Has, Does, IsKind}
use Rattle.laws_order.proofs.Pairs.{frame-same, link_here, facing, Pair, Led, Falls, endpoint-does, leaves-still, leaves-granted, linked, granted-by, up-by, expired-still, asked-still, offer-still}

module _ (service : Service) (tei : ℕ) where
  -- The same is seen, and the same end stands there.
  seen-so : (w w' : Wire) (dn dm : List (List ℕ)) (t u : List Seen) → t ≡ u → Falls service tei w' t ⊎ Led service tei w w' dn dm t → Falls service tei w' u ⊎ Led service tei w w' dn dm u
  seen-so w w' dn dm t u e h = subst (λ t. Falls service tei w' t ⊎ Led service tei w w' dn dm t) e h

  -- An event that is no frame of the link.
  abbrev pub NotHeard : Config → Event → Type 0
  NotHeard c e = (octets : List ℕ) → e ≡ hears (stream_frame octets) → of_link_at service tei (heard_side c) octets ≡ []

  module _ (w : Wire) (dn dm : List (List ℕ)) (h : Pair service tei w dn dm) (e : Event) where
    abbrev s : Endpoint
    s = w.near

    abbrev w' : Wire
    w' = record { near = happens e s; far = w.far }

    abbrev t : List Seen
    t = seen e (answered e s)

    abbrev m : LinkEndpoint
    m = facing service tei w.far dm

    led : Joined (facing service tei (happens e s) (dn ++ data_noted service tei t)) m
        × ((link_here service tei (happens e s)).contents ≡ (link_here service tei s).contents ++ data_granted service tei t) → Led service tei w w' dn dm t
    led x = record {
      pair = record { near = (record { sound = after_is_sound s.card (at s.line e) h.near.sound h.near.within; within = h.near.within }); far = h.far; sides = h.sides; joined = x.0 };
      granted = x.1;
      other = refl;
    }

    by-kind : (x : Has s.card.config service tei (link_here service tei s) (link_here service tei (happens e s)) e (answered e s))
        → NotHeard s.card.config e → (ev : LinkEvent) → x.event ≡ ev → IsKind s.card.config service tei e ev → Led service tei w w' dn dm t
    by-kind x none (received (link_frame f)) is kind = grind arith
    by-kind x none (expired timer) is kind = led (expired-still service tei s h.near h.joined.near_up e x dn m h.joined timer is)
    by-kind x none (requested asked full) is kind = led (asked-still service tei s h.near h.joined.near_up e x dn m h.joined asked full is)
    by-kind x none offer is kind = led (offer-still service tei s h.near h.joined.near_up e x dn m h.joined is)
    by-kind x none other is kind = absurd kind

    pub event-led : NotHeard s.card.config e → Falls service tei w' t ⊎ Led service tei w w' dn dm t
    event-led none = go (endpoint-does service tei s h.near h.joined.near_up e)
      where
        go : Does s.card.config service tei (link_here service tei s) (link_here service tei (happens e s)) e (answered e s) → Falls service tei w' t ⊎ Led service tei w w' dn dm t
        go (inl ended) = inl ended
        go (inr (inl x)) = inr (led (leaves-still service tei s h.near h.joined.near_up e dn m x h.joined, leaves-granted service tei s h.near h.joined.near_up e x))
        go (inr (inr x)) = inr (by-kind x none x.event refl x.kind)

  -- What is read of octets: a frame of the link, or none.
  pub data Read (r : Result Parts ReadFault) : Type 0 where
    none_of_it : of_link_in service tei r ≡ [] → Read r
    one_of_it : (f : Parts) → of_link_in service tei r ≡ f ∷ [] → Read r

  pub read : (r : Result Parts ReadFault) → Read r
  read (Ok f) = go (is_of_link service tei f) refl
    where
      go : (b : Bool) → is_of_link service tei f ≡ b → Read (Ok f)
      go true is = one_of_it f (ap (λ b. cond {A = List Parts} b (f ∷ []) []) is)
      go false is = none_of_it (ap (λ b. cond {A = List Parts} b (f ∷ []) []) is)
  read (Err fault) = none_of_it refl

  -- The first frame on the way of an end is gone.
  module _ (n : LinkEndpoint) (s : Endpoint) (dm : List (List ℕ)) (octets : List ℕ) (rest : List (List ℕ)) where
    abbrev full : Endpoint
    full = record s { way = octets ∷ rest }

    abbrev less : Endpoint
    less = record s { way = rest }

    abbrev its : List Parts
    its = of_link_at service tei (own_side s.card.config) octets

    abbrev others : List Parts
    others = of_link_on service tei (own_side s.card.config) rest

    same-rest : (way : List Parts) → way ≡ others → record (facing service tei less dm) { way = way } ≡ facing service tei less dm
    same-rest way e = λ i. record (facing service tei less dm) { way = e i }

    pub gone : Joined n (facing service tei full dm) → Joined n (facing service tei less dm)
    gone h = go (read (reading (own_side s.card.config) octets))
      where
        go : Read (reading (own_side s.card.config) octets) → Joined n (facing service tei less dm)
        go (none_of_it none) = subst (λ y. Joined n y) (same-rest (its ++ others) (ap (λ xs. xs ++ others) none)) h
        go (one_of_it f one) =
            subst (λ y. Joined n y) (same-rest (drop 1 (its ++ others)) (ap (λ xs. drop 1 (xs ++ others)) one))
            (done-at (two.at_far two.loses) (record { near = n; far = facing service tei full dm }) (h.near_up, h.far_up) h)

  -- A frame comes.
  module _ (near far : Endpoint) (octets : List ℕ) (rest : List (List ℕ)) (dn dm : List (List ℕ)) where
    abbrev before : Wire
    before = record { near = near; far = record far { way = octets ∷ rest } }

    abbrev later : Wire
    later = record { near = frame_comes octets near; far = record far { way = rest } }

    abbrev heard : Event
    heard = hears (came near.card.config.n201 octets)

    abbrev shown : List Seen
    shown = seen heard (answered heard near)

    abbrev there : LinkEndpoint
    there = facing service tei (record far { way = octets ∷ rest }) dm

    abbrev now : LinkEndpoint
    now = facing service tei (record far { way = rest }) dm

    module _ (h : Pair service tei before dn dm) where
      arrives : Joined (facing service tei (frame_comes octets near) (dn ++ data_noted service tei shown)) now
          × ((link_here service tei (frame_comes octets near)).contents ≡ (link_here service tei near).contents ++ data_granted service tei shown) → Led service tei before later dn dm shown
      arrives x = record {
        pair = record {
          near = (record { sound = after_is_sound near.card (at near.line heard) h.near.sound h.near.within; within = h.near.within });
          far = record { sound = h.far.sound; within = h.far.within };
          sides = h.sides;
          joined = x.0;
        };
        granted = x.1;
        other = refl;
      }

      -- one of the link
      taken-so : (x : Has near.card.config service tei (link_here service tei near) (link_here service tei (frame_comes octets near)) heard (answered heard near)) (f : Parts)
          → x.event ≡ received (link_frame f) → of_link_at service tei (own_side far.card.config) octets ≡ f ∷ [] → Led service tei before later dn dm shown
      taken-so x f is one =
          let ev = received (link_frame f) in
          let others = of_link_on service tei (own_side far.card.config) rest in
          let first : LinkEndpoint = record now { way = f ∷ others } in
          let same : there ≡ first = λ i. record now { way = (ap (λ xs. xs ++ others) one) i } in
          let h' : Joined (facing service tei near dn) first = subst (λ y. Joined (facing service tei near dn) y) same h.joined in
          let up' = up-by service tei near h.near h.joined.near_up heard x ev is in
          let means = h'.there.rising in
          arrives (
            linked service tei near h.near h.joined.near_up heard x dn now ev is refl
                (done-at (two.at_near two.receives) (record { near = facing service tei near dn; far = first }) (up', h'.far_up) h'),
            granted-by service tei near h.near h.joined.near_up heard x ev is
                (frame-same (facing service tei near dn).terms (link_here service tei near) h.joined.near_up f means.0 means.2 up'
                ∙ sym (append-nil (link_here service tei near).contents)),
          )

      by-it : (x : Has near.card.config service tei (link_here service tei near) (link_here service tei (frame_comes octets near)) heard (answered heard near))
          → (ev : LinkEvent) → x.event ≡ ev → IsKind near.card.config service tei heard ev → Led service tei before later dn dm shown
      by-it x (received (link_frame f)) is kind =
          let same : kind.0 ≡ octets = grind (arith, nat_lt) in
          let read-so : reading (own_side far.card.config) octets ≡ Ok f =
          ap (λ sender. reading sender octets) h.sides ∙ ap (reading (heard_side near.card.config)) (sym same) ∙ kind.2 in
          taken-so x f is (ap (of_link_in service tei) read-so ∙ ap (λ b. cond {A = List Parts} b (f ∷ []) []) kind.3)
      by-it x ev is kind = grind arith

      pub frame-led : Falls service tei later shown ⊎ Led service tei before later dn dm shown
      frame-led =
          elim (endpoint-does service tei near h.near h.joined.near_up heard) [
            | inl ended ↦ inl ended
            | inr (inl x) ↦
                inr (arrives (
                  leaves-still service tei near h.near h.joined.near_up heard dn now x (gone (facing service tei near dn) far dm octets rest h.joined),
                  leaves-granted service tei near h.near h.joined.near_up heard x,
                ))
            | inr (inr x) ↦ inr (by-it x x.event refl x.kind)
          ]

  -- Nothing happens to the end, or a frame of its way is lost, or something happens at another line.
  unchanged : (w : Wire) (dn dm : List (List ℕ)) → Pair service tei w dn dm → Led service tei w w dn dm []
  unchanged w dn dm h = grind (arith, facing, append-nil, link_here)

  loses-led : (near far : Endpoint) (way : List (List ℕ)) (dn dm : List (List ℕ)) → let w : Wire = record { near = record near { way = way }; far = far } in
      Pair service tei w dn dm → Led service tei w (record w { near = without_first w.near }) dn dm []
  loses-led near far [] dn dm h = unchanged (record { near = record near { way = [] }; far = far }) dn dm h
  loses-led near far (octets ∷ rest) dn dm h =
      let n = facing service tei (record near { way = octets ∷ rest }) dn in
      let m = facing service tei far dm in
      let j = joined-turned m (facing service tei (record near { way = rest }) dn) (gone m near dn octets rest (joined-turned n m h.joined)) in
      grind (arith, facing, append-nil, link_here)

  takes-led : (near far : Endpoint) (way : List (List ℕ)) (dn dm : List (List ℕ)) → let w : Wire = record { near = near; far = record far { way = way } } in
      Pair service tei w dn dm → let t = seen_by (step receives) w in Falls service tei (any_acting (step receives) w) t ⊎ Led service tei w (any_acting (step receives) w) dn dm t
  takes-led near far [] dn dm h = inr (unchanged (record { near = near; far = record far { way = [] } }) dn dm h)
  takes-led near far (octets ∷ rest) dn dm h =
      let w : Wire = record { near = near; far = record far { way = octets ∷ rest } } in
      let e = hears (came near.card.config.n201 octets) in
      let t = seen e (answered e near) in
      seen-so w (any_acting (step receives) w) dn dm t (t ++ []) (sym (append-nil t)) (frame-led near far octets rest dn dm h)

  -- another line
  pub other-line : (s : Endpoint) (e : FramesEvent) → IsElsewhere s e → line_at s.line (after e s.card) ≡ line_at s.line s.card
  other-line s e is = grind (arith, by_room, get_or-set_other)

  elsewhere-led : (w : Wire) (dn dm : List (List ℕ)) (e : FramesEvent) → IsElsewhere w.near e → Pair service tei w dn dm
      → Led service tei w (record w { near = elsewhere_on e w.near }) dn dm []
  elsewhere-led w dn dm e is h =
      let s' = elsewhere_on e w.near in
      let same : link_here service tei s' ≡ link_here service tei w.near = ap (link_of service tei) (other-line w.near e is) in
      let end : facing service tei s' (dn ++ []) ≡ facing service tei w.near dn = λ i. record (facing service tei w.near dn) { link = same i; delivered = (append-nil dn) i } in
      record {
        pair = record {
          near = record { sound = after_is_sound w.near.card e h.near.sound is.0; within = h.near.within };
          far = h.far;
          sides = h.sides;
          joined = subst (λ n. Joined n (facing service tei w.far dm)) (sym end) h.joined;
        };
        granted = ap (λ (y : Link). y.contents) same ∙ sym (append-nil (link_here service tei w.near).contents);
        other = refl;
      }

  -- Whatever happens at the near end.
  pub not-heard : (c : Config) (what : StreamEvent) → IsNotOf service tei c what → NotHeard c (hears what)
  not-heard c what is octets e = grind arith

  pub near-led : (act : AnyStep) (w : Wire) (dn dm : List (List ℕ)) → IsPossibleAt service tei w.near act → Pair service tei w dn dm
      → let t = seen_by act w in Falls service tei (any_acting act w) t ⊎ Led service tei w (any_acting act w) dn dm t
  near-led (step (requests r)) w dn dm is h =
      let t = seen (request r) (answered (request r) w.near) in
      seen-so w _ dn dm t (t ++ []) (sym (append-nil t)) (event-led w dn dm h (request r) (λ octets e. cc e))
  near-led (step (expires timer)) w dn dm is h =
      let t = seen (expiry timer) (answered (expiry timer) w.near) in
      seen-so w _ dn dm t (t ++ []) (sym (append-nil t)) (event-led w dn dm h (expiry timer) (λ octets e. cc e))
  near-led (step sends) w dn dm is h =
      let t = seen next (answered next w.near) in
      seen-so w _ dn dm t (t ++ []) (sym (append-nil t)) (event-led w dn dm h next (λ octets e. cc e))
  near-led (step receives) w dn dm is h = takes-led w.near w.far w.far.way dn dm h
  near-led (step loses) w dn dm is h = inr (loses-led w.near w.far w.near.way dn dm h)
  near-led (disturbed what) w dn dm is h =
      let t = seen (hears what) (answered (hears what) w.near) in
      seen-so w _ dn dm t (t ++ []) (sym (append-nil t)) (event-led w dn dm h (hears what) (not-heard w.near.card.config what is))
  near-led (elsewhere e) w dn dm is h = inr (elsewhere-led w dn dm e is h)
