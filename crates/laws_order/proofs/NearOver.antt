-- The far end lasts in its establishment, and that of the near end is over: what happens at the near end.
use Rattle.laws_order.proofs.Vocabulary.{arith, ◌≡◌, ℕ, ◌+◌, ◌≤◌, false, IsTrue, List, [], ◌∷◌, ◌++◌, length, take, sym, ap, ◌∙◌, subst, true≢false, ◌⊎◌, Control, Service, Parts, reading, State, Link, is_multiple_frame, frames_of, came, Config, hears, expiry, request, next, heard_side, link_of, terms, after_is_sound, Endpoint, Wire, requests, expires, sends, receives, loses, happens}
use Rattle.laws_order.proofs.Vocabulary.{Event, of_link_at, AnyStep, step, disturbed, elsewhere, IsElsewhere, IsPossibleAt, elsewhere_on, any_acting, of_link_on, stream_frame, FramesEvent, at, own_side}
use Rattle.laws_order.proofs.Down.{Speaks}
use Rattle.laws_order.proofs.Lasting.{Calls, calls-report, calls-plain, speaks-answered, speaks-unheeded, Brought, brought-tail, brought-front, brought-more, brought-plain}
use Rattle.laws_order.proofs.Leading.{Read, read, none_of_it, one_of_it, NotHeard, not-heard, other-line}
use Rattle.laws_order.proofs.Pairs.{link_here, IsWell, way_here}
use Rattle.laws_order.proofs.Putting.{Each, Awaited, each-back}
use Rattle.laws_order.proofs.Saying.{Grown, NotUi, HeardIs, on_line, endpoint-down, endpoint-goes}

all-awaited : (to : State) → Awaited Calls to
all-awaited to = grind arith

module _ (service : Service) (tei : ℕ) where
  abbrev line_of : Endpoint → List Parts
  line_of s = on_line service tei s

  -- The first frame on the way of an endpoint is one of the link, or not.
  pub data IsFirst (s : Endpoint) (octets : List ℕ) (rest : List (List ℕ)) : Type 0 where
    other_first : of_link_at service tei (own_side s.card.config) octets ≡ [] → line_of (record s { way = octets ∷ rest }) ≡ line_of (record s { way = rest }) → IsFirst s octets rest
    its_first : (f : Parts) → of_link_at service tei (own_side s.card.config) octets ≡ f ∷ [] → line_of (record s { way = octets ∷ rest }) ≡ f ∷ line_of (record s { way = rest }) → IsFirst s octets rest

  pub first-is : (s : Endpoint) (octets : List ℕ) (rest : List (List ℕ)) → IsFirst s octets rest
  first-is s octets rest =
      let others = of_link_on service tei (own_side s.card.config) rest in
      let waits = frames_of (terms s.card.config service tei) (link_here service tei s).waiting in
      go others waits (read service tei (reading (own_side s.card.config) octets))
    where
      go : (others waits : List Parts) → Read service tei (reading (own_side s.card.config) octets) → IsFirst s octets rest
      go others waits (none_of_it none) = other_first none (ap (λ xs. (xs ++ of_link_on service tei (own_side s.card.config) rest) ++ frames_of (terms s.card.config service tei) (link_here service tei s).waiting) none)
      go others waits (one_of_it f one) = its_first f one (ap (λ xs. (xs ++ of_link_on service tei (own_side s.card.config) rest) ++ frames_of (terms s.card.config service tei) (link_here service tei s).waiting) one)

  -- A frame of the link that is heard as a frame comes is the one that comes.
  pub comes-so : (s u : Endpoint) → own_side u.card.config ≡ heard_side s.card.config → (octets octets' : List ℕ) (f : Parts)
      → hears (came s.card.config.n201 octets) ≡ hears (stream_frame octets') → of_link_at service tei (heard_side s.card.config) octets' ≡ f ∷ []
      → of_link_at service tei (own_side u.card.config) octets ≡ f ∷ []
  comes-so s u sides octets octets' f is its = grind arith

  pub none-heard : (c : Config) (Q : Control → Type 0) (e : Event) → NotHeard service tei c e → HeardIs c service tei Q e
  none-heard c Q e none octets f is its = let wrong : [] ≡ f ∷ [] = sym (none octets is) ∙ its in absurd (cc wrong)

  -- Where the far end says nothing but what an end that is up says, the near end hears nothing else.
  pub first-speaks : (near far : Endpoint) → own_side far.card.config ≡ heard_side near.card.config → (octets : List ℕ) (rest : List (List ℕ))
      → Each Speaks (line_of (record far { way = octets ∷ rest }))
      → Each Speaks (line_of (record far { way = rest })) × HeardIs near.card.config service tei Speaks (hears (came near.card.config.n201 octets))
  first-speaks near far sides octets rest speech = go (first-is far octets rest)
    where
      go : IsFirst far octets rest → Each Speaks (line_of (record far { way = rest })) × HeardIs near.card.config service tei Speaks (hears (came near.card.config.n201 octets))
      go (other_first none same) = grind (arith, comes-so)
      go (its_first g one more) =
          let all : Each Speaks (g ∷ line_of (record far { way = rest })) = subst (Each Speaks) more speech in (
            all.1,
            λ octets' f is its. let same : g ≡ f = cc (sym one ∙ comes-so near far sides octets octets' f is its) in subst (λ (x : Parts). Speaks x.control) same all.0,
          )

  -- The far end has been delivered the first of some contents, and has the next of them on the line to it.
  module _ (contents : List (List ℕ)) (a k : ℕ) (small : k ≤ 127) where
    pub record Lasts (w : Wire) (dm : List (List ℕ)) : Type 0 where
      pub near : IsWell w.near
      pub far : IsWell w.far
      pub sides : own_side w.far.card.config ≡ heard_side w.near.card.config
      pub up : IsTrue (is_multiple_frame (link_here service tei w.far).state)
      pub line : Brought contents (a + k) (link_here service tei w.far).r (line_of w.near)
      pub low : a ≤ (link_here service tei w.far).r
      pub speech : Each Speaks (line_of w.far)
      pub delivered : dm ≡ take (link_here service tei w.far).r contents
      pub accepted : (link_here service tei w.far).r ≤ length contents

    abbrev IsDown : Wire → Type 0
    IsDown w = is_multiple_frame (link_here service tei w.near).state ≡ false

    -- The near end, whose establishment is over.
    abbrev GoesOn : Wire → Wire → List (List ℕ) → Type 0
    GoesOn w w' dm = (IsDown w → IsDown w') × (IsDown w' → Lasts w' dm)

    by-event : (w : Wire) (dm : List (List ℕ)) → Lasts w dm → (e : Event) (way : List (List ℕ)) → Each Speaks (line_of (record w.far { way = way }))
        → HeardIs w.near.card.config service tei Speaks e → GoesOn w (record { near = happens e w.near; far = record w.far { way = way } }) dm
    by-event w dm h e way speech heard = (
      λ down. endpoint-down service tei w.near h.near e down (λ octets f is its. speaks-unheeded f.control (heard octets f is its)),
      λ down. record {
        near = (record { sound = after_is_sound w.near.card (at w.near.line e) h.near.sound h.near.within; within = h.near.within });
        far = record { sound = h.far.sound; within = h.far.within };
        sides = h.sides;
        up = h.up;
        line = then (endpoint-goes service tei w.near h.near e Calls calls-report calls-plain (λ octets f is its. speaks-answered Calls f.control (heard octets f is its))
            (all-awaited (link_here service tei (happens e w.near)).state) (λ up. absurd (true≢false (sym up ∙ down)))
            (each-back NotUi (way_here service tei w.near) waits (brought-plain contents (a + k) r (line_of w.near) h.line)));
        low = h.low;
        speech = speech;
        delivered = h.delivered;
        accepted = h.accepted;
      },
    )
      where
        waits : List Parts
        waits = frames_of (terms w.near.card.config service tei) (link_here service tei w.near).waiting

        r : ℕ
        r = (link_here service tei w.far).r

        then : Grown Calls (line_of w.near) (line_of (happens e w.near)) ⊎ (line_of (happens e w.near) ≡ way_here service tei w.near)
            → Brought contents (a + k) r (line_of (happens e w.near))
        then o = grind (arith, brought-more, brought-front, way_here)

    near-takes : (near far : Endpoint) (way : List (List ℕ)) (dm : List (List ℕ)) → let w : Wire = record { near = near; far = record far { way = way } } in
        Lasts w dm → GoesOn w (any_acting (step receives) w) dm
    near-takes near far [] dm h = (λ down. down, λ down. h)
    near-takes near far (octets ∷ rest) dm h =
        let x = first-speaks near far h.sides octets rest h.speech in
        by-event (record { near = near; far = record far { way = octets ∷ rest } }) dm h (hears (came near.card.config.n201 octets)) rest x.0 x.1

    near-loses : (near far : Endpoint) (way : List (List ℕ)) (dm : List (List ℕ)) → let w : Wire = record { near = record near { way = way }; far = far } in
        Lasts w dm → Lasts (any_acting (step loses) w) dm
    near-loses near far [] dm h = h
    near-loses near far (octets ∷ rest) dm h = go (first-is near octets rest)
      where
        r : ℕ
        r = (link_here service tei far).r

        go : IsFirst near octets rest → Lasts (record { near = record near { way = rest }; far = far }) dm
        go (other_first none same) = grind (arith, subst (Brought contents (a + k) r) same h.line)
        go (its_first f one more) = grind (arith, brought-tail contents (a + k) r f (line_of (record near { way = rest })) (subst (Brought contents (a + k) r) more h.line))

    near-elsewhere : (w : Wire) (dm : List (List ℕ)) (e : FramesEvent) → IsElsewhere w.near e → Lasts w dm → GoesOn w (record w { near = elsewhere_on e w.near }) dm
    near-elsewhere w dm e is h =
        let same : link_here service tei (elsewhere_on e w.near) ≡ link_here service tei w.near = ap (link_of service tei) (other-line service tei w.near e is) in (
          λ down. ap (λ (y : Link). is_multiple_frame y.state) same ∙ down,
          λ down. record {
            near = record { sound = after_is_sound w.near.card e h.near.sound is.0; within = h.near.within };
            far = h.far;
            sides = h.sides;
            up = h.up;
            line = grind (arith, link_here, way_here, frames_of);
            low = h.low;
            speech = h.speech;
            delivered = h.delivered;
            accepted = h.accepted;
          },
        )

    pub near-goes : (act : AnyStep) (w : Wire) (dm : List (List ℕ)) → IsPossibleAt service tei w.near act → Lasts w dm → GoesOn w (any_acting act w) dm
    near-goes (step (requests r)) w dm is h = by-event w dm h (request r) w.far.way h.speech (none-heard w.near.card.config Speaks (request r) (λ octets e. cc e))
    near-goes (step (expires timer)) w dm is h = by-event w dm h (expiry timer) w.far.way h.speech (none-heard w.near.card.config Speaks (expiry timer) (λ octets e. cc e))
    near-goes (step sends) w dm is h = by-event w dm h next w.far.way h.speech (none-heard w.near.card.config Speaks next (λ octets e. cc e))
    near-goes (step receives) w dm is h = near-takes w.near w.far w.far.way dm h
    near-goes (step loses) w dm is h = (λ down. down, λ down. near-loses w.near w.far w.near.way dm h)
    near-goes (disturbed what) w dm is h =
        by-event w dm h (hears what) w.far.way h.speech (none-heard w.near.card.config Speaks (hears what) (not-heard service tei w.near.card.config what is))
    near-goes (elsewhere e) w dm is h = near-elsewhere w dm e is h
