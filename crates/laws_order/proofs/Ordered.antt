-- Whole runs of two cards whose links face each other.
use Rattle.laws_order.proofs.Vocabulary.{arith, ◌≡◌, ℕ, suc, ◌≤◌, false, List, [], ◌∷◌, ◌++◌, take, drop, refl, sym, ap, ◌∙◌, subst, append-nil, append_assoc, true≢false, ◌⊎◌, inl, inr, All, list_any, All-nil, All-cons, All-head, All-tail, list_any-append, Service, Link, is_multiple_frame, joined-turned, rising-low, terms, Seen, IsFront, Endpoint, Wire, turned, sides-turned}
use Rattle.laws_order.proofs.Vocabulary.{flat_map-append, AnyStep, any_acting, AnyStepAt, any_near, any_far, IsPossible, seen_by, seen_near, seen_far, noted_in, data_noted, data_granted, ends_by, StaysEstablished, Past, known, FaceInStep, kept_by, DeliveredInOrder, or_parts}
use Rattle.model_link.proofs.Direction.{line_of}
use Rattle.laws_order.proofs.Beginning.{had, begins-pair, kept-is}
use Rattle.laws_order.proofs.Leading.{near-led}
use Rattle.laws_order.proofs.Lasting.{carried-brought, rising-speaks}
use Rattle.laws_order.proofs.NearOver.{Lasts, near-goes}
use Rattle.laws_order.proofs.OneLasts.{far-goes}
use Rattle.laws_order.proofs.Pairs.{link_here, facing, Pair, Led, Falls}

-- Nothing that happens moves a card to another line, or changes what it is configured with.
pub record StaysAt (s s' : Endpoint) : Type 0 where
  pub config : s'.card.config ≡ s.card.config
  pub line : s'.line ≡ s.line

same-place : (s : Endpoint) → StaysAt s s
same-place s = record { config = refl; line = refl }

pub near-place : (act : AnyStep) (w : Wire) → StaysAt w.near (any_acting act w).near
near-place act w = grind (arith, same-place)

pub far-place : (act : AnyStep) (w : Wire) → StaysAt w.far (any_acting act w).far
far-place act w = grind (arith, same-place)

both-parts : (n : ℕ) (xs : List (List ℕ)) → xs ≡ take n xs ++ drop n xs
both-parts (suc n) (x ∷ xs) = ap (λ ys. x ∷ ys) (both-parts n xs)
both-parts other any = refl

module _ (service : Service) (tei : ℕ) where
  abbrev pub IsOpen : Wire → AnyStepAt → Type 0
  IsOpen w h = IsPossible service tei w h

  pub still-possible : (w w' : Wire) → StaysAt w.near w'.near → StaysAt w.far w'.far → (h : AnyStepAt) → IsOpen w h → IsOpen w' h
  still-possible w w' near far h is = grind arith

  pub all-possible : (w w' : Wire) → StaysAt w.near w'.near → StaysAt w.far w'.far → (hs : List AnyStepAt) → All (IsOpen w) hs → All (IsOpen w') hs
  all-possible w w' near far [] all = All-nil (IsOpen w')
  all-possible w w' near far (h ∷ hs) all =
      All-cons (IsOpen w') h hs (still-possible w w' near far h (All-head (IsOpen w) h hs all))
      (all-possible w w' near far hs (All-tail (IsOpen w) h hs all))

  pub turned-pair : (w : Wire) (dn dm : List (List ℕ)) → Pair service tei w dn dm → Pair service tei (turned w) dm dn
  turned-pair w dn dm h = record { near = h.far; far = h.near; sides = sides-turned w.near.card.config w.far.card.config h.sides; joined = joined-turned _ _ h.joined }

  abbrev contents_at : Endpoint → List (List ℕ)
  contents_at s = (link_here service tei s).contents

  -- What was delivered, and what has been told since, is a front of the contents, and of those that were granted since.
  abbrev IsFrontOf : List (List ℕ) → List Seen → Endpoint → List Seen → Type 0
  IsFrontOf d t s u = IsFront (d ++ data_noted service tei t) (contents_at s ++ data_granted service tei u)

  front-now : (w : Wire) (dn dm : List (List ℕ)) → Pair service tei w dn dm → IsFrontOf dn [] w.far []
  front-now w dn dm h =
      let r = (link_here service tei w.near).r in
      let cs = contents_at w.far in
      let is : dn ≡ take r cs = h.joined.back.delivered in
      record { rest = drop r cs; whole_is = append-nil cs ∙ both-parts r cs ∙ ap (λ ds. ds ++ drop r cs) (sym (append-nil dn ∙ is)) }

  pub noted-append : (t u : List Seen) → data_noted service tei (t ++ u) ≡ data_noted service tei t ++ data_noted service tei u
  noted-append t u = flat_map-append (noted_in service tei) t u

  -- from what is seen later, with what is seen first
  front-before : (d : List (List ℕ)) (t t' : List Seen) (cs cs' : List (List ℕ)) (u u' : List Seen) → cs' ≡ cs ++ data_granted service tei u
      → IsFront ((d ++ data_noted service tei t) ++ data_noted service tei t') (cs' ++ data_granted service tei u')
      → IsFront (d ++ data_noted service tei (t ++ t')) (cs ++ data_granted service tei (u ++ u'))
  front-before d t t' cs cs' u u' e h = grind (arith, flat_map-append, append_assoc, noted-append)

  pub both-stay : (t u : List Seen) → StaysEstablished service tei (t ++ u) → StaysEstablished service tei t × StaysEstablished service tei u
  both-stay t u h = or_parts (list_any (ends_by service tei) t) (list_any (ends_by service tei) u) (sym (list_any-append (ends_by service tei) t u) ∙ h)

  unmoved : (s s' : Endpoint) → link_here service tei s' ≡ link_here service tei s → contents_at s' ≡ contents_at s ++ []
  unmoved s s' same = ap (λ (y : Link). y.contents) same ∙ sym (append-nil (contents_at s))

  -- What happens at one end leaves the link at the other.
  pub other-link : (act : AnyStep) (w : Wire) → link_here service tei (any_acting act w).far ≡ link_here service tei w.far
  other-link act w = grind arith

  -- where the near end's establishment is over
  module _ (contents : List (List ℕ)) (a k : ℕ) (small : k ≤ 127) where
    lasting-run : (hs : List AnyStepAt) (w : Wire) (dm : List (List ℕ)) → Lasts service tei contents a k small w dm
        → is_multiple_frame (link_here service tei w.near).state ≡ false → All (IsOpen w) hs → StaysEstablished service tei (seen_far hs w)
        → IsFront (dm ++ data_noted service tei (seen_far hs w)) contents
    unfolding seen_far
    lasting-run [] w dm h down all stays =
        let r = (link_here service tei w.far).r in
        record { rest = drop r contents; whole_is = both-parts r contents ∙ ap (λ ds. ds ++ drop r contents) (sym (append-nil dm ∙ h.delivered)) }
    lasting-run (any_near act ∷ hs) w dm h down all stays =
        let w' = any_acting act w in
        let x = near-goes service tei contents a k small act w dm (All-head (IsOpen w) (any_near act) hs all) h in
        let down' = x.0 down in
        lasting-run hs w' dm (x.1 down') down' (all-possible w w' (near-place act w) (far-place act w) hs (All-tail (IsOpen w) (any_near act) hs all)) stays
    lasting-run (any_far act ∷ hs) w dm h down all stays =
        let v = turned w in
        let w' = turned (any_acting act v) in
        let t = seen_by act v in
        let stay = both-stay t (seen_far hs w') stays in
        let x = far-goes service tei contents a k small act w dm (All-head (IsOpen w) (any_far act) hs all) h stay.0 in
        let rest = lasting-run hs w' (dm ++ data_noted service tei t) x (ap (λ (y : Link). is_multiple_frame y.state) (other-link act v) ∙ down)
        (all-possible w w' (far-place act v) (near-place act v) hs (All-tail (IsOpen w) (any_far act) hs all)) stay.1 in
        record {
          rest = rest.rest;
          whole_is = rest.whole_is ∙ ap (λ xs. xs ++ rest.rest) (append_assoc dm (data_noted service tei t) (data_noted service tei (seen_far hs w')) ∙ ap (λ xs. dm ++ xs) (sym (noted-append t (seen_far hs w'))));
        }

  -- as both ends are up
  pub pair-lasts : (w : Wire) (dn dm : List (List ℕ)) → (h : Pair service tei w dn dm)
      → Lasts service tei (contents_at w.near) (link_here service tei w.near).a (terms w.near.card.config service tei).k h.joined.near_ranges.k_high w dm
  pair-lasts w dn dm h = grind (arith, facing, carried-brought, line_of, rising-low, rising-speaks)

  abbrev IsInOrder : List AnyStepAt → Wire → List (List ℕ) → Type 0
  IsInOrder hs w dm = IsFrontOf dm (seen_far hs w) w.near (seen_near hs w)

  with-more : (ds cs gs : List (List ℕ)) → IsFront ds cs → IsFront ds (cs ++ gs)
  with-more ds cs gs h = record { rest = h.rest ++ gs; whole_is = ap (λ xs. xs ++ gs) h.whole_is ∙ append_assoc ds h.rest gs }

  -- As long as the establishment lasts at the far end, whatever becomes of it at the near one.
  pub all-led : (hs : List AnyStepAt) (w : Wire) (dn dm : List (List ℕ)) → Pair service tei w dn dm → All (IsOpen w) hs
      → StaysEstablished service tei (seen_far hs w) → IsInOrder hs w dm
  unfolding seen_near seen_far
  all-led [] w dn dm h all far = front-now (turned w) dm dn (turned-pair w dn dm h)
  all-led (any_near act ∷ hs) w dn dm h all far =
      go (λ x. all-led hs (any_acting act w) (dn ++ data_noted service tei (seen_by act w)) dm x.pair
      (all-possible w (any_acting act w) (near-place act w) (far-place act w) hs (All-tail (IsOpen w) (any_near act) hs all)) far)
      (near-led service tei act w dn dm (All-head (IsOpen w) (any_near act) hs all) h)
    where
      w' : Wire
      w' = any_acting act w

      t : List Seen
      t = seen_by act w

      later : All (IsOpen w') hs
      later = all-possible w w' (near-place act w) (far-place act w) hs (All-tail (IsOpen w) (any_near act) hs all)

      go : (Led service tei w w' dn dm t → IsInOrder hs w' dm) → Falls service tei w' t ⊎ Led service tei w w' dn dm t → IsInOrder (any_near act ∷ hs) w dm
      go later-on (inl fallen) =
          let a = (link_here service tei w.near).a in
          let k = (terms w.near.card.config service tei).k in
          let small = h.joined.near_ranges.k_high in
          let x = near-goes service tei (contents_at w.near) a k small act w dm (All-head (IsOpen w) (any_near act) hs all) (pair-lasts w dn dm h) in
          with-more (dm ++ data_noted service tei (seen_far hs w')) (contents_at w.near) (data_granted service tei (t ++ seen_near hs w'))
          (lasting-run (contents_at w.near) a k small hs w' dm (x.1 fallen.1) fallen.1 later far)
      go later-on (inr x) =
          front-before dm [] (seen_far hs w') (contents_at w.near) (contents_at w'.near) t (seen_near hs w') x.granted
          (subst (λ ds. IsFront (ds ++ data_noted service tei (seen_far hs w')) (contents_at w'.near ++ data_granted service tei (seen_near hs w'))) (sym (append-nil dm))
          (later-on x))
  all-led (any_far act ∷ hs) w dn dm h all far =
      go (λ x stays. all-led hs (turned (any_acting act (turned w))) dn (dm ++ data_noted service tei (seen_by act (turned w)))
      (turned-pair (any_acting act (turned w)) (dm ++ data_noted service tei (seen_by act (turned w))) dn x.pair)
      (all-possible w (turned (any_acting act (turned w))) (far-place act (turned w)) (near-place act (turned w)) hs (All-tail (IsOpen w) (any_far act) hs all)) stays)
      (near-led service tei act (turned w) dm dn (All-head (IsOpen w) (any_far act) hs all) (turned-pair w dn dm h))
    where
      v : Wire
      v = turned w

      w' : Wire
      w' = turned (any_acting act v)

      t : List Seen
      t = seen_by act v

      stay : StaysEstablished service tei t × StaysEstablished service tei (seen_far hs w')
      stay = both-stay t (seen_far hs w') far

      go : (Led service tei v (any_acting act v) dm dn t → StaysEstablished service tei (seen_far hs w') → IsInOrder hs w' (dm ++ data_noted service tei t))
          → Falls service tei (any_acting act v) t ⊎ Led service tei v (any_acting act v) dm dn t → IsInOrder (any_far act ∷ hs) w dm
      go later-on (inl fallen) = absurd (true≢false (sym fallen.0 ∙ stay.0))
      go later-on (inr x) =
          front-before dm t (seen_far hs w') (contents_at w.near) (contents_at w'.near) [] (seen_near hs w') (unmoved w.near w'.near x.other)
          (later-on x stay.1)

  same-rest : (xs ys zs : List (List ℕ)) → xs ++ ys ≡ xs ++ zs → ys ≡ zs
  same-rest [] ys zs e = e
  same-rest (x ∷ xs) ys zs e = same-rest xs ys zs (cc e)

  -- behind what was received before
  since : (s u : Endpoint) (ds gs : List (List ℕ)) → IsFront (had service tei s u ++ ds) (contents_at s ++ gs) → IsFront ds (drop (link_here service tei u).r (contents_at s) ++ gs)
  since s u ds gs h =
      let front = had service tei s u in
      let kept = drop (link_here service tei u).r (contents_at s) in
      let whole : contents_at s ≡ front ++ kept = both-parts (link_here service tei u).r (contents_at s) in
      grind (arith, same-rest, append_assoc)

  told-far : (hs : List AnyStepAt) (w : Wire) (p : Past w.near) (q : Past w.far) → FaceInStep service tei w (known service tei w.near p) (known service tei w.far q)
      → All (IsOpen w) hs → StaysEstablished service tei (seen_far hs w)
      → IsFront (data_noted service tei (seen_far hs w)) (kept_by (known service tei w.near p) (known service tei w.far q) ++ data_granted service tei (seen_near hs w))
  told-far hs w p q h all far =
      let x = begins-pair service tei w p q h in
      let low = rising-low (link_here service tei w.near).a (link_here service tei w.far).r (line_of (facing service tei w.far (had service tei w.near w.far))) x.joined.there.rising in
      subst (λ cs. IsFront (data_noted service tei (seen_far hs w)) (cs ++ data_granted service tei (seen_near hs w)))
      (sym (kept-is service tei w p q x.joined.near_up x.joined.far_up low))
      (since w.near w.far (data_noted service tei (seen_far hs w)) (data_granted service tei (seen_near hs w))
      (all-led hs w (had service tei w.far w.near) (had service tei w.near w.far) x all far))

  -- The same from the other end.
  abbrev swapped : AnyStepAt → AnyStepAt
  swapped (any_near act) = any_far act
  swapped (any_far act) = any_near act

  abbrev all_swapped : List AnyStepAt → List AnyStepAt
  all_swapped [] = []
  all_swapped (h ∷ hs) = swapped h ∷ all_swapped hs

  near-is : (hs : List AnyStepAt) (w : Wire) → seen_near hs w ≡ seen_far (all_swapped hs) (turned w)
  unfolding seen_near seen_far
  near-is [] w = refl
  near-is (any_near act ∷ hs) w = ap (λ t. seen_by act w ++ t) (near-is hs (any_acting act w))
  near-is (any_far act ∷ hs) w = near-is hs (turned (any_acting act (turned w)))

  far-is : (hs : List AnyStepAt) (w : Wire) → seen_far hs w ≡ seen_near (all_swapped hs) (turned w)
  unfolding seen_near seen_far
  far-is [] w = refl
  far-is (any_near act ∷ hs) w = far-is hs (any_acting act w)
  far-is (any_far act ∷ hs) w = ap (λ t. seen_by act (turned w) ++ t) (far-is hs (turned (any_acting act (turned w))))

  one-swapped : (w : Wire) (h : AnyStepAt) → IsOpen w h → IsOpen (turned w) (swapped h)
  one-swapped w h is = grind arith

  possible-swapped : (w : Wire) (hs : List AnyStepAt) → All (IsOpen w) hs → All (IsOpen (turned w)) (all_swapped hs)
  possible-swapped w [] all = All-nil (IsOpen (turned w))
  possible-swapped w (h ∷ hs) all =
      All-cons (IsOpen (turned w)) (swapped h) (all_swapped hs) (one-swapped w h (All-head (IsOpen w) h hs all)) (possible-swapped w hs (All-tail (IsOpen w) h hs all))

  told-near : (hs : List AnyStepAt) (w : Wire) (p : Past w.near) (q : Past w.far) → FaceInStep service tei w (known service tei w.near p) (known service tei w.far q)
      → All (IsOpen w) hs → StaysEstablished service tei (seen_near hs w)
      → IsFront (data_noted service tei (seen_near hs w)) (kept_by (known service tei w.far q) (known service tei w.near p) ++ data_granted service tei (seen_far hs w))
  told-near hs w p q h all near =
      let kept = kept_by (known service tei w.far q) (known service tei w.near p) in
      subst (λ t. IsFront (data_noted service tei t) (kept ++ data_granted service tei (seen_far hs w))) (sym (near-is hs w))
      (subst (λ t. IsFront (data_noted service tei (seen_far (all_swapped hs) (turned w))) (kept ++ data_granted service tei t)) (sym (far-is hs w))
      (told-far (all_swapped hs) (turned w) q p ((h.1, h.0, sides-turned w.near.card.config w.far.card.config h.2)) (possible-swapped w hs all) (subst (StaysEstablished service tei) (near-is hs w) near)))

pub delivered-in-order : DeliveredInOrder
delivered-in-order service tei w p q hs h all = (told-near service tei hs w p q h all, told-far service tei hs w p q h all)
