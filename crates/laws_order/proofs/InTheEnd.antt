-- A release is told in the end: to the end that releases, whose RC counts the expiries of T200, and to the other before that.
use Rattle.laws_order.proofs.Vocabulary.{◌≡◌, ℕ, ◌≤◌, Bool, true, false, List, [], ◌∷◌, ◌++◌, refl, sym, ap, ◌∙◌, arith, true≢false, ◌⊎◌, inl, inr, All, list_any, All-nil, All-cons, All-head, All-tail, Service, AwaitingRelease, Link, is_multiple_frame, came, hears, expiry, request, next, Line, has_tei, terms, deactivates, Seen, Endpoint, Wire, requests, expires, sends}
use Rattle.laws_order.proofs.Vocabulary.{receives, turned, Event, line_of, AnyStep, step, disturbed, any_acting, AnyStepAt, any_near, any_far, IsPossible, IsPossibleAt, any_doing, any_doing_all, events_here, seen_by, seen_at_near, seen_near, seen_far, t200s, IsToldAtLast, ReleasesAreTold, StaysThere, IsNotDeactivated, BothAreTold, ends_by, StaysEstablished, news, IsToldOfRelease, flat_map-append}
use Rattle.laws_order.proofs.Vocabulary.{news_in, own_side, heard_side, Reading, subst}
use Rattle.model_link.specs.Link.{most_repeats}
use Rattle.laws_order.proofs.Beginning.{past-well, six-here, six-runs, on-here, begins-pair}
use Rattle.laws_order.proofs.Down.{Speaks}
use Rattle.laws_order.proofs.Leading.{NotHeard, near-led, not-heard}
use Rattle.laws_order.proofs.NearOver.{Lasts, near-goes, none-heard, first-speaks}
use Rattle.laws_order.proofs.OneLasts.{far-goes}
use Rattle.laws_order.proofs.Ordered.{turned-pair, pair-lasts, both-stay, other-link}
use Rattle.laws_order.proofs.Pairs.{link_here, Pair, Led, Falls, IsWell}
use Rattle.laws_order.proofs.Putting.{Each}
use Rattle.laws_order.proofs.Released.{Occurs, reads, same-reading, then-well, step-six, StepSix, events_at, occurs, later, releases-end}
use Rattle.laws_order.proofs.ReleasedAt.{Confirm, Confirmless}
use Rattle.laws_order.proofs.Saying.{on_line}
use Rattle.laws_order.proofs.ReleaseCounted.{Bounded, run-counts}

module _ (service : Service) (tei : ℕ) where
  abbrev Here : Wire → Link
  Here w = link_here service tei w.near

  abbrev IsOpen : Wire → AnyStepAt → Type 0
  IsOpen w h = IsPossible service tei w h

  abbrev IsDown : Wire → Type 0
  IsDown w = is_multiple_frame (Here w).state ≡ false

  -- the far end lasts, and the near end is up, or is not any more
  abbrev Over : Wire → Type 0
  Over w = (contents : List (List ℕ)) × (a : ℕ) × (k : ℕ) × (small : k ≤ 127) × (dm : List (List ℕ)) × Lasts service tei contents a k small w dm

  abbrev Both : Wire → Type 0
  Both w = (dn : List (List ℕ)) × (dm : List (List ℕ)) × Pair service tei w dn dm

  abbrev Reached : Wire → Type 0
  Reached w = Both w ⊎ (Over w × IsDown w)

  near-on : (act : AnyStep) (w : Wire) → IsPossibleAt service tei w.near act → Over w → (IsDown w → IsDown (any_acting act w)) × (IsDown (any_acting act w) → Over (any_acting act w))
  near-on act w is (contents, a, k, small, dm, h) =
      let x = near-goes service tei contents a k small act w dm is h in (x.0, λ down. (contents, a, k, small, dm, x.1 down))

  far-on : (act : AnyStep) (w : Wire) → IsPossibleAt service tei w.far act → StaysEstablished service tei (seen_by act (turned w)) → Over w → Over (turned (any_acting act (turned w)))
  far-on act w is stays (contents, a, k, small, dm, h) = (contents, a, k, small, _, far-goes service tei contents a k small act w dm is h stays)

  pair-over : (w : Wire) → Both w → Over w
  pair-over w (dn, dm, h) = (_, _, _, _, dm, pair-lasts service tei w dn dm h)

  near-reaches : (act : AnyStep) (w : Wire) → IsPossibleAt service tei w.near act → Reached w → Reached (any_acting act w)
  near-reaches act w is (inl (dn, dm, h)) = go (near-led service tei act w dn dm is h)
    where
      go : Falls service tei (any_acting act w) (seen_by act w) ⊎ Led service tei w (any_acting act w) dn dm (seen_by act w) → Reached (any_acting act w)
      go (inl fallen) = inr ((near-on act w is (pair-over w (dn, dm, h))).1 fallen.1, fallen.1)
      go (inr x) = inl (_, dm, x.pair)
  near-reaches act w is (inr (over, down)) = let x = near-on act w is over in inr (x.1 (x.0 down), x.0 down)

  far-reaches : (act : AnyStep) (w : Wire) → IsPossibleAt service tei w.far act → StaysEstablished service tei (seen_by act (turned w)) → Reached w → Reached (turned (any_acting act (turned w)))
  far-reaches act w is stays (inl (dn, dm, h)) =
      let v : Wire = turned w in
      elim (near-led service tei act (turned w) dm dn is (turned-pair service tei w dn dm h)) [
        | inl fallen ↦ absurd (true≢false (sym fallen.0 ∙ stays))
        | inr x ↦ inl (dn, _, turned-pair service tei (any_acting act v) _ dn x.pair)
      ]
  far-reaches act w is stays (inr (over, down)) = inr (far-on act w is stays over, ap (λ (y : Link). is_multiple_frame y.state) (other-link service tei act (turned w)) ∙ down)

  reaches : (hs : List AnyStepAt) (w : Wire) → All (IsOpen w) hs → StaysEstablished service tei (seen_far hs w) → Reached w → Reached (any_doing_all hs w)
  unfolding seen_far any_doing_all
  reaches [] w all stays h = h
  reaches (any_near act ∷ hs) w all stays h =
      reaches hs (any_acting act w) (later service tei (any_near act) hs w all) stays (near-reaches act w (All-head (IsOpen w) (any_near act) hs all) h)
  reaches (any_far act ∷ hs) w all stays h =
      let w' = turned (any_acting act (turned w)) in
      let stay = both-stay service tei (seen_by act (turned w)) (seen_far hs w') stays in
      reaches hs w' (later service tei (any_far act) hs w all) stay.1 (far-reaches act w (All-head (IsOpen w) (any_far act) hs all) stay.0 h)

  over-six : (w : Wire) → (Here w).state ≡ AwaitingRelease → Reached w → Over w
  over-six w is (inl (dn, dm, h)) = absurd (true≢false (sym h.joined.near_up ∙ (ap is_multiple_frame is)))
  over-six w is (inr x) = x.0

  -- nothing that happens at the near end confirms its release
  first-confirmless : (near far : Endpoint) (way : List (List ℕ)) (l : Line) → own_side far.card.config ≡ heard_side near.card.config
      → Each Speaks (on_line service tei (record far { way = way })) → has_tei tei l ≡ true
      → All (λ e. Confirmless service tei near.card.config e l) (events_here (step receives) (record { near = near; far = record far { way = way } }))
  first-confirmless near far [] l sides speech on = All-nil (λ e. Confirmless service tei near.card.config e l)
  first-confirmless near far (octets ∷ rest) l sides speech on =
      All-cons (λ e. Confirmless service tei near.card.config e l) (hears (came near.card.config.n201 octets)) []
      (record { heard = (first-speaks service tei near far sides octets rest speech).1; stays = on; active = refl }) (All-nil (λ e. Confirmless service tei near.card.config e l))

  module _ (w : Wire) (l : Line) (on : has_tei tei l ≡ true) where
    abbrev P : Event → Type 0
    P e = Confirmless service tei w.near.card.config e l

    one : (e : Event) → NotHeard service tei w.near.card.config e → deactivates service tei e ≡ false → All P (e ∷ [])
    one e none active = All-cons P e [] (record { heard = none-heard service tei w.near.card.config Speaks e none; stays = on; active = active }) (All-nil P)

    act-confirmless : (act : AnyStep) → IsPossibleAt service tei w.near act → IsNotDeactivated service tei (any_near act) → Over w → All P (events_here act w)
    act-confirmless (step (requests r)) is active h = one (request r) (λ octets e. cc e) active
    act-confirmless (step (expires timer)) is active h = one (expiry timer) (λ octets e. cc e) refl
    act-confirmless (step sends) is active h = one next (λ octets e. cc e) refl
    act-confirmless (step receives) is active (contents, a, k, small, dm, h) = first-confirmless w.near w.far w.far.way l h.sides h.speech on
    act-confirmless (disturbed what) is active h = one (hears what) (not-heard service tei w.near.card.config what is) refl
    act-confirmless other is active h = All-nil P

    all-confirmless : (h : AnyStepAt) → IsOpen w h → IsNotDeactivated service tei h → Over w → All P (events_at service tei h w)
    all-confirmless (any_near act) is active over = act-confirmless act is active over
    all-confirmless (any_far act) is active over = All-nil P

  there-first : (hs : List AnyStepAt) (w : Wire) → StaysThere service tei hs w → has_tei tei (line_of w.near) ≡ true
  unfolding StaysThere
  there-first [] w h = on-here service tei w.near h
  there-first (x ∷ hs) w h = on-here service tei w.near h.0

  then-over : (h : AnyStepAt) (w : Wire) → IsOpen w h → StaysEstablished service tei (seen_far (h ∷ []) w) → Over w → IsDown (any_doing h w) → Over (any_doing h w)
  unfolding seen_far
  then-over (any_near act) w is stays over down = (near-on act w is over).1 down
  then-over (any_far act) w is stays over down = far-on act w is (both-stay service tei (seen_by act (turned w)) [] stays).0 over

  far-split : (h : AnyStepAt) (hs : List AnyStepAt) (w : Wire) → StaysEstablished service tei (seen_far (h ∷ hs) w)
      → StaysEstablished service tei (seen_far (h ∷ []) w) × StaysEstablished service tei (seen_far hs (any_doing h w))
  unfolding seen_far
  far-split h hs w stays = grind arith

  never : (hs : List AnyStepAt) (w : Wire) → IsWell w.near → (Here w).state ≡ AwaitingRelease → Over w → All (IsOpen w) hs → StaysThere service tei hs w → All (IsNotDeactivated service tei) hs
      → StaysEstablished service tei (seen_far hs w) → news (reads service tei w) service tei (seen_near hs w) ≡ Confirm service tei → ⊥
  unfolding seen_near StaysThere
  never [] w well is over all there active stays told = cc told
  never (h ∷ hs) w well is over all there active stays told =
      let o = occurs service tei h w well (All-head (IsOpen w) h hs all) in
      go o
      (λ well' is' over' told'. never hs w' well' is' over' (later service tei h hs w all) there.1 (All-tail (IsNotDeactivated service tei) h hs active) stay.1
      (subst (λ r. news r service tei (seen_near hs w') ≡ Confirm service tei) (sym (same-reading service tei w w' t es o)) told'))
      (step-six service tei w w' t es well is o)
    where
      w' : Wire
      w' = any_doing h w

      t : List Seen
      t = seen_at_near h w

      es : List Event
      es = events_at service tei h w

      stay : StaysEstablished service tei (seen_far (h ∷ []) w) × StaysEstablished service tei (seen_far hs w')
      stay = far-split h hs w stays

      r : Reading
      r = reads service tei w

      split : news r service tei t ++ news r service tei (seen_near hs w') ≡ Confirm service tei
      split = sym (flat_map-append (news_in r service tei) t (seen_near hs w')) ∙ told

      go : Occurs service tei w w' t es → (IsWell w'.near → (Here w').state ≡ AwaitingRelease → Over w' → news r service tei (seen_near hs w') ≡ Confirm service tei → ⊥)
          → StepSix service tei w w' t es → ⊥
      go o behind (inl (six, x)) =
          behind (then-well service tei w w' t es well o) six (then-over h w (All-head (IsOpen w) h hs all) stay.0 over (ap is_multiple_frame six))
          (ap (λ ns. ns ++ news r service tei (seen_near hs w')) (sym x.0) ∙ split)
      go o behind (inr (to, inl (x, may))) =
          may (all-confirmless w (line_of w'.near) (there-first hs w' there.1) h (All-head (IsOpen w) h hs all) (All-head (IsNotDeactivated service tei) h hs active) over)
      go o behind (inr (to, inr x)) = grind (arith, w', split)

pub releases-are-told : ReleasesAreTold
releases-are-told service tei w hs p is all quiet none many = go (releases-end service tei w hs p is all quiet none).0
  where
    six : (link_here service tei w.near).state ≡ AwaitingRelease
    six = six-here service tei w.near is

    go : IsToldOfRelease service tei (news (reads service tei w) service tei (seen_near hs w)) → IsToldAtLast service tei (news (reads service tei w) service tei (seen_near hs w))
    go (inl none) = too-few (run-counts service tei hs w (past-well w.near p) six (six-runs service tei w.near p six) all none)
      where
        too-few : Bounded service tei (t200s service tei hs w) (link_here service tei w.near).repeats (most_repeats (terms w.near.card.config service tei) 6)
            → IsToldAtLast service tei (news (reads service tei w) service tei (seen_near hs w))
        too-few o = grind arith
    go (inr told) = told

pub both-are-told : BothAreTold
both-are-told service tei w p q before behind rest possible lasts is possible' keeps quiet told = go (list_any (ends_by service tei) (seen_far behind v)) refl
  where
    v : Wire
    v = any_doing_all before w

    go : (b : Bool) → list_any (ends_by service tei) (seen_far behind v) ≡ b → b ≡ true
    go true e = refl
    go false e =
        let six = six-here service tei v.near is in
        let over = over-six service tei v six (reaches service tei before w possible lasts (inl (_, _, begins-pair service tei w p q rest))) in
        absurd (never service tei behind v (well over) six over possible' keeps.0 keeps.1 e told)
      where
        well : Over service tei v → IsWell v.near
        well (contents, a, k, small, dm, h) = h.near
