-- A wire of cards is two links: what is done at a station is done at the end for which it stands, or changes nothing there.
use Rattle.laws_wire.proofs.Vocabulary.{◌≡◌, ℕ, List, [], ◌∷◌, map, refl, sym, ap, subst, ◌⊎◌, inl, inr, arith, false, All, All-head, All-tail, Service, Timer, Parts, LinkTimer, T200, T203, Ends, LinkEndpoint, with_link, Config, spelling, own_side, request, Line, place_in, at_timer, aim_of_expiry, Request, at_requested, aim_of_request, LinkRequest, LinkData, LinkSetBusy, LinkClearBusy, requested}
use Rattle.laws_wire.proofs.Vocabulary.{doing, Data, SetBusy}
use Rattle.laws_wire.proofs.Vocabulary.{ClearBusy, Endpoint, Wire, happens, with_first_of, EndStep, requests, expires, sends, receives, loses, StepAt, at_near, at_far, acting, turned, doing_all, timer_T200, timer_T203, IsAsked, IsFullTalkOf, IsOfLink, IsRoughTalkOf, IsRoughTalk, TwoEndsStep, two_ends_acting, link_requests, link_expires, link_sends, link_receives, two_ends_with_first_of}
use Rattle.laws_wire.proofs.Vocabulary.{All-weaker, IsFullTalk}
use Rattle.model_link.specs.TwoEnds as two_ends
use Rattle.laws_wire.proofs.Standing.{IsCarried, StationStands, gives-stands, expires-stands, asks-stands}
use Rattle.laws_wire.proofs.Talking.{Face, unheard, stands-lost, takes as takes_frame}

-- What is done on the wire, as it is done at the two ends.
abbrev pub asked_of : Request → LinkRequest
asked_of (Data s t octets) = LinkData octets
asked_of (SetBusy s t) = LinkSetBusy
asked_of other = LinkClearBusy

abbrev pub timer_of : Timer → LinkTimer
timer_of (timer_T200 s t) = T200
timer_of other = T203

abbrev pub step_of : EndStep → TwoEndsStep
step_of (requests r) = link_requests (asked_of r) false
step_of (expires timer) = link_expires (timer_of timer)
step_of sends = link_sends
step_of receives = link_receives
step_of loses = two_ends.loses

module _ (service : Service) (tei : ℕ) where
  -- the requests and the timers of a call
  pub for-asked : (P : Request → Type 0) → ((octets : List ℕ) → P (Data service tei octets)) → P (SetBusy service tei) → P (ClearBusy service tei)
      → (r : Request) → IsAsked service tei r → P r
  for-asked P own busy ready (Data s t octets) is = subst (λ s'. P (Data s' t octets)) (sym is.0) (subst (λ t'. P (Data service t' octets)) (sym is.1) (own octets))
  for-asked P own busy ready r is = grind arith

  pub each-timer : (P : Timer → Type 0) → P (timer_T200 service tei) → P (timer_T203 service tei) → (timer : Timer) → IsOfLink service tei timer → P timer
  each-timer o x y z is = grind arith

  pub full : (act : EndStep) → IsRoughTalkOf service tei act → IsFullTalkOf service tei act
  full act is = grind arith

  pub full-at : (k : StepAt) → IsRoughTalk service tei k → IsFullTalk service tei k
  full-at k is = grind (arith, full)

  -- Two stations stand for two ends.
  pub record Stand (c d : Config) (p q : ℕ) (w : Wire) (e : Ends) : Type 0 where
    pub near : StationStands c service tei p w.near e.near
    pub far : StationStands d service tei q w.far e.far

  module _ (c d : Config) (p q : ℕ) (face : Face c d) (w : Wire) (e : Ends) (h : Stand c d p q w e) where
    own : StationStands w.near.card.config service tei p w.near e.near
    own = subst (λ k. StationStands k service tei p w.near e.near) (sym h.near.config) h.near

    abbrev Follows : EndStep → Type 0
    Follows act = (acting act w ≡ w) ⊎ Stand c d p q (acting act w) (two_ends_acting (step_of act) e)

    near-so : (s' : Endpoint) (n' : LinkEndpoint) → StationStands w.near.card.config service tei p s' n' → Stand c d p q (record w { near = s' }) (record e { near = n' })
    near-so s' n' x = record { near = subst (λ k. StationStands k service tei p s' n') h.near.config x; far = h.far }

    asks-so : (r : Request) → ((l : Line) → aim_of_request r l ≡ at_requested service tei (asked_of r) (place_in l tei)) → Follows (requests r)
    asks-so r aims =
        elim (asks-stands service tei p w.near e.near own r (asked_of r) aims) [
          | inl same ↦ inl (ap (λ s. record w { near = s }) same)
          | inr g ↦ inr (near-so (happens (request r) w.near) (with_link (requested (asked_of r) false) e.near) g.stands)
        ]

    expires-so : (timer : Timer) → ((l : Line) → aim_of_expiry timer l ≡ at_timer service tei (timer_of timer) (place_in l tei)) → Follows (expires timer)
    expires-so timer aims = inr (near-so _ _ (expires-stands service tei p w.near e.near own timer (timer_of timer) aims))

    takes-so : (way : List Parts) → e.far.way ≡ way → StationStands c service tei p (with_first_of (map (spelling (own_side d)) way) w.near) (two_ends_with_first_of way e.near)
    takes-so [] is = h.near
    takes-so (f ∷ fs) is =
        (takes_frame service tei p unheard c d face w.near e.near f h.near (All-head (IsCarried d service tei) f fs (subst (All (IsCarried d service tei)) is h.far.carried))).stands

    -- each step is one of the ends, or none
    pub follows : (act : EndStep) → IsFullTalkOf service tei act → Follows act
    follows (requests r) is =
        for-asked (λ r. Follows (requests r)) (λ octets. asks-so (Data service tei octets) (λ l. refl)) (asks-so (SetBusy service tei) (λ l. refl))
        (asks-so (ClearBusy service tei) (λ l. refl)) r is
    follows (expires timer) is =
        each-timer (λ timer. Follows (expires timer)) (expires-so (timer_T200 service tei) (λ l. refl)) (expires-so (timer_T203 service tei) (λ l. refl)) timer is
    follows sends is = inr (near-so _ _ (gives-stands service tei p w.near e.near own))
    follows receives is = inr (record {
      near =
          subst (λ ways. StationStands c service tei p (with_first_of ways w.near) (two_ends_with_first_of e.far.way e.near)) (sym h.far.way) (takes-so e.far.way refl);
      far = stands-lost service tei q unheard d w.far e.far h.far;
    })
    follows loses is = inr (record { near = stands-lost service tei p unheard c w.near e.near h.near; far = h.far })

  -- So what each step of either end leaves so at two ends is so in a whole run.
  abbrev pub AtEither : (EndStep → Type 0) → StepAt → Type 0
  AtEither Talk (at_near act) = Talk act
  AtEither Talk (at_far act) = Talk act

  module _ (Talk : EndStep → Type 0) (its : (act : EndStep) → Talk act → IsFullTalkOf service tei act) (P : LinkEndpoint → LinkEndpoint → Type 0) (turns : (n m : LinkEndpoint) → P n m → P m n)
      (on : (act : EndStep) → Talk act → (e : Ends) → P e.near e.far → let e' = two_ends_acting (step_of act) e in P e'.near e'.far) where
    pub record StandSo (c d : Config) (p q : ℕ) (w : Wire) : Type 0 where
      pub ends : Ends
      pub stand : Stand c d p q w ends
      pub so : P ends.near ends.far

    turned-so : (c d : Config) (p q : ℕ) (w : Wire) → StandSo c d p q w → StandSo d c q p (turned w)
    turned-so c d p q w h =
        record { ends = record { near = h.ends.far; far = h.ends.near }; stand = record { near = h.stand.far; far = h.stand.near }; so = turns h.ends.near h.ends.far h.so }

    acts-so : (c d : Config) (p q : ℕ) → Face c d → (act : EndStep) → Talk act → (w : Wire) → StandSo c d p q w → StandSo c d p q (acting act w)
    acts-so c d p q face act is w h =
        elim (follows c d p q face w h.ends h.stand act (its act is)) [
          | inl same ↦ subst (StandSo c d p q) (sym same) h
          | inr y ↦ record { ends = two_ends_acting (step_of act) h.ends; stand = y; so = on act is h.ends h.so }
        ]

    module _ (c d : Config) (p q : ℕ) (face : Face c d) (back : Face d c) where
      step-so : (k : StepAt) → AtEither Talk k → (w : Wire) → StandSo c d p q w → StandSo c d p q (doing k w)
      step-so (at_near act) is w h = acts-so c d p q face act is w h
      step-so (at_far act) is w h = turned-so d c q p (acting act (turned w)) (acts-so d c q p back act is (turned w) (turned-so c d p q w h))

      pub runs-so : (ds : List StepAt) → All (AtEither Talk) ds → (w : Wire) → StandSo c d p q w → StandSo c d p q (doing_all ds w)
      unfolding doing_all
      runs-so [] all w h = h
      runs-so (k ∷ ds) all w h = runs-so ds (All-tail (AtEither Talk) k ds all) (doing k w) (step-so k (All-head (AtEither Talk) k ds all) w h)

  -- They stand for two ends throughout.
  module _ (c d : Config) (p q : ℕ) (face : Face c d) (back : Face d c) where
    pub stands-on : (ds : List StepAt) → All (IsFullTalk service tei) ds → (w : Wire) (e : Ends) → Stand c d p q w e → (e' : Ends) × Stand c d p q (doing_all ds w) e'
    stands-on ds all w e h =
        let x =
        runs-so (IsFullTalkOf service tei) (λ act is. is) (λ n m. Unit {0}) (λ n m h. h) (λ act is e h. h) c d p q face back ds
        (All-weaker (IsFullTalk service tei) (AtEither (IsFullTalkOf service tei)) (λ k is. grind arith) ds all) w (record { ends = e; stand = h; so = tt }) in
        (x.ends, x.stand)
