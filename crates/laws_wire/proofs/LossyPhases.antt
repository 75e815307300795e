-- A call in which frames are lost and timers expire: SABME goes as often as T200 expires; then the other end is up, and UA may be on
-- its way, or lost; and then both are up, and SABME may still be on its way. Or an error was told.
use Rattle.laws_wire.proofs.Vocabulary.{arith, ◌≡◌, ℕ, List, [], ◌∷◌, map, refl, sym, ap, subst, ◌∙◌, ◌⊎◌, inl, inr, All, All-head, Service, Timer, Parts, spelling, ControlFrame, Terms, LinkTimer, fresh, LinkEndpoint, Config, LineTold, at_timer, aim_of_expiry, Line, place_in, terms, Request, Data, Endpoint, Wire, requests, receives, loses, acting, turned, confirmed, indicated, IsOfLink}
use Rattle.laws_wire.proofs.Vocabulary.{IsRoughTalkOf, timer_T201, timer_T200, timer_T203, own_side}
use Rattle.model_link.specs.declared.timers.LinkTimer.TheVariants as link_timer
use Rattle.laws_wire.proofs.Acting.{UpAt}
use Rattle.laws_wire.proofs.Calling.{ua, end, caller}
use Rattle.laws_wire.proofs.Held.{Held, Erred}
use Rattle.laws_wire.proofs.Ringing.{ringing, IsSabme, AreSabmes, Tries}
use Rattle.laws_wire.proofs.Standing.{IsCarried}
use Rattle.laws_wire.proofs.Answered.{lost-none, takes-none}

abbrev pub made : Wire → Endpoint → Wire
made w s = record { near = w.near; far = s }

module _ (service : Service) (tei : ℕ) where
  -- the requests and timers of a call
  pub for-data : (P : Request → Type 0) → ((octets : List ℕ) → P (Data service tei octets)) → (r : Request) → IsRoughTalkOf service tei (requests r) → P r
  for-data P own r is = grind arith

  abbrev pub Aims : Timer → LinkTimer → Type 0
  Aims timer its = (l : Line) → aim_of_expiry timer l ≡ at_timer service tei its (place_in l tei)

  pub for-timer : (P : Timer → Type 0) → ((timer : Timer) (its : LinkTimer) → Aims timer its → P timer) → (timer : Timer) → IsOfLink service tei timer → P timer
  for-timer P own (timer_T200 s t) is =
      subst (λ s'. P (timer_T200 s' t)) (sym is.0) (subst (λ t'. P (timer_T200 service t')) (sym is.1) (own (timer_T200 service tei) link_timer.T200 (λ l. refl)))
  for-timer P own (timer_T203 s t) is =
      subst (λ s'. P (timer_T203 s' t)) (sym is.0) (subst (λ t'. P (timer_T203 service t')) (sym is.1) (own (timer_T203 service tei) link_timer.T203 (λ l. refl)))
  for-timer P own timer_T201 is = absurd is
  for-timer P own other is = elim is [ ]

  -- the first frame on the way of a station
  pub first-way : (k : Config) (place : ℕ) (past : List LineTold) (s : Endpoint) (n : LinkEndpoint) (f : Parts) (fs : List Parts) → n.way ≡ f ∷ fs → Held k service tei place past s n
      → (s.way ≡ spelling (own_side k) f ∷ map (spelling (own_side k)) fs) × IsCarried k service tei f
  first-way k place past s n f fs e h =
      (h.stands.way ∙ ap (map (spelling (own_side k))) e, All-head (IsCarried k service tei) f fs (subst (All (IsCarried k service tei)) e h.stands.carried))

  -- where none is on its way
  module _ (k : Config) (place : ℕ) (past : List LineTold) (s : Endpoint) (n : LinkEndpoint) (h : Held k service tei place past s n) (none : n.way ≡ []) where
    pub empty : s.way ≡ []
    empty = h.stands.way ∙ ap (map (spelling (own_side k))) none

  -- Both ends are up, and SABMEs may still be on either way, before what a link that is up sends.
  pub record IsUpWith (c d : Config) (p q : ℕ) (past other : List LineTold) (w : Wire) : Type 0 where
    pub n : LinkEndpoint
    pub m : LinkEndpoint
    pub first : List Parts
    pub second : List Parts
    pub there : List Parts
    pub here : List Parts
    pub sabmes : All (IsSabme (terms c service tei)) first
    pub others : All (IsSabme (terms d service tei)) second
    pub near : UpAt service tei p past c w.near n m first there here
    pub far : UpAt service tei q other d w.far m n second here there

  abbrev pub turned-with : (c d : Config) (p q : ℕ) (past other : List LineTold) (w : Wire) → IsUpWith c d p q past other w → IsUpWith d c q p other past (turned w)
  turned-with c d p q past other w h =
      record { n = h.m; m = h.n; first = h.second; second = h.first; there = h.here; here = h.there; sabmes = h.others; others = h.sabmes; near = h.far; far = h.near }

  module _ (c d : Config) (p q : ℕ) where
    abbrev t : Terms
    t = terms c service tei

    abbrev u : Terms
    u = terms d service tei

    -- ---- the phases

    pub record IsRinging (w : Wire) : Type 0 where
      pub repeats : Tries
      pub waiting : List ControlFrame
      pub way : List Parts
      pub near : Held c service tei p [] w.near (end t (ringing repeats waiting) way)
      pub far : Held d service tei q [] w.far (end u fresh [])
      pub sabmes : AreSabmes t way waiting

    abbrev pub UaOrNone : List Parts → Type 0
    UaOrNone first = (first ≡ []) ⊎ (first ≡ ua u ∷ [])

    pub record IsHalf (w : Wire) : Type 0 where
      pub repeats : Tries
      pub waiting : List ControlFrame
      pub way : List Parts
      pub near : Held c service tei p [] w.near (end t (ringing repeats waiting) way)
      pub sabmes : AreSabmes t way waiting
      pub m : LinkEndpoint
      pub first : List Parts
      pub line : List Parts
      pub is_ua : UaOrNone first
      pub far : UpAt service tei q (indicated service tei ∷ []) d w.far m (end t caller []) first line []

    abbrev pub IsUp : Wire → Type 0
    IsUp w = IsUpWith c d p q (confirmed service tei ∷ []) (indicated service tei ∷ []) w

    abbrev pub Goes : Wire → Type 0
    Goes w = IsRinging w ⊎ IsHalf w ⊎ IsUp w

    abbrev pub HasErred : Wire → Type 0
    HasErred w = Erred w.near ⊎ Erred w.far

    abbrev pub Went : Wire → Type 0
    Went w = Goes w ⊎ HasErred w

    pub as-up : (w : Wire) → IsUp w → Went w
    as-up w h = inl (inr (inr h))

    -- where none is on its way none is taken, and none is lost
    pub no-take : (w : Wire) → w.far.way ≡ [] → Went w → Went (acting receives w)
    no-take w e h = subst Went (sym (takes-none w e)) h

    pub no-take_far : (w : Wire) → w.near.way ≡ [] → Went w → Went (turned (acting receives (turned w)))
    no-take_far w e h = subst Went (sym (ap turned (takes-none (turned w) e))) h

    pub no-loss_far : (w : Wire) → w.far.way ≡ [] → Went w → Went (turned (acting loses (turned w)))
    no-loss_far w e h = subst (λ s. Went (made w s)) (sym (lost-none w.far e)) h
