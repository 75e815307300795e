-- What is known of the links of a call in which UA may be lost: each runs the timer that it needs, and is busy only as it was asked.
use Rattle.laws_wire.proofs.Vocabulary.{arith, ◌≡◌, ℕ, ◌*◌, ◌≤◌, Bool, true, false, not, ◌&&◌, ◌||◌, IsTrue, List, [], ◌∷◌, ◌++◌, map, refl, sym, ap, subst, ◌∙◌, ◌⊎◌, inl, inr, true≢false, All, All-head, All-tail, Service, Timer, Parts, spelling, LinkTimer, is_multiple_frame, after, IsInRange, LinkEndpoint, with_link, Config, expiry, request, terms, next, Line, place_in, Request, Data, SetBusy}
use Rattle.laws_wire.proofs.Vocabulary.{ClearBusy, at_requested}
use Rattle.laws_wire.proofs.Vocabulary.{aim_of_request, sound-after, Endpoint, Wire, happens, frame_comes, with_first_of, EndStep, requests, expires, sends, receives, loses, acting, turned, StepAt, at_near, at_far, doing, doing_all, link_of, is_granted, answered, IsAsked, IsFullTalkOf, IsFullTalk, StayPatient, or_parts, frame, requested, LinkEvent, offer, expired, LinkSetBusy, received}
use Rattle.laws_wire.proofs.Vocabulary.{LinkClearBusy, LinkData, LinkRequest}
use Rattle.laws_wire.proofs.Vocabulary.{Called, seeing, HasItsTimer, timely-after, busy_asked, as_heard, each-row, own_side}
use Rattle.laws_wire.specs.Facing.{line_of}
use Rattle.laws_wire.specs.Settling.{Busy, busy_by, busy_behind, busy}
use Rattle.laws_wire.proofs.Awaited.{link-is}
use Rattle.laws_wire.proofs.Tame.{free as stays-free}
use Rattle.laws_wire.proofs.Simulated.{for-asked}
use Rattle.laws_wire.proofs.LossyPhases.{Aims, for-timer}
use Rattle.laws_wire.proofs.Standing.{IsCarried, StationStands, link-sound, link-ranges, gives-stands, expires-stands, Granted, asks-stands, asks-answered}
use Rattle.laws_wire.proofs.Talking.{Face, unheard, Took, takes as takes_frame}
use Rattle.laws_wire.proofs.UaBefore.{regranted}
use Rattle.laws_wire.proofs.UaLostRun.{Goes, step}
use Rattle.laws_wire.proofs.UaWeighs.{seen-in}

-- ---- own busy of a link

module _ (service : Service) (tei : ℕ) where
  pub record Known (b : Bool) (s : Endpoint) : Type 0 where
    pub timed : HasItsTimer (link_of service tei (line_of s))
    pub free : b ≡ false → (link_of service tei (line_of s)).own_busy ≡ false

  -- ---- what is done at a station

  module _ (c : Config) (p : ℕ) (s : Endpoint) (n : LinkEndpoint) (stands : StationStands c service tei p s n) (b : Bool) (known : Known b s) where
    own : StationStands s.card.config service tei p s n
    own = subst (λ k. StationStands k service tei p s n) (sym stands.config) stands

    is : (link_of service tei (line_of s)) ≡ n.link
    is = link-is service tei c p s n stands

    free : b ≡ false → n.link.own_busy ≡ false
    free none = ap (λ l. l.own_busy) (sym is) ∙ known.free none

    timed : (e : LinkEvent) → HasItsTimer (after n.terms e n.link)
    timed e =
        let sound = link-sound service tei p s n own in
        timely-after n.terms e n.link sound (sound-after n.terms (link-ranges service tei p s n own) e n.link sound) (subst HasItsTimer is known.timed)

    by-event : (e : LinkEvent) (s' : Endpoint) (b' : Bool) → (link_of service tei (line_of s')) ≡ after n.terms e n.link → (b' ≡ false → (after n.terms e n.link).own_busy ≡ false) → Known b' s'
    by-event e s' b' to calm = grind (arith, timed, free)

    mild : (e : LinkEvent) → busy_asked (as_heard n.terms e) false ≡ false → b ≡ false → (after n.terms e n.link).own_busy ≡ false
    mild e none off = stays-free n.terms e n.link none (free off)

    pub known-gives : Known b (happens next s)
    known-gives = by-event offer (happens next s) b (link-is service tei s.card.config p (happens next s) _ (gives-stands service tei p s n own)) (mild offer refl)

    pub known-expires : (timer : Timer) (its : LinkTimer) → Aims service tei timer its → Known b (happens (expiry timer) s)
    known-expires timer its aims =
        by-event (expired its) (happens (expiry timer) s) b
        (link-is service tei s.card.config p (happens (expiry timer) s) (with_link (expired its) n) (expires-stands service tei p s n own timer its aims)) (mild (expired its) refl)

    pub known-takes : (s' : Endpoint) (f : Parts) → StationStands c service tei p s' (with_link (received (frame f)) n) → Known b s'
    known-takes s' f then =
        by-event (received (frame f)) s' b (link-is service tei c p s' (with_link (received (frame f)) n) then) (mild (received (frame f)) refl)

    -- a request
    module _ (r : Request) (rq : LinkRequest) (aims : (l : Line) → aim_of_request r l ≡ at_requested service tei rq (place_in l tei)) where
      abbrev s' : Endpoint
      s' = happens (request r) s

      abbrev e : LinkEvent
      e = requested rq false

      asked : (b' : Bool) → (b' ≡ false → (after n.terms (requested rq false) n.link).own_busy ≡ false) → Granted service tei p s n own r rq aims s' → Known b' s'
      asked b' calm g = by-event (requested rq false) s' b' (link-is service tei s.card.config p s' (with_link (requested rq false) n) g.stands) calm

      same : (b' : Bool) → (b' ≡ false → b ≡ false) → s' ≡ s → Known b' s'
      same b' off none = subst (Known b') (sym none) (record { timed = known.timed; free = λ x. known.free (off x) })

      known-mild : busy_asked (requested rq false) false ≡ false → Known b s'
      known-mild none =
          elim (asks-stands service tei p s n own r rq aims) [ inl x ↦ same b (λ x. x) x | inr g ↦ asked b (mild (requested rq false) none) g ]

    known-busy : Known (b || is_granted (answered (request (SetBusy service tei)) s)) (happens (request (SetBusy service tei)) s)
    known-busy =
        let bit = is_granted (answered (request (SetBusy service tei)) s) in
        elim (asks-stands service tei p s n own (SetBusy service tei) LinkSetBusy (λ l. refl)) [
          | inl x ↦ same (SetBusy service tei) LinkSetBusy (λ l. refl) (b || bit) (λ off. (or_parts b bit off).0) x
          | inr g ↦ asked (SetBusy service tei) LinkSetBusy (λ l. refl) (b || bit) (λ off. absurd (true≢false (sym g.answer ∙ (or_parts b bit off).1))) g
        ]

    module _ (up : IsTrue (is_multiple_frame n.link.state) ⊎ (n.link.own_busy ≡ false)) where
      ready : (after n.terms (requested LinkClearBusy false) n.link).own_busy ≡ false
      ready = elim up [ inl x ↦ (grind (arith, each-row)) | inr none ↦ (grind (arith, each-row)) ]

      known-ready : Known (b && not (is_granted (answered (request (ClearBusy service tei)) s))) (happens (request (ClearBusy service tei)) s)
      known-ready = go (is_granted (answered (request (ClearBusy service tei)) s)) refl
        where
          go : (bit : Bool) → is_granted (answered (request (ClearBusy service tei)) s) ≡ bit → Known (b && not (is_granted (answered (request (ClearBusy service tei)) s))) (happens (request (ClearBusy service tei)) s)
          go true is =
              asked (ClearBusy service tei) LinkClearBusy (λ l. refl) _ (λ off. ready) (asks-answered service tei p s n own (ClearBusy service tei) LinkClearBusy (λ l. refl) is)
          go false is =
              elim (asks-stands service tei p s n own (ClearBusy service tei) LinkClearBusy (λ l. refl)) [
                | inl x ↦ same (ClearBusy service tei) LinkClearBusy (λ l. refl) _ (λ off. grind arith) x
                | inr g ↦ asked (ClearBusy service tei) LinkClearBusy (λ l. refl) _ (λ off. ready) g
              ]

      pub known-asked : (r : Request) → IsAsked service tei r → Known (busy_by (requests r) s b) (happens (request r) s)
      known-asked r is =
          for-asked service tei (λ r. Known (busy_by (requests r) s b) (happens (request r) s)) (λ octets. known-mild (Data service tei octets) (LinkData octets) (λ l. refl) refl)
          known-busy known-ready r is

  -- ---- and on a wire

  module _ (c d : Config) (p q : ℕ) (face : Face c d) (w : Wire) (n m : LinkEndpoint) (near : StationStands c service tei p w.near n) (far : StationStands d service tei q w.far m) (up : IsTrue (is_multiple_frame n.link.state) ⊎ (n.link.own_busy ≡ false))
      (b : Bool) (known : Known b w.near) where
    taken : (way : List Parts) → m.way ≡ way → Known b (with_first_of w.far.way w.near)
    taken [] e = subst (λ ways. Known b (with_first_of ways w.near)) (sym (far.way ∙ ap (map (spelling (own_side d))) e)) known
    taken (f ∷ fs) e =
        let carried = All-head (IsCarried d service tei) f fs (subst (All (IsCarried d service tei)) e far.carried) in
        let took : Took service tei p unheard c w.near n (spelling (own_side d) f) f = takes_frame service tei p unheard c d face w.near n f near carried in
        subst (λ ways. Known b (with_first_of ways w.near)) (sym (far.way ∙ ap (map (spelling (own_side d))) e))
        (known-takes c p w.near n near b known (frame_comes (spelling (own_side d) f) w.near) f took.stands)

    pub near-known : (act : EndStep) → IsFullTalkOf service tei act → Known (busy_by act w.near b) (acting act w).near
    near-known (requests r) is = known-asked c p w.near n near b known up r is
    near-known (expires timer) is = for-timer service tei (λ timer. Known b (happens (expiry timer) w.near)) (known-expires c p w.near n near b known) timer is
    near-known sends x = known-gives c p w.near n near b known
    near-known receives is = taken m.way refl
    near-known loses is = record { timed = known.timed; free = known.free }

  -- ---- and in a whole call

  abbrev pub BothKnown : Busy → Wire → Type 0
  BothKnown y w = Known y.near w.near × Known y.far w.far

  module _ (c d : Config) (p q : ℕ) (face : Face c d) (back : Face d c) (rt : IsInRange (terms c service tei)) (ru : IsInRange (terms d service tei)) (v : ℕ)
      (wide_c : 2 * (terms c service tei).k ≤ v) (wide_d : 2 * (terms d service tei).k ≤ v) where
    record Stood (w : Wire) : Type 0 where
      n : LinkEndpoint
      m : LinkEndpoint
      near : StationStands c service tei p w.near n
      far : StationStands d service tei q w.far m
      near_up : IsTrue (is_multiple_frame n.link.state) ⊎ (n.link.own_busy ≡ false)
      far_up : IsTrue (is_multiple_frame m.link.state) ⊎ (m.link.own_busy ≡ false)

    stood : (x : Called) (w : Wire) → Goes service tei c d p q face back rt ru x w → Stood w
    stood x w h =
        let s = seen-in service tei c d p q face back rt ru v wide_c wide_d x h.v h.phase in
        subst Stood (sym h.is) (record {
          n = s.n;
          m = s.m;
          near = s.near.stands;
          far = regranted d service tei q h.v.far s.m (h.earlier ++ h.v.far.granted) s.far.stands;
          near_up = s.near_up;
          far_up = s.far_up;
        })

    one-known : (k : StepAt) → IsFullTalk service tei k → (w : Wire) → Stood w → (y : Busy) → BothKnown y w → BothKnown (busy_behind k w y) (doing k w)
    one-known (at_near act) is w s y h = (near-known c d p q face w s.n s.m s.near s.far s.near_up y.near h.0 act is, (grind (arith, timed, free)))
    one-known (at_far act) is w s y h =
        ((grind (arith, timed, free)), near-known d c q p back (turned w) s.m s.n s.far s.near s.far_up y.far h.1 act is)

    pub runs-known : (ds : List StepAt) → All (IsFullTalk service tei) ds → (w : Wire) → StayPatient ds w → (x : Called) → Goes service tei c d p q face back rt ru x w → (y : Busy) → BothKnown y w
        → BothKnown (busy ds w y) (doing_all ds w)
    unfolding doing_all StayPatient busy
    runs-known [] all w patient x g y h = h
    runs-known (k ∷ ds) all w patient x g y h =
        let is = All-head (IsFullTalk service tei) k ds all in
        runs-known ds (All-tail (IsFullTalk service tei) k ds all) (doing k w) patient.1 (seeing service tei k w x) (step service tei c d p q face back rt ru x k is w patient.0 g)
        (busy_behind k w y) (one-known k is w (stood x w g) y h)
