-- A whole call in which UA may be lost: what is told, and that all has come where no turn is left and T200 runs at neither end.
use Rattle.laws_wire.proofs.Vocabulary.{◌≡◌, ℕ, ◌==◌, Bool, true, false, cond, ◌&&◌, ◌||◌, List, [], ◌∷◌, ◌++◌, length, map, refl, sym, ap, subst, ◌∙◌, ◌⊎◌, inl, inr, append-nil, append_assoc, arith, All, All-head, All-tail, Service, Parts, ControlFrame, spelling, fresh, IsInRange, LinkEndpoint, frames_of, Config, LineTold, T203, expiry, terms, T200, Endpoint, Wire, happens, EndStep, requests}
use Rattle.laws_wire.proofs.Vocabulary.{expires, sends, receives, loses}
use Rattle.laws_wire.proofs.Vocabulary.{acting, turned, StepAt, at_near, at_far, doing, doing_all, is_any, confirmed, indicated, heard_in, is_final, IsTimelyOf, eqb-true, timer_T200, timer_T203, IsFullTalkOf, IsFullTalk, IsPatient, StayPatient, Called, error_f, renewed, told_of_sabme, with_sabme, takes_sabme, gives_information, seeing, seen, and-false, own_side, requested, with_link}
use Rattle.laws_wire.proofs.Awaited.{awaits-is, none-there}
use Rattle.laws_wire.proofs.Calling.{end, answering, sabme, ua}
use Rattle.laws_wire.proofs.Held.{Held, held-lost, held-expired}
use Rattle.laws_wire.proofs.Simulated.{for-asked, each-timer, asked_of}
use Rattle.laws_wire.proofs.LooseUp.{LooseUp, loose-turned-up, loose-acts}
use Rattle.laws_wire.proofs.Ringing.{ringing, its_sabme, Tries}
use Rattle.laws_wire.proofs.StillRinging.{hears-sabme}
use Rattle.laws_wire.proofs.Talking.{Face}
use Rattle.laws_wire.proofs.TimelyFirst.{takes-none, gives-nothing, asks-still}
use Rattle.laws_wire.proofs.UaBefore.{more-told, with_before, timely-with}
use Rattle.laws_wire.proofs.UaCalledAt.{none-informed}
use Rattle.laws_wire.proofs.UaLost.{behind, Rings, Ringing, ringing-takes, near-rings, near-waits}
use Rattle.laws_wire.proofs.UaPhases.{IsAway, IsWaiting, Comes, away-loses, away-gives, away-acts, waiting-loses, waiting-gives, waiting-acts, is-awaited, comes-acts, comes-gives, comes-loses, comes-takes, comes-awaited}
use Rattle.laws_wire.proofs.UaRenewed.{more_told, TookSabme, sabme-renews}

module _ (service : Service) (tei : ℕ) (c d : Config) (p q : ℕ) (face : Face c d) (back : Face d c) (rt : IsInRange (terms c service tei)) (ru : IsInRange (terms d service tei)) where
  abbrev pub its_near : List LineTold
  its_near = confirmed service tei ∷ []

  abbrev pub Away : List LineTold → Bool → Endpoint → Type 0
  Away past b s = IsAway service tei c d p q face back rt ru past b s

  abbrev pub Waiting : List LineTold → Bool → Endpoint → Type 0
  Waiting past b s = IsWaiting service tei c d p q face back rt ru past b s

  abbrev pub Coming : List LineTold → Bool → Wire → Type 0
  Coming past b w = Comes service tei c d p q face back rt ru past b w

  abbrev pub R : (Endpoint → Type 0) → List ControlFrame → List Parts → Wire → Type 0
  R P ws way w = Rings service tei c d p q face back rt ru P ws way w

  abbrev pub Rs : (Endpoint → Type 0) → Wire → Type 0
  Rs P w = Ringing service tei c d p q face back rt ru P w

  abbrev down : LinkEndpoint
  down = end (terms d service tei) fresh []

  abbrev pub Down : Endpoint → Type 0
  Down s = Held d service tei q [] s down

  abbrev pub Up : List LineTold → Wire → Type 0
  Up past w = LooseUp service tei c d p q its_near past w

  -- SABME was taken, and so it was told; and UA is to come, or came
  abbrev pub IsSure : List LineTold → Bool → Wire → Type 0
  IsSure past b w = R (Waiting past b) [] [] w ⊎ Coming past b w ⊎ Up past w

  -- or it is not to come
  abbrev pub IsCalled : List LineTold → Bool → Wire → Type 0
  IsCalled past b w = Rs (Away past b) w ⊎ IsSure past b w

  -- ---- what the near end does

  sure-but : (past : List LineTold) (b : Bool) (w : Wire) → IsSure past b w → (act : EndStep) → (act ≡ receives → ⊥) → IsFullTalkOf service tei act → IsTimelyOf act w → IsSure past b (acting act w)
  sure-but past b w (inl h) act not is x =
      let awaited = λ (x : IsTimelyOf (expires (timer_T200 service tei)) w).
      is-awaited service tei c d p q face back rt ru past b (turned w) h.far
      (none-there service tei d q w.far h.far.M h.far.held.stands is_final (x.0 (awaits-is service tei c p w.near (end (terms c service tei) (ringing h.repeats []) []) h.near.stands)).responses) in
      inl (record { repeats = h.repeats; near = near-waits service tei c d p q face back rt ru h.repeats w h.near awaited act not is x; far = subst (Waiting past b) (sym (grind arith)) h.far })
  sure-but past b w (inr (inl h)) act not is x =
      let awaited = λ (x : IsTimelyOf (expires (timer_T200 service tei)) w).
      comes-awaited service tei c d p q face back rt ru past b w h
      (none-there service tei d q w.far (whole h) h.far.stands is_final (x.0 (awaits-is service tei c p w.near (end (terms c service tei) (ringing h.repeats []) []) h.near.stands)).responses) in
      inr (inl (record {
        repeats = h.repeats;
        near = near-waits service tei c d p q face back rt ru h.repeats w h.near awaited act not is x;
        m = h.m;
        stale = h.stale;
        far = subst (λ s. Held d service tei q past s (whole h)) (sym (grind arith)) h.far;
        rising = h.rising;
        loose = h.loose;
        rejecting = h.rejecting;
        flag = h.flag;
      }))
    where
      whole : Coming past b w → LinkEndpoint
      whole h = behind (h.stale ++ ua (terms d service tei) ∷ []) h.m
  sure-but past b w (inr (inr h)) act not is x = inr (inr (loose-acts service tei c d p q face its_near past w h act is x))

  near-but : (past : List LineTold) (b : Bool) (w : Wire) → IsCalled past b w → (act : EndStep) → (act ≡ receives → ⊥) → IsFullTalkOf service tei act → IsTimelyOf act w → IsCalled past b (acting act w)
  near-but past b w (inl h) act not is x = inl (near-rings service tei c d p q face back rt ru (Away past b) w h act not is x)
  near-but past b w (inr h) act not is x = inr (sure-but past b w h act not is x)

  module _ (past : List LineTold) (b : Bool) (w : Wire) where
    away-takes : (ws : List ControlFrame) (way : List Parts) → R (Away past b) ws way w → R (Away past b) ws way (acting receives w)
    away-takes ws way h =
        ringing-takes service tei c d p q face back rt ru (Away past b) ws way w h (away-loses service tei c d p q face back rt ru past b (turned w) h.far) past h.far.M h.far.held
        h.far.M.link.r (frames_of h.far.M.terms h.far.M.link.waiting) h.far.rising

    sure-takes : IsSure past b w → IsSure past b (acting receives w)
    sure-takes (inl h) =
        inl (ringing-takes service tei c d p q face back rt ru (Waiting past b) [] [] w h (waiting-loses service tei c d p q face back rt ru past b (turned w) h.far) past h.far.M h.far.held 0
        (frames_of (terms d service tei) h.far.old) h.far.rising)
    sure-takes (inr (inl h)) = inr (comes-takes service tei c d p q face back rt ru past b w h)
    sure-takes (inr (inr h)) = inr (inr (loose-acts service tei c d p q face its_near past w h receives tt tt))

    near-takes : IsCalled past b w → IsCalled past b (acting receives w)
    near-takes (inl (inl h)) = inl (inl (away-takes [] [] h))
    near-takes (inl (inr (inl h))) = inl (inr (inl (away-takes (its_sabme ∷ []) [] h)))
    near-takes (inl (inr (inr h))) = inl (inr (inr (away-takes [] (sabme (terms c service tei) ∷ []) h)))
    near-takes (inr h) = inr (sure-takes h)

  -- each act, where it is so of all but that it takes
  pub by-act : (P : EndStep → Type 0) → ((act : EndStep) → (act ≡ receives → ⊥) → P act) → P receives → (act : EndStep) → P act
  by-act P but takes act = grind arith

  near-called : (past : List LineTold) (b : Bool) (w : Wire) → IsCalled past b w → (act : EndStep) → IsFullTalkOf service tei act → IsTimelyOf act w → IsCalled past b (acting act w)
  near-called past b w h =
      by-act (λ act. IsFullTalkOf service tei act → IsTimelyOf act w → IsCalled past b (acting act w)) (λ act not is x. near-but past b w h act not is x) (λ is x. near-takes past b w h)

  pub sure-near : (past : List LineTold) (b : Bool) (w : Wire) → IsSure past b w → (act : EndStep) → IsFullTalkOf service tei act → IsTimelyOf act w → IsSure past b (acting act w)
  sure-near past b w h =
      by-act (λ act. IsFullTalkOf service tei act → IsTimelyOf act w → IsSure past b (acting act w)) (λ act not is x. sure-but past b w h act not is x) (λ is x. sure-takes past b w h)

  -- ---- what the far end does

  abbrev done : EndStep → Wire → Wire
  done act w = turned (acting act (turned w))

  rings-far : (P P' : Endpoint → Type 0) (ws : List ControlFrame) (way : List Parts) (w w' : Wire) → w'.near ≡ w.near → (P w.far → P' w'.far) → R P ws way w → R P' ws way w'
  rings-far P P' ws way w w' same on h = grind (arith, end, ringing)

  all-far : (P P' : Endpoint → Type 0) (w w' : Wire) → w'.near ≡ w.near → (P w.far → P' w'.far) → Rs P w → Rs P' w'
  all-far P P' w w' same on (inl h) = inl (rings-far P P' [] [] w w' same on h)
  all-far P P' w w' same on (inr (inl h)) = inr (inl (rings-far P P' (its_sabme ∷ []) [] w w' same on h))
  all-far P P' w w' same on (inr (inr h)) = inr (inr (rings-far P P' [] (sabme (terms c service tei) ∷ []) w w' same on h))

  up-far : (past : List LineTold) (w : Wire) → Up past w → (act : EndStep) → IsFullTalkOf service tei act → IsTimelyOf act (turned w) → Up past (done act w)
  up-far past w h act is x =
      loose-turned-up service tei d c q p past its_near (acting act (turned w))
      (loose-acts service tei d c q p back past its_near (turned w) (loose-turned-up service tei c d p q its_near past w h) act is x)

  -- it takes SABME, or nothing
  module _ (w : Wire) where
    empty-way : (n : LinkEndpoint) (ts : List LineTold) → Held c service tei p ts w.near n → n.way ≡ [] → w.near.way ≡ []
    empty-way n ts h none = h.stands.way ∙ ap (map (spelling (own_side c))) none

    stays : (A : Wire → Type 0) → w.near.way ≡ [] → A w → A (done receives w)
    stays A none h = subst A (sym (ap turned (takes-none (turned w) none))) h

    none-comes : (A : Wire → Type 0) (k : Tries) → Held c service tei p [] w.near (end (terms c service tei) (ringing k []) []) → A w → (takes_sabme w ≡ false) × A (done receives w)
    none-comes A k near h =
        let none = empty-way (end (terms c service tei) (ringing k []) []) [] near refl in
        (ap (λ way. is_any way && length (heard_in w.near) == 0) none, stays A none h)

    told-no : (n : LinkEndpoint) → Held c service tei p its_near w.near n → takes_sabme w ≡ false
    told-no n h = grind (arith, eqb-true, and-false)

  -- it is asked, or a timer expires
  module _ (past : List LineTold) (b : Bool) (w : Wire) (act : EndStep) (untaken : act ≡ receives → ⊥) (not : act ≡ sends → ⊥) (nor : act ≡ loses → ⊥) (is : IsFullTalkOf service tei act)
      (x : IsTimelyOf act (turned w)) where
    pub sure-stirs : IsSure past b w → IsSure past b (done act w)
    sure-stirs (inl h) =
        inl (rings-far (Waiting past b) (Waiting past b) [] [] w (done act w) (grind arith) (λ y. waiting-acts service tei c d p q face back rt ru past b (turned w) y act untaken not is x) h)
    sure-stirs (inr (inl h)) = inr (inl (comes-acts service tei c d p q face back rt ru past b w h act untaken not nor is x))
    sure-stirs (inr (inr h)) = inr (inr (up-far past w h act is x))

    far-stirs : IsCalled past b w → IsCalled past b (done act w)
    far-stirs (inl h) =
        inl (all-far (Away past b) (Away past b) w (done act w) (grind arith) (λ y. away-acts service tei c d p q face back rt ru past b (turned w) y act untaken not is x) h)
    far-stirs (inr h) = inr (sure-stirs h)

  module _ (past : List LineTold) (b : Bool) (w : Wire) where
    abbrev now : Bool
    now = b || gives_information w.far

    pub sure-gives : IsSure past b w → IsSure past now (done sends w)
    sure-gives (inl h) = go (waiting-gives service tei c d p q face back rt ru past b (turned w) h.far h.repeats (done sends w) h.near refl)
      where
        go : Waiting past now (done sends w).far ⊎ Coming past now (done sends w) → IsSure past now (done sends w)
        go (inl y) = inl (record { repeats = h.repeats; near = h.near; far = y })
        go (inr y) = inr (inl y)
    sure-gives (inr (inl h)) = inr (inl (comes-gives service tei c d p q face back rt ru past b w h))
    sure-gives (inr (inr h)) = inr (inr (up-far past w h sends tt tt))

    far-gives : IsCalled past b w → IsCalled past now (done sends w)
    far-gives (inl h) = inl (all-far (Away past b) (Away past now) w (done sends w) refl (λ y. away-gives service tei c d p q face back rt ru past b (turned w) y) h)
    far-gives (inr h) = inr (sure-gives h)

    -- UA may be lost, while the other was told nothing
    pub sure-loses : IsSure past b w → IsSure past b (done loses w) ⊎ ((heard_in w.near ≡ []) × IsCalled past b (done loses w))
    sure-loses (inl h) =
        inl (inl (rings-far (Waiting past b) (Waiting past b) [] [] w (done loses w) refl (λ y. waiting-loses service tei c d p q face back rt ru past b (turned w) y) h))
    sure-loses (inr (inl h)) =
        elim (comes-loses service tei c d p q face back rt ru past b w h) [
          | inl y ↦ inl (inr (inl y))
          | inr y ↦ inr (h.near.heard, inl (inl (record { repeats = h.repeats; near = h.near; far = y })))
        ]
    sure-loses (inr (inr h)) = inl (inr (inr (up-far past w h loses tt tt)))

    far-loses : IsCalled past b w → IsCalled past b (done loses w)
    far-loses (inl h) = inl (all-far (Away past b) (Away past b) w (done loses w) refl (λ y. away-loses service tei c d p q face back rt ru past b (turned w) y) h)
    far-loses (inr h) = elim (sure-loses h) [ inl y ↦ inr y | inr (untold, y) ↦ y ]

    -- it takes no SABME then
    pub sure-hears : IsSure past b w → (takes_sabme w ≡ false) × IsSure past b (done receives w)
    sure-hears (inl h) = none-comes w (IsSure past b) h.repeats h.near (inl h)
    sure-hears (inr (inl h)) = none-comes w (IsSure past b) h.repeats h.near (inr (inl h))
    sure-hears (inr (inr h)) = (told-no w h.n h.near, inr (inr (up-far past w h receives tt tt)))

    abbrev Takes : Type 0
    Takes = ((takes_sabme w ≡ false) × IsCalled past b (done receives w)) ⊎ ((takes_sabme w ≡ true) × TookSabme service tei c d p q face back rt ru past b w (done receives w))

    far-takes : IsCalled past b w → IsTimelyOf receives (turned w) → Takes
    far-takes (inl (inl h)) x = inl (none-comes w (IsCalled past b) h.repeats h.near (inl (inl h)))
    far-takes (inl (inr (inl h))) x = grind (arith, empty-way, end, ringing, its_sabme, stays)
    far-takes (inl (inr (inr h))) x =
        inr (
          ap (λ way. is_any way && length (heard_in w.near) == 0) h.near.stands.way ∙ ap (λ ts. length ts == 0) h.near.heard,
          sabme-renews service tei c d p q face back rt ru past w h.repeats h.near b h.far,
        )
    far-takes (inr h) x = let y = sure-hears h in inl (y.0, inr y.1)

  -- ---- while it is down

  module _ (w : Wire) where
    down-acts : Down w.far → (act : EndStep) → (act ≡ receives → ⊥) → IsFullTalkOf service tei act → Down (acting act (turned w)).near
    down-acts h (requests r) not is =
        asks-still service tei d q [] w.far down h r is (for-asked service tei (λ r. with_link (requested (asked_of r) false) down ≡ down) (λ octets. refl) refl refl r is)
    down-acts h (expires timer) not is =
        each-timer service tei (λ timer. Down (happens (expiry timer) w.far))
        (held-expired service tei q [] d w.far down h (timer_T200 service tei) T200 (λ l. refl) (record { its_notes = refl; no_unit = refl }) refl)
        (held-expired service tei q [] d w.far down h (timer_T203 service tei) T203 (λ l. refl) (record { its_notes = refl; no_unit = refl }) refl) timer is
    down-acts h sends not is = gives-nothing service tei d q [] w.far down h refl
    down-acts h receives not is = absurd (not refl)
    down-acts h loses not is = held-lost service tei q [] d w.far down h

    pub down-far : Rs Down w → (act : EndStep) → (act ≡ receives → ⊥) → IsFullTalkOf service tei act → Rs Down (done act w)
    down-far h act not is = all-far Down Down w (done act w) (grind arith) (λ y. down-acts y act not is) h

    pub there : (P : Endpoint → Type 0) → Rs P w → P w.far
    there o x = grind arith

    pub down-takes : Rs Down w → ((takes_sabme w ≡ false) × Rs Down (done receives w)) ⊎ ((takes_sabme w ≡ true) × R (Waiting (indicated service tei ∷ []) false) [] [] (done receives w))
    down-takes (inl h) = inl (none-comes w (Rs Down) h.repeats h.near (inl h))
    down-takes (inr (inl h)) =
        let none = empty-way w (end (terms c service tei) (ringing h.repeats (its_sabme ∷ [])) []) [] h.near refl in
        inl ((ap (λ way. is_any way && length (heard_in w.near) == 0) none), stays w (Rs Down) none (inr (inl h)))
    down-takes (inr (inr h)) =
        let asker = end (terms c service tei) (ringing h.repeats []) (sabme (terms c service tei) ∷ []) in
        inr (
          ap (λ way. is_any way && length (heard_in w.near) == 0) h.near.stands.way ∙ ap (λ ts. length ts == 0) h.near.heard,
          record {
            repeats = h.repeats;
            near = held-lost service tei p [] c w.near asker h.near;
            far = record {
              M = end (terms d service tei) answering [];
              old = [];
              post = [];
              held = hears-sabme service tei d c q p back ru (turned w) h.far asker h.near (terms c service tei) [] refl;
              waits = refl;
              delivered = refl;
              rising = omega arith;
              poised = grind arith;
              flag = refl;
            };
          },
        )

    pub down-near : Rs Down w → (act : EndStep) → IsFullTalkOf service tei act → IsTimelyOf act w → Rs Down (acting act w)
    down-near h (requests r) is x = near-rings service tei c d p q face back rt ru Down w h (requests r) (λ e. cc e) is x
    down-near h (expires timer) is x = near-rings service tei c d p q face back rt ru Down w h (expires timer) (λ e. cc e) is x
    down-near h sends is x = near-rings service tei c d p q face back rt ru Down w h sends (λ e. cc e) is x
    down-near h receives is x = subst (Rs Down) (sym (takes-none w ((there Down h).stands.way))) h
    down-near h loses is x = near-rings service tei c d p q face back rt ru Down w h loses (λ e. cc e) is x

  -- ---- the whole call

  abbrev pub Phase : Called → Wire → Type 0
  Phase x v = ((x.told ≡ []) × (x.sent ≡ false) × Rs Down v) ⊎ (((length x.told == 0) ≡ false) × IsCalled x.told x.sent v)

  pub record Goes (x : Called) (w : Wire) : Type 0 where
    pub v : Wire
    pub earlier : List (List ℕ)
    pub is : w ≡ with_before earlier v
    pub given_up : x.given_up ≡ length earlier
    pub phase : Phase x v

  module _ (x : Called) (v : Wire) (g : List (List ℕ)) (up : x.given_up ≡ length g) where
    on : (v' : Wire) → (Rs Down v → Rs Down v') → (IsCalled x.told x.sent v → IsCalled x.told x.sent v') → Phase x v → Phase x v'
    on v' f f' (inl (told, sent, h)) = inl (told, sent, f h)
    on v' f f' (inr (some, h)) = inr (some, f' h)

    near-goes : Phase x v → (act : EndStep) → IsFullTalkOf service tei act → IsTimelyOf act (with_before g v) → Goes x (acting act (with_before g v))
    near-goes h act is timely =
        let timely' = timely-with act v.near v.far v.near.granted (g ++ v.far.granted) timely in
        record { v = acting act v; earlier = g; is = grind arith; given_up = up; phase = on (acting act v) (λ h. down-near v h act is timely') (λ h. near-called x.told x.sent v h act is timely') h }

    far-goes : (act : EndStep) → Phase x (done act v) → Goes x (done act (with_before g v))
    far-goes act h = record { v = done act v; earlier = g; is = grind (arith, append_assoc); given_up = up; phase = h }

    stirs-goes : Phase x v → (act : EndStep) → (act ≡ receives → ⊥) → (act ≡ sends → ⊥) → (act ≡ loses → ⊥) → IsFullTalkOf service tei act → IsTimelyOf act (turned (with_before g v))
        → Goes x (done act (with_before g v))
    stirs-goes h act untaken not nor is timely =
        far-goes act (on (done act v) (λ h. down-far v h act untaken is) (far-stirs x.told x.sent v act untaken not nor is (timely-with act v.far v.near (g ++ v.far.granted) v.near.granted timely)) h)

    loses-goes : Phase x v → Goes x (done loses (with_before g v))
    loses-goes h = far-goes loses (on (done loses v) (λ h. down-far v h loses (λ e. cc e) tt) (far-loses x.told x.sent v) h)

    gives-goes : Phase x v → Goes (record x { sent = x.sent || gives_information v.far }) (done sends (with_before g v))
    gives-goes h = record { v = done sends v; earlier = g; is = grind (arith, append_assoc); given_up = up; phase = go h }
      where
        go : Phase x v → Phase (record x { sent = x.sent || gives_information v.far }) (done sends v)
        go (inl (told, sent, h)) =
            inl (
              told,
              (λ i. sent i || none-informed service tei d q [] (turned v) down (there v Down h) refl i),
              down-far v h sends (λ e. cc e) tt,
            )
        go (inr (some, h)) = inr (some, far-gives x.told x.sent v h)

    abbrev taken : Called
    taken = with_sabme service tei (length (g ++ v.far.granted)) x

    sabme-goes : TookSabme service tei c d p q face back rt ru x.told x.sent v (done receives v) → (length x.told == 0) ≡ false → Goes taken (done receives (with_before g v))
    sabme-goes k some =
        let more = cond x.sent v.far.granted [] in
        record {
          v = k.v;
          earlier = g ++ more;
          is = (grind (arith, append_assoc)) ∙ ap (with_before g) k.is ∙ (λ i. record { near = k.v.near; far = record k.v.far { granted = sym (append_assoc g more k.v.far.granted) i } });
          given_up = grind (arith, append-nil);
          phase = inr (more-told x.told (told_of_sabme service tei x), subst (λ t. IsCalled (x.told ++ t ∷ []) false k.v) (sym told-is) (by k.far));
        }
      where
        told-is : told_of_sabme service tei x ≡ cond x.sent (renewed service tei) (error_f service tei)
        told-is = ap (λ b. cond b (indicated service tei) (cond x.sent (renewed service tei) (error_f service tei))) some

        by : Waiting (more_told service tei c d p q face back rt ru x.sent x.told) false k.v.far ⊎ Away (more_told service tei c d p q face back rt ru x.sent x.told) false k.v.far
            → IsCalled (more_told service tei c d p q face back rt ru x.sent x.told) false k.v
        by o = grind arith

    first-goes : x.told ≡ [] → x.sent ≡ false → R (Waiting (indicated service tei ∷ []) false) [] [] (done receives v) → Goes taken (done receives (with_before g v))
    first-goes told sent h = record {
      v = done receives v;
      earlier = g;
      is = grind (arith, append_assoc);
      given_up = ap (λ b. cond b (length (g ++ v.far.granted)) x.given_up) sent ∙ up;
      phase = inr (more-told x.told (told_of_sabme service tei x), subst (λ past. IsCalled past false (done receives v)) (sym told-is) (inr (inl h)));
    }
      where
        told-is : x.told ++ told_of_sabme service tei x ∷ [] ≡ indicated service tei ∷ []
        told-is = ap (λ ts. ts ++ cond (length ts == 0) (indicated service tei) (cond x.sent (renewed service tei) (error_f service tei)) ∷ []) told

    abbrev After : Bool → Type 0
    After b = Goes (cond b taken x) (done receives (with_before g v))

    takes-goes : Phase x v → Goes (cond (takes_sabme v) taken x) (done receives (with_before g v))
    takes-goes (inl (told, sent, h)) =
        elim (down-takes v h) [ inl (e, y) ↦ subst After (sym e) (far-goes receives (inl (told, sent, y))) | inr (e, y) ↦ subst After (sym e) (first-goes told sent y) ]
    takes-goes (inr (some, h)) =
        elim (far-takes x.told x.sent v h tt) [ inl (e, y) ↦ subst After (sym e) (far-goes receives (inr (some, y))) | inr (e, y) ↦ subst After (sym e) (sabme-goes y some) ]

  pub step : (x : Called) (k : StepAt) → IsFullTalk service tei k → (w : Wire) → IsPatient k w → Goes x w → Goes (seeing service tei k w x) (doing k w)
  step x k is w patient h = subst (λ w. IsPatient k w → Goes (seeing service tei k w x) (doing k w)) (sym h.is) (by k is) patient
    where
      by : (k : StepAt) → IsFullTalk service tei k → IsPatient k (with_before h.earlier h.v) → Goes (seeing service tei k (with_before h.earlier h.v) x) (doing k (with_before h.earlier h.v))
      by (at_near act) is timely = near-goes x h.v h.earlier h.given_up h.phase act is timely
      by (at_far (requests r)) is timely = stirs-goes x h.v h.earlier h.given_up h.phase (requests r) (λ e. cc e) (λ e. cc e) (λ e. cc e) is timely
      by (at_far (expires timer)) is timely = stirs-goes x h.v h.earlier h.given_up h.phase (expires timer) (λ e. cc e) (λ e. cc e) (λ e. cc e) is timely
      by (at_far sends) is timely = gives-goes x h.v h.earlier h.given_up h.phase
      by (at_far receives) is timely = takes-goes x h.v h.earlier h.given_up h.phase
      by (at_far loses) is timely = loses-goes x h.v h.earlier h.given_up h.phase

  pub patient-runs : (ds : List StepAt) → All (IsFullTalk service tei) ds → (w : Wire) → StayPatient ds w → (x : Called) → Goes x w → Goes (seen service tei ds w x) (doing_all ds w)
  unfolding doing_all StayPatient seen
  patient-runs [] all w patient x h = h
  patient-runs (k ∷ ds) all w patient x h =
      patient-runs ds (All-tail (IsFullTalk service tei) k ds all) (doing k w) patient.1 (seeing service tei k w x) (step x k (All-head (IsFullTalk service tei) k ds all) w patient.0 h)
