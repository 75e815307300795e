-- Each step of a call in which UA may be lost makes what is left to do less; so its moves are bounded.
use Rattle.laws_wire.proofs.Vocabulary.{◌≡◌, ℕ, ◌+◌, ◌-◌, ◌*◌, ◌≤◌, Bool, false, cond, IsTrue, List, [], ◌∷◌, ◌++◌, length, refl, sym, ap, subst, ◌∙◌, ◌⊎◌, inl, inr, eqb-true, arith, Service, Parts, spelling, ControlFrame, Terms, Link, fresh, has_outstanding, has_room, is_multiple_frame, frames_of, after, Means, IsInRange, LinkEndpoint, with_link, Config, LineTold, terms, Rising, Endpoint}
use Rattle.laws_wire.proofs.Vocabulary.{Wire, frame_comes, without_first, EndStep, receives, acting, turned, StepAt, at_near, at_far, doing, IsFullTalkOf, IsTimelyOf, is_move, is_move_of, expiries_in, two_ends_with_first_of, two_ends_without_first, link_receives, Called, reports_in, own_side}
use Rattle.model_link.specs.Events as link
use Rattle.laws_wire.proofs.Answered.{takes-granted}
use Rattle.laws_wire.proofs.Calling.{end, its_ua, sabme, ua, takes-sabme}
use Rattle.laws_wire.proofs.Heft.{acts-pays}
use Rattle.laws_wire.proofs.Held.{Held, held-lost, taken-stands}
use Rattle.laws_wire.proofs.Loads.{load, load_way, load_waiting, may_reject, one-waits}
use Rattle.laws_wire.proofs.LoadsHeard.{frame-hears}
use Rattle.laws_wire.proofs.Loose.{Loose, loose-turned, loose-after}
use Rattle.laws_wire.proofs.LossyPhases.{first-way}
use Rattle.laws_wire.proofs.Rested.{TakesWell, takes-nothing, takes-well}
use Rattle.laws_wire.proofs.Ringing.{ringing, its_sabme, untouched, Tries}
use Rattle.laws_wire.proofs.Standing.{StationStands}
use Rattle.laws_wire.proofs.Talking.{Face}
use Rattle.laws_wire.proofs.UaCalled.{again, renews}
use Rattle.laws_wire.proofs.UaLost.{behind}
use Rattle.laws_wire.proofs.UaLostRun.{Away, Waiting, Coming, Rs, Down, IsCalled, Phase}
use Rattle.laws_wire.proofs.Weighing.{undelivered, weigh_of, Pays, heft, heft-is, pays-turned}

module _ (service : Service) (tei : ℕ) (c d : Config) (p q : ℕ) (face : Face c d) (back : Face d c) (rt : IsInRange (terms c service tei)) (ru : IsInRange (terms d service tei)) (v : ℕ)
    (wide_c : 2 * (terms c service tei).k ≤ v) (wide_d : 2 * (terms d service tei).k ≤ v) where
  abbrev t : Terms
  t = terms c service tei

  abbrev u : Terms
  u = terms d service tei

  abbrev P : ℕ → ℕ → ℕ → Wire → Wire → Type 0
  P moved expired reported w w' = Pays service tei v moved expired reported w w'

  abbrev Rung : Tries → List ControlFrame → List Parts → Endpoint → Type 0
  Rung k ws way s = Held c service tei p [] s (end t (ringing k ws) way)

  abbrev moved_by : EndStep → Wire → ℕ
  moved_by act w = cond {A = ℕ} (is_move_of act w) 1 0

  -- ---- the two ends, whatever the phase

  -- a link is up, or free
  abbrev pub IsUpOrFree : LinkEndpoint → Type 0
  IsUpOrFree n = IsTrue (is_multiple_frame n.link.state) ⊎ (n.link.own_busy ≡ false)

  pub record Seen (w : Wire) : Type 0 where
    pub n : LinkEndpoint
    pub m : LinkEndpoint
    pub past_n : List LineTold
    pub past_m : List LineTold
    pub near : Held c service tei p past_n w.near n
    pub far : Held d service tei q past_m w.far m
    pub there : m.link.r ≤ length n.link.contents
    pub here : n.link.r ≤ length m.link.contents
    pub near_up : IsUpOrFree n
    pub far_up : IsUpOrFree m

  -- an end that has received nothing
  record FarEnd (s : Endpoint) : Type 0 where
    m : LinkEndpoint
    past : List LineTold
    held : Held d service tei q past s m
    none : m.link.r ≤ 0
    up : IsUpOrFree m

  abbrev of-away : (past : List LineTold) (b : Bool) (s : Endpoint) → Away service tei c d p q face back rt ru past b s → FarEnd s
  of-away past b s h = let none = h.r in record { m = h.M; past = past; held = h.held; none = omega (arith, none); up = inl h.up }

  abbrev of-waiting : (past : List LineTold) (b : Bool) (s : Endpoint) → Waiting service tei c d p q face back rt ru past b s → FarEnd s
  of-waiting past b s h = let none = h.poised.r in record { m = h.M; past = past; held = h.held; none = omega (arith, none); up = inl h.poised.up }

  abbrev of-down : (s : Endpoint) → Down service tei c d p q face back rt ru s → FarEnd s
  of-down s h = record { m = end u fresh []; past = []; held = h; none = omega arith; up = inr refl }

  abbrev of-coming : (past : List LineTold) (b : Bool) (w : Wire) → Coming service tei c d p q face back rt ru past b w → FarEnd w.far
  of-coming past b w h = record { m = behind (h.stale ++ ua u ∷ []) h.m; past = past; held = h.far; none = h.loose.joined.there.accepted; up = inl h.loose.joined.far_up }

  all-rung : (Q : Endpoint → Type 0) (w : Wire) → ((s : Endpoint) → Q s → FarEnd s) → Rs service tei c d p q face back rt ru Q w → Seen w
  all-rung Q w of (inl h) = grind (arith, end, ringing)
  all-rung Q w of (inr (inl h)) = grind (arith, end, ringing)
  all-rung Q w of (inr (inr h)) = grind (arith, end, ringing)

  called-seen : (past : List LineTold) (b : Bool) (w : Wire) → IsCalled service tei c d p q face back rt ru past b w → Seen w
  called-seen past b w (inl h) = all-rung (Away service tei c d p q face back rt ru past b) w (of-away past b) h
  called-seen past b w (inr (inl h)) = grind (arith, end, ringing)
  called-seen past b w (inr (inr (inl h))) = grind (arith, end, ringing)
  called-seen past b w (inr (inr (inr h))) = grind arith

  pub seen-in : (x : Called) (w : Wire) → Phase service tei c d p q face back rt ru x w → Seen w
  seen-in x w (inl (told, sent, h)) = all-rung (Down service tei c d p q face back rt ru) w of-down h
  seen-in x w (inr (some, h)) = called-seen x.told x.sent w h

  -- ---- the near end takes

  module _ (k : Tries) (ws : List ControlFrame) (way : List Parts) (w : Wire) (near : Rung k ws way w.near) (f : FarEnd w.far) where
    ignores-one : (g : Parts) (gs : List Parts) → f.m.way ≡ g ∷ gs → (number : ℕ) → Means number g.control → P (moved_by receives w) 0 0 w (acting receives w)
    ignores-one g gs e number means =
        let l = ringing k ws in
        let well : TakesWell v l (after t (link.received (link.frame g)) l) g × ((after t (link.received (link.frame g)) l).r ≤ length f.m.link.contents) =
        subst (λ l'. TakesWell v l l' g × (l'.r ≤ length f.m.link.contents)) (sym (untouched t k ws g number means)) (record { contents = refl; falls = inl (refl, omega arith) }, omega arith) in
        takes-well service tei c d p q [] f.past face v w (end t l way) f.m near f.held f.none g gs e well.0 well.1

    ringing-takes : (r : ℕ) (rest : List Parts) → Rising 0 r (f.m.way ++ rest) → P (moved_by receives w) 0 0 w (acting receives w)
    ringing-takes r rest x = go f.m.way refl
      where
        go : (its : List Parts) → f.m.way ≡ its → P (moved_by receives w) 0 0 w (acting receives w)
        go [] e = takes-nothing service tei c d p q [] f.past face v w (end t (ringing k ws) way) f.m near f.held f.none e
        go (g ∷ gs) e = let y = subst (λ its. Rising 0 r (its ++ rest)) e x in ignores-one g gs e y.0 y.2

  -- UA, or what was before it
  module _ (past : List LineTold) (b : Bool) (w : Wire) (h : Coming service tei c d p q face back rt ru past b w) where
    abbrev its_far : FarEnd w.far
    its_far = of-coming past b w h

    coming-takes : P (moved_by receives w) 0 0 w (acting receives w)
    coming-takes = go h.stale refl
      where
        go : (stale : List Parts) → h.stale ≡ stale → P (moved_by receives w) 0 0 w (acting receives w)
        go [] e =
            let l = ringing h.repeats [] in
            takes-well service tei c d p q [] past face v w (end t l []) its_far.m h.near its_far.held its_far.none (ua u) h.m.way (ap (λ stale. (stale ++ ua u ∷ []) ++ h.m.way) e)
            (record { contents = refl; falls = inl (refl, omega arith) }) (omega arith)
        go (g ∷ gs) e =
            let y = subst (Rising 0 0) e h.rising in
            ignores-one h.repeats [] [] w h.near its_far g ((gs ++ ua u ∷ []) ++ h.m.way) (ap (λ stale. (stale ++ ua u ∷ []) ++ h.m.way) e) y.0 y.2

  -- a link that is up
  module _ (n m : LinkEndpoint) (h : Loose n m) (wide : 2 * n.terms.k ≤ v) (f : Parts) (fs : List Parts) (e : m.way ≡ f ∷ fs) where
    l' : Link
    l' = after n.terms (link.received (link.frame f)) n.link

    loose-well : TakesWell v n.link (after n.terms (link.received (link.frame f)) n.link) f × ((after n.terms (link.received (link.frame f)) n.link).r ≤ length m.link.contents)
    loose-well =
        let y = subst (λ way. Rising n.link.a m.link.r (way ++ frames_of m.terms m.link.waiting)) e h.joined.there.rising in
        let then = subst (λ way. Loose (two_ends_with_first_of way n) (two_ends_without_first m)) e (loose-after n m h link_receives tt) in
        let x = (frame-hears v n.terms n.link h.joined.near_sound wide h.joined.near_up f y.0 y.2).hears then.joined.near_up in
        (record { contents = x.0; falls = x.1 }, then.joined.back.accepted)

  up-takes : (a b : Config) (p q : ℕ) (face : Face a b) (past_n past_m : List LineTold) (w : Wire) (n m : LinkEndpoint) → Held a service tei p past_n w.near n → Held b service tei q past_m w.far m
      → 2 * (terms a service tei).k ≤ v → Loose n m → P (moved_by receives w) 0 0 w (acting receives w)
  up-takes a b p q face past_n past_m w n m near far wide h = go m.way refl
    where
      go : (way : List Parts) → m.way ≡ way → P (moved_by receives w) 0 0 w (acting receives w)
      go [] e = takes-nothing service tei a b p q past_n past_m face v w n m near far h.joined.there.accepted e
      go (f ∷ fs) e =
          let well = loose-well n m h (subst (λ t. 2 * t.k ≤ v) (sym near.stands.terms) wide) f fs e in
          takes-well service tei a b p q past_n past_m face v w n m near far h.joined.there.accepted f fs e well.0 well.1

  all-takes : (Q : Endpoint → Type 0) (w : Wire) → (of : (s : Endpoint) → Q s → FarEnd s)
      → ((s : Endpoint) (h : Q s) → (r : ℕ) × (rest : List Parts) × Rising 0 r ((of s h).m.way ++ rest)) → Rs service tei c d p q face back rt ru Q w → P (moved_by receives w) 0 0 w (acting receives w)
  all-takes Q w of rises (inl h) = let y = rises w.far h.far in ringing-takes h.repeats [] [] w h.near (of w.far h.far) y.0 y.1 y.2
  all-takes Q w of rises (inr (inl h)) = let y = rises w.far h.far in ringing-takes h.repeats (its_sabme ∷ []) [] w h.near (of w.far h.far) y.0 y.1 y.2
  all-takes Q w of rises (inr (inr h)) = let y = rises w.far h.far in ringing-takes h.repeats [] (sabme t ∷ []) w h.near (of w.far h.far) y.0 y.1 y.2

  called-takes : (past : List LineTold) (b : Bool) (w : Wire) → IsCalled service tei c d p q face back rt ru past b w → P (moved_by receives w) 0 0 w (acting receives w)
  called-takes past b w (inl h) =
      all-takes (Away service tei c d p q face back rt ru past b) w (of-away past b) (λ s h. (h.M.link.r, frames_of h.M.terms h.M.link.waiting, h.rising)) h
  called-takes past b w (inr (inl h)) = ringing-takes h.repeats [] [] w h.near (of-waiting past b w.far h.far) 0 (frames_of u h.far.old) h.far.rising
  called-takes past b w (inr (inr (inl h))) = coming-takes past b w h
  called-takes past b w (inr (inr (inr h))) = up-takes c d p q face _ past w h.n h.m h.near h.far wide_c h.loose

  near-takes : (x : Called) (w : Wire) → Phase service tei c d p q face back rt ru x w → P (moved_by receives w) 0 0 w (acting receives w)
  near-takes x w (inl (told, sent, h)) = all-takes (Down service tei c d p q face back rt ru) w of-down (λ s h. (0, [], omega arith)) h
  near-takes x w (inr (some, h)) = called-takes x.told x.sent w h

  -- ---- the far end takes

  abbrev FarTakes : Wire → Type 0
  FarTakes w = P (moved_by receives (turned w)) 0 0 w (turned (acting receives (turned w)))

  far-takes-nothing : (k : Tries) (ws : List ControlFrame) (w : Wire) → Rung k ws [] w.near → FarEnd w.far → FarTakes w
  far-takes-nothing k ws w near f =
      pays-turned service tei v (moved_by receives (turned w)) 0 0 w (acting receives (turned w))
      (takes-nothing service tei d c q p f.past [] back v (turned w) f.m (end t (ringing k ws) []) f.held near (omega arith) refl)

  -- SABME, for the first time
  first-sabme : (k : Tries) (w : Wire) → Rung k [] (sabme t ∷ []) w.near → Down service tei c d p q face back rt ru w.far → FarTakes w
  first-sabme k w near h =
      let n = end t (ringing k []) (sabme t ∷ []) in
      let m = end u fresh [] in
      let well : TakesWell v fresh (after u (link.received (link.frame (sabme t))) fresh) (sabme t) × ((after u (link.received (link.frame (sabme t))) fresh).r ≤ 0) =
      subst (λ l. TakesWell v fresh l (sabme t) × (l.r ≤ 0)) (sym (takes-sabme u ru t)) (record { contents = refl; falls = inl (refl, omega arith) }, omega arith) in
      pays-turned service tei v (moved_by receives (turned w)) 0 0 w (acting receives (turned w))
      (takes-well service tei d c q p [] [] back v (turned w) m n h near (omega arith) (sabme t) [] refl well.0 well.1)

  -- and again: UA waits, where there is room, for which SABME stood
  module _ (past : List LineTold) (b : Bool) (k : Tries) (w : Wire) (near : Rung k [] (sabme t ∷ []) w.near) (h : Away service tei c d p q face back rt ru past b w.far) where
    abbrev M : LinkEndpoint
    M = h.M

    abbrev l : Link
    l = h.M.link

    abbrev n : LinkEndpoint
    n = end t (ringing k []) (sabme t ∷ [])

    abbrev n' : LinkEndpoint
    n' = end t (ringing k []) []

    abbrev reached : Endpoint
    reached = frame_comes (spelling (own_side c) (sabme t)) w.far

    abbrev w1 : Wire
    w1 = record { near = without_first w.near; far = reached }

    abbrev m' : LinkEndpoint
    m' = with_link (link.received (link.frame (sabme t))) M

    stands : StationStands d service tei q reached m'
    stands = taken-stands service tei q past d w.far M h.held c back (sabme t) (first-way service tei c p [] w.near n (sabme t) [] refl near).1

    abbrev kept : Bool → Link
    kept o = again (has_room M.terms l) (cond o [] l.contents) l

    becomes : m'.link ≡ kept (has_outstanding l)
    becomes = (renews M.terms t l h.up h.a).link

    lighter : (o : Bool) → has_outstanding l ≡ o → (load v (kept o) ≤ load v l + 2) × ((v + 4) * (length (kept o).contents - 0) ≤ (v + 4) * (length l.contents - 0))
    lighter o e = grind (arith, load_waiting, one-waits, its_ua, may_reject, load, eqb-true)

    again-pays : P 1 0 0 w w1
    again-pays = record {
      more = 0;
      granted = let same = ap (λ (xs : List (List ℕ)). length w.near.granted + length xs) (takes-granted (spelling (own_side c) (sabme t)) w.far) in omega (arith, same);
      falls =
          sum (heft service tei v w1) (heft service tei v w) (load v (ringing k [])) (load v (kept (has_outstanding l))) (load v l) (load_way v M.way)
          ((v + 4) * (length (kept (has_outstanding l)).contents - 0)) ((v + 4) * (length l.contents - 0)) ((v + 4) * undelivered (ringing k []) l)
          (heft-is service tei v c d p q w1 n' m' (held-lost service tei p [] c w.near n near).stands stands ∙ ap (λ (x : Link). weigh_of v (ringing k []) [] x M.way) becomes)
          (heft-is service tei v c d p q w n M near.stands h.held.stands) (lighter (has_outstanding l) refl).0 (lighter (has_outstanding l) refl).1;
    }
      where
        sum : (a b r l' l way u' u z : ℕ) → a ≡ (r + 0) + (l' + way) + ((v + 4) * 0 + u') → b ≡ (r + 3) + (l + way) + (z + u) → l' ≤ l + 2 → u' ≤ u → 1 + a ≤ b + (v + 4) * 0 + (v + 6) * 0 + 2 * 0
        sum a b r l' l way u' u z e f less fewer = omega (arith, e, f, less, fewer)

    again-sabme : FarTakes w
    again-sabme = grind (arith, again-pays)

  far-called-takes : (past : List LineTold) (b : Bool) (w : Wire) → IsCalled service tei c d p q face back rt ru past b w → FarTakes w
  far-called-takes past b w (inl (inl h)) = far-takes-nothing h.repeats [] w h.near (of-away past b w.far h.far)
  far-called-takes past b w (inl (inr (inl h))) = far-takes-nothing h.repeats (its_sabme ∷ []) w h.near (of-away past b w.far h.far)
  far-called-takes past b w (inl (inr (inr h))) = again-sabme past b h.repeats w h.near h.far
  far-called-takes past b w (inr (inl h)) = far-takes-nothing h.repeats [] w h.near (of-waiting past b w.far h.far)
  far-called-takes past b w (inr (inr (inl h))) = far-takes-nothing h.repeats [] w h.near (of-coming past b w h)
  far-called-takes past b w (inr (inr (inr h))) =
      pays-turned service tei v (moved_by receives (turned w)) 0 0 w (acting receives (turned w)) (up-takes d c q p back past _ (turned w) h.m h.n h.far h.near wide_d (loose-turned h.n h.m h.loose))

  far-takes : (x : Called) (w : Wire) → Phase service tei c d p q face back rt ru x w → FarTakes w
  far-takes x w (inl (told, sent, inl h)) = far-takes-nothing h.repeats [] w h.near (of-down w.far h.far)
  far-takes x w (inl (told, sent, inr (inl h))) = far-takes-nothing h.repeats (its_sabme ∷ []) w h.near (of-down w.far h.far)
  far-takes x w (inl (told, sent, inr (inr h))) = first-sabme h.repeats w h.near h.far
  far-takes x w (inr (some, h)) = far-called-takes x.told x.sent w h

  -- ---- each step

  abbrev pub Steps : StepAt → Wire → Type 0
  Steps k w = P (cond {A = ℕ} (is_move k w) 1 0) (expiries_in k) (reports_in k w) w (doing k w)

  module _ (x : Called) (w : Wire) (h : Phase service tei c d p q face back rt ru x w) where
    abbrev s : Seen w
    s = seen-in x w h

    pub near-pays : (act : EndStep) → IsFullTalkOf service tei act → IsTimelyOf act w → Steps (at_near act) w
    near-pays receives is timely = near-takes x w h
    near-pays other is timely = acts-pays service tei c d p q s.past_n s.past_m face v w s.n s.m s.near s.far s.there other (λ e. cc e) is timely

    pub far-pays : (act : EndStep) → IsFullTalkOf service tei act → IsTimelyOf act (turned w) → Steps (at_far act) w
    far-pays receives is timely = far-takes x w h
    far-pays other is timely = pays-turned service tei v _ _ _ w (acting other (turned w))
        (acts-pays service tei d c q p s.past_m s.past_n back v (turned w) s.m s.n s.far s.near s.here other (λ e. cc e) is timely)
