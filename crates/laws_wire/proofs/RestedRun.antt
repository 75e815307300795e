-- A whole call in which frames are lost and timers expire: its moves are at most what there was to do, and what was asked for since.
use Rattle.laws_wire.proofs.Vocabulary.{◌≡◌, ℕ, ◌+◌, ◌*◌, ◌≤◌, true, cond, List, [], ◌∷◌, ◌++◌, length, refl, sym, ap, subst, ◌∙◌, ◌⊎◌, inl, inr, arith, All, All-head, All-tail, Service, Parts, ControlFrame, Terms, fresh, course, IsInRange, LinkEndpoint, frames_of, Config, LineTold, terms, after, Endpoint, Wire, StepAt, at_near, at_far, turned, doing, doing_all, calling, confirmed, indicated}
use Rattle.laws_wire.proofs.Vocabulary.{turned}
use Rattle.laws_wire.proofs.Vocabulary.{acting}
use Rattle.laws_wire.proofs.Vocabulary.{granted_of, HasNoError, IsRoughTalk, is_move, moves, expiries_in, expiries, MovesComeToAnEnd}
use Rattle.model_link.specs.Events as link
use Rattle.laws_wire.proofs.Acting.{which, UpAt, ranges, sound}
use Rattle.laws_wire.proofs.Calling.{asked, sabme, ua, end, caller, takes-sabme}
use Rattle.laws_wire.proofs.Fair.{HasError, frame-fair, sabme-error}
use Rattle.laws_wire.proofs.Held.{not-erred}
use Rattle.laws_wire.proofs.Joint.{IsMeant, first-means, hears-on}
use Rattle.laws_wire.proofs.LoadsHeard.{frame-hears}
use Rattle.laws_wire.proofs.LossyPhases.{IsUp, Goes, HasErred, Went, IsUpWith, turned-with}
use Rattle.laws_wire.proofs.LossyRun.{goes, errs, setting, rings}
use Rattle.laws_wire.proofs.Rested.{TakesWell, then-acts}
use Rattle.laws_wire.proofs.Ringing.{ringing, IsSabme, AreSabmes, untouched}
use Rattle.laws_wire.proofs.Talking.{Face}
use Rattle.laws_wire.proofs.UaWeighs.{Seen as EndsSeen}
use Rattle.laws_wire.proofs.Weighing.{weigh, Pays, both-pay, heft, heft-is, pays-turned}

module _ (service : Service) (tei v : ℕ) where
  -- what the link of an end makes of a frame: it tells an error, or has less to send
  abbrev pub Well : LinkEndpoint → LinkEndpoint → Parts → Type 0
  Well n m f =
      HasError (course n.terms (link.received (link.frame f)) n.link).notes
      ⊎ (TakesWell v n.link (after n.terms (link.received (link.frame f)) n.link) f × (after n.terms (link.received (link.frame f)) n.link).r ≤ length m.link.contents)

  -- a link that is up
  well-up : (k : Config) (place : ℕ) (past : List LineTold) (s : Endpoint) (n m : LinkEndpoint) (f : Parts) (first near far : List Parts) → UpAt service tei place past k s n m first near (f ∷ far)
      → IsInRange m.terms → 2 * (terms k service tei).k ≤ v → Well n m f
  well-up k place past s n m f first near far h far-ranges wide =
      let meant : IsMeant f = first-means n m f near far h.joint in
      let wide-here : 2 * n.terms.k ≤ v = subst (λ t. 2 * t.k ≤ v) (sym h.held.stands.terms) wide in
      elim (frame-fair n.terms n.link h.up f meant.number meant.means).fair [
        | inl error ↦ inl error
        | inr fine ↦
            let its-sound = sound service tei place past k s n h.held in
            let x = (frame-hears v n.terms n.link its-sound wide-here h.up f meant.number meant.means).hears fine.up in
            inr (record { contents = x.0; falls = x.1 }, (hears-on n m f near far (ranges service tei place past k s n h.held) far-ranges its-sound h.up fine.up h.joint).joint.back.accepted)
      ]

  well-with : (c d : Config) (p q : ℕ) (past other : List LineTold) (w : Wire) (h : IsUpWith service tei c d p q past other w) → 2 * (terms c service tei).k ≤ v → (f : Parts) (fs : List Parts) → h.m.way ≡ f ∷ fs
      → Well h.n h.m f
  well-with c d p q past other w h wide f fs e =
      let rest : List Parts = fs ++ frames_of h.m.terms h.m.link.waiting in
      elim (which f rest h.second h.here (sym (ap (λ way. way ++ frames_of h.m.terms h.m.link.waiting) e) ∙ h.far.line)) [
        | inl x ↦
            well-up c p past w.near h.n h.m f h.first h.there rest (subst (λ xs. UpAt service tei p past c w.near h.n h.m h.first h.there xs) x.is h.near)
            (ranges service tei q other d w.far h.m h.far.held) wide
        | inr x ↦
            let is : f ≡ sabme (terms d service tei) = All-head (IsSabme (terms d service tei)) f x.others (subst (All (IsSabme (terms d service tei))) x.is h.others) in
            inl (sabme-error h.n.terms h.n.link h.near.up f true (ap (λ y. y.control) is))
      ]

module _ (service : Service) (tei : ℕ) (c d : Config) (p q : ℕ) (face : Face c d) (back : Face d c) (rt : IsInRange (terms c service tei)) (ru : IsInRange (terms d service tei)) (v : ℕ)
    (wide_c : 2 * (terms c service tei).k ≤ v) (wide_d : 2 * (terms d service tei).k ≤ v) where
  abbrev t : Terms
  t = terms c service tei

  abbrev u : Terms
  u = terms d service tei

  -- the two ends of a call, whatever its phase
  abbrev Seen : Wire → Type 0
  Seen w = EndsSeen service tei c d p q face back rt ru v wide_c wide_d w

  seen : (w : Wire) → Goes service tei c d p q w → Seen w
  seen w (inl h) = record {
    n = end t (ringing h.repeats h.waiting) h.way;
    m = end u fresh [];
    past_n = [];
    past_m = [];
    near = h.near;
    far = h.far;
    there = omega arith;
    here = omega arith;
    near_up = inr refl;
    far_up = inr refl;
  }
  seen w (inr (inl h)) = record {
    n = end t (ringing h.repeats h.waiting) h.way;
    m = h.m;
    past_n = [];
    past_m = indicated service tei ∷ [];
    near = h.near;
    far = h.far.held;
    there = h.far.joint.back.accepted;
    here = omega arith;
    near_up = inr refl;
    far_up = inl h.far.up;
  }
  seen w (inr (inr h)) = record {
    n = h.n;
    m = h.m;
    past_n = confirmed service tei ∷ [];
    past_m = indicated service tei ∷ [];
    near = h.near.held;
    far = h.far.held;
    there = h.far.joint.back.accepted;
    here = h.near.joint.back.accepted;
    near_up = inl h.near.up;
    far_up = inl h.far.up;
  }

  -- ---- what the near end takes

  near-well : (w : Wire) (h : Goes service tei c d p q w) (f : Parts) (fs : List Parts) → (seen w h).m.way ≡ f ∷ fs → Well service tei v (seen w h).n (seen w h).m f
  unfolding seen
  near-well w (inl h) f fs e = let wrong : [] ≡ f ∷ fs = e in absurd (cc)
  near-well w (inr (inl h)) f fs e = grind (arith, which, frames_of, end, ringing, ua, first-means, caller, untouched)
  near-well w (inr (inr h)) f fs e = well-with service tei v c d p q (confirmed service tei ∷ []) (indicated service tei ∷ []) w h wide_c f fs e

  -- ---- what the far end takes

  sabme-first : (way : List Parts) (waiting : List ControlFrame) (f : Parts) (fs : List Parts) → way ≡ f ∷ fs → AreSabmes t way waiting → f ≡ sabme t
  sabme-first way waiting f fs e are = All-head (IsSabme t) f (fs ++ frames_of t waiting) (subst (λ way. AreSabmes t way waiting) e are)

  far-well : (w : Wire) (h : Goes service tei c d p q w) (f : Parts) (fs : List Parts) → (seen w h).n.way ≡ f ∷ fs → Well service tei v (seen w h).m (seen w h).n f
  unfolding seen
  far-well w (inl h) f fs e = grind (arith, end, TakesWell, sabme, takes-sabme, sabme-first h.way h.waiting f fs e h.sabmes)
  far-well w (inr (inl h)) f fs e =
      inl (sabme-error h.m.terms h.m.link h.far.up f true (ap (λ y. y.control) (sabme-first h.way h.waiting f fs e h.sabmes)))
  far-well w (inr (inr h)) f fs e =
      let first = confirmed service tei ∷ [] in
      let second = indicated service tei ∷ [] in
      well-with service tei v d c q p second first (turned w) (turned-with service tei c d p q first second w h) wide_d f fs e

  -- ---- one step

  abbrev Pay : ℕ → ℕ → Wire → Wire → Type 0
  Pay moved expired w w' = Pays service tei v moved expired 0 w w'

  abbrev Errs : Wire → Type 0
  Errs w = HasErred service tei c d p q w

  step : (k : StepAt) → IsRoughTalk service tei k → (w : Wire) → Goes service tei c d p q w → Pay (cond {A = ℕ} (is_move k w) 1 0) (expiries_in k) w (doing k w) ⊎ Errs (doing k w)
  step (at_near act) is w h =
      let x : Seen w = seen w h in
      elim (then-acts service tei c d p q x.past_n x.past_m face v w x.n x.m x.near x.far x.there act is (near-well w h)) [
        | inl y ↦ inl y
        | inr e ↦ inr (inl e)
      ]
  step (at_far act) is w h =
      let x : Seen w = seen w h in
      elim (then-acts service tei d c q p x.past_m x.past_n back v (turned w) x.m x.n x.far x.near x.here act is (far-well w h)) [
        | inl y ↦ inl (pays-turned service tei v _ _ 0 w (acting act (turned w)) y)
        | inr e ↦ inr (inr e)
      ]

  -- ---- all of them

  errs-all : (ds : List StepAt) (w : Wire) → Errs w → Errs (doing_all ds w)
  unfolding doing_all
  errs-all [] w h = h
  errs-all (k ∷ ds) w h = errs-all ds (doing k w) (errs service tei c d p q face back rt ru k w h)

  runs : (ds : List StepAt) → All (IsRoughTalk service tei) ds → (w : Wire) → Goes service tei c d p q w → Pay (moves ds w) (expiries ds) w (doing_all ds w) ⊎ Errs (doing_all ds w)
  unfolding doing_all moves expiries
  runs [] all w h = inl (record { more = 0; granted = omega arith; falls = omega arith })
  runs (k ∷ ds) all w h = by (step k (All-head (IsRoughTalk service tei) k ds all) w h) (goes service tei c d p q face back rt ru k (All-head (IsRoughTalk service tei) k ds all) w h)
      (λ h'. runs ds (All-tail (IsRoughTalk service tei) k ds all) (doing k w) h')
    where
      by : Pay (cond {A = ℕ} (is_move k w) 1 0) (expiries_in k) w (doing k w) ⊎ Errs (doing k w) → Went service tei c d p q (doing k w)
          → (Goes service tei c d p q (doing k w) → Pay (moves ds (doing k w)) (expiries ds) (doing k w) (doing_all ds (doing k w)) ⊎ Errs (doing_all ds (doing k w)))
          → Pay (moves (k ∷ ds) w) (expiries (k ∷ ds)) w (doing_all (k ∷ ds) w) ⊎ Errs (doing_all (k ∷ ds) w)
      by (inr e) went then = inr (errs-all ds (doing k w) e)
      by (inl y) (inr e) then = inr (errs-all ds (doing k w) e)
      by (inl y) (inl h') then = elim (then h') [
        | inl z ↦ inl (both-pay service tei v _ _ 0 (moves ds (doing k w)) (expiries ds) 0 w (doing k w) (doing_all ds (doing k w)) y z)
        | inr e ↦ inr e
      ]

  -- where no error was told
  module _ (ds : List StepAt) (all : All (IsRoughTalk service tei) ds) (w : Wire) (h : Goes service tei c d p q w) (fair-near : HasNoError (doing_all ds w).near) (fair-far : HasNoError (doing_all ds w).far) where
    fair-runs : Pay (moves ds w) (expiries ds) w (doing_all ds w)
    fair-runs = elim (runs ds all w h) [
      | inl y ↦ y
      | inr (inl e) ↦ absurd (not-erred (doing_all ds w).near fair-near e)
      | inr (inr e) ↦ absurd (not-erred (doing_all ds w).far fair-far e)
    ]

    -- from the beginning
    pub from-nothing : heft service tei v w ≡ 2 * v + 8 → granted_of w ≡ 0 → moves ds w ≤ (2 * v + 8) + (v + 4) * expiries ds + (v + 6) * granted_of (doing_all ds w)
    from-nothing eight none = total (moves ds w) (heft service tei v (doing_all ds w)) (heft service tei v w) (2 * v + 8) ((v + 4) * expiries ds) (v + 6) fair-runs.more (granted_of (doing_all ds w)) (granted_of w) eight none fair-runs.granted fair-runs.falls
      where
        total : (moved last first eight x six more g none : ℕ) → first ≡ eight → none ≡ 0 → g ≡ none + more → moved + last ≤ first + x + six * more + 2 * 0 → moved ≤ eight + x + six * g
        total moved last first eight x six more g none e f h less = grind arith

    -- or as nothing more is accepted
    from-here : granted_of (doing_all ds w) ≡ granted_of w → moves ds w ≤ heft service tei v w + (v + 4) * expiries ds
    from-here same =
        let granted = fair-runs.granted in
        let none : fair-runs.more ≡ 0 = omega (arith, granted, same) in
        let falls = subst (λ more. moves ds w + heft service tei v (doing_all ds w) ≤ heft service tei v w + (v + 4) * expiries ds + (v + 6) * more + 2 * 0) none fair-runs.falls in
        omega (arith, falls)

  pub from-up-on : (ds : List StepAt) → All (IsRoughTalk service tei) ds → (w : Wire) (h : IsUp service tei c d p q w) → granted_of (doing_all ds w) ≡ granted_of w
      → HasNoError (doing_all ds w).near → HasNoError (doing_all ds w).far → moves ds w ≤ weigh v h.n h.m + (v + 4) * expiries ds
  from-up-on ds all w h same fair-near fair-far =
      subst (λ i. moves ds w ≤ i + (v + 4) * expiries ds) (heft-is service tei v c d p q w h.n h.m h.near.held.stands h.far.held.stands) (from-here ds all w (inr (inr h)) fair-near fair-far same)

  -- and no timer expires
  pub from-up : (ds : List StepAt) → All (IsRoughTalk service tei) ds → (w : Wire) (h : IsUp service tei c d p q w) → expiries ds ≡ 0 → granted_of (doing_all ds w) ≡ granted_of w
      → HasNoError (doing_all ds w).near → HasNoError (doing_all ds w).far → moves ds w ≤ weigh v h.n h.m
  from-up ds all w h none same fair-near fair-far =
      let most = subst (λ e. moves ds w ≤ weigh v h.n h.m + (v + 4) * e) none (from-up-on ds all w h same fair-near fair-far) in omega (arith, most)

pub twice : (x k : ℕ) → x ≤ k → 2 * x ≤ 2 * k
twice x k le = omega (arith, le)

pub moves-come-to-an-end : MovesComeToAnEnd
moves-come-to-an-end service c d line other tei k ds can talk wide-near wide-far = λ fair-near fair-far.
    let x = setting service c d line other tei can in
    let w = calling service tei c line d other in
    let begins : heft service tei (2 * k) w ≡ 2 * (2 * k) + 8 =
    heft-is service tei (2 * k) c d 0 0 w (end (terms c service tei) asked []) (end (terms d service tei) fresh []) x.near_held.stands x.far_held.stands ∙ omega arith in
    let none : granted_of w ≡ 0 = (λ i. length (x.near_held.granted i) + length (x.far_held.granted i)) ∙ omega arith in
    (omega (
      arith,
      (from-nothing service tei c d 0 0 x.face x.back x.near x.far (2 * k) (twice (terms c service tei).k k wide-near) (twice (terms d service tei).k k wide-far) ds talk w
          (inl (rings service c d line other tei x)) fair-near fair-far begins none),
    ))
