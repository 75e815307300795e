-- What is told in a call in which UA may be lost, from its phases.
use Rattle.laws_wire.proofs.Vocabulary.{arith, ◌≡◌, ℕ, Bool, false, List, [], ◌∷◌, ◌++◌, length, map, take, drop, refl, sym, ap, append-nil, append_assoc, map-append, take-append-drop, subst, ◌∙◌, inl, inr, true≢false, All, front_rest, Service, Parts, ControlFrame, IsInRange, LinkEndpoint, Config, LineTold, terms, Endpoint, Wire, turned, StepAt, doing_all, IsStill, CanCall, calling, data_told}
use Rattle.laws_wire.proofs.Vocabulary.{IsBeginningOf, heard_in}
use Rattle.laws_wire.proofs.Vocabulary.{runs_t200, IsFullTalk, StayPatient, Called, uncalled, seen, all_kept, ToldSo, LossyCallsComeThrough}
use Rattle.laws_wire.proofs.Awaited.{runs-is}
use Rattle.laws_wire.proofs.Calling.{end, sabme, its_ua, ua}
use Rattle.laws_wire.proofs.Held.{Held}
use Rattle.laws_wire.proofs.LooseUp.{loose-turned-up, loose-told, loose-rests}
use Rattle.laws_wire.proofs.LossyRun.{setting}
use Rattle.laws_wire.proofs.Ringing.{ringing, its_sabme, Tries, none_tried}
use Rattle.laws_wire.proofs.Talking.{Face}
use Rattle.laws_wire.proofs.UaLost.{not-told}
use Rattle.laws_wire.proofs.UaLostRun.{its_near, Away, Rs, Down, Up, IsCalled, IsSure, Phase, Goes, patient-runs}
use Rattle.laws_wire.proofs.UaPhases.{comes-none}
use Rattle.laws_wire.proofs.TimelyUp.{hushed, none-waits}
use Rattle.laws_wire.proofs.UaBefore.{with_before}

module _ (service : Service) (tei : ℕ) (past : List LineTold) where
  -- a beginning of all, where so many contents were delivered
  so-many : (r : ℕ) (granted : List (List ℕ)) (told : List LineTold) → told ≡ past ++ map (data_told service tei) (take r granted)
      → IsBeginningOf (past ++ map (data_told service tei) granted) told
  so-many r granted told is = (
    map (data_told service tei) (drop r granted),
    ap (λ ts. ts ++ map (data_told service tei) (drop r granted)) is
        ∙ append_assoc past (map (data_told service tei) (take r granted)) (map (data_told service tei) (drop r granted))
        ∙ ap (λ ts. past ++ ts) (sym (map-append (data_told service tei) (take r granted) (drop r granted)) ∙ ap (map (data_told service tei)) (take-append-drop r granted)),
  )

  none-yet : (granted : List (List ℕ)) (told : List LineTold) → told ≡ past ++ [] → IsBeginningOf (past ++ map (data_told service tei) granted) told
  none-yet granted told is = (map (data_told service tei) granted, ap (λ ts. ts ++ map (data_told service tei) granted) (is ∙ append-nil past))

module _ (service : Service) (tei : ℕ) (c d : Config) (p q : ℕ) (face : Face c d) (back : Face d c) (rt : IsInRange (terms c service tei)) (ru : IsInRange (terms d service tei)) where
  abbrev Its : List LineTold → Bool → Wire → Type 0
  Its past b v = IsCalled service tei c d p q face back rt ru past b v

  abbrev first_near : List LineTold
  first_near = its_near service tei c d p q face back rt ru

  nothing-yet : (all told : List LineTold) → told ≡ [] → IsBeginningOf all told
  nothing-yet all told e = (all, ap (λ ts. ts ++ all) e)

  abbrev NearSoFar : Wire → Type 0
  NearSoFar v = IsBeginningOf (first_near ++ map (data_told service tei) v.far.granted) (heard_in v.near)

  abbrev FarSoFar : List LineTold → Wire → Type 0
  FarSoFar past v = IsBeginningOf (past ++ map (data_told service tei) v.near.granted) (heard_in v.far) × IsBeginningOf (heard_in v.far) past

  -- where nothing was delivered
  far-none : (past : List LineTold) (v : Wire) (M : LinkEndpoint) → Held d service tei q past v.far M → M.delivered ≡ [] → FarSoFar past v
  far-none past v M h none = grind (arith, none-yet)

  away-far : (past : List LineTold) (b : Bool) (v : Wire) → Rs service tei c d p q face back rt ru (Away service tei c d p q face back rt ru past b) v → FarSoFar past v
  away-far past b v (inl h) = far-none past v h.far.M h.far.held h.far.delivered
  away-far past b v (inr (inl h)) = far-none past v h.far.M h.far.held h.far.delivered
  away-far past b v (inr (inr h)) = far-none past v h.far.M h.far.held h.far.delivered

  called-so-far : (past : List LineTold) (b : Bool) (v : Wire) → Its past b v → NearSoFar v × FarSoFar past v
  called-so-far past b v (inl h) =
      (nothing-yet _ (heard_in v.near) (not-told service tei c d p q face back rt ru (Away service tei c d p q face back rt ru past b) v h), away-far past b v h)
  called-so-far past b v (inr (inl h)) = (nothing-yet _ (heard_in v.near) h.near.heard, far-none past v h.far.M h.far.held h.far.delivered)
  called-so-far past b v (inr (inr (inl h))) =
      (nothing-yet _ (heard_in v.near) h.near.heard, far-none past v _ h.far (comes-none service tei c d p q face back rt ru past b v h))
  called-so-far past b v (inr (inr (inr h))) =
      let other = h.loose.joined.back.delivered in (
        so-many service tei first_near h.n.link.r v.far.granted (heard_in v.near)
            (h.near.heard ∙ ap (λ xs. first_near ++ map (data_told service tei) xs) (other ∙ ap (take h.n.link.r) (sym h.far.granted))),
        (
          so-many service tei past h.m.link.r v.near.granted (heard_in v.far)
              (h.far.heard ∙ ap (λ xs. past ++ map (data_told service tei) xs) (h.loose.joined.there.delivered ∙ ap (take h.m.link.r) (sym h.near.granted))),
          (map (data_told service tei) h.m.delivered, sym h.far.heard),
        ),
      )

  so-far : (x : Called) (v : Wire) → Phase service tei c d p q face back rt ru x v → NearSoFar v × FarSoFar x.told v
  so-far x v (inl (told, sent, h)) = grind (arith, nothing-yet, not-told, Down, far-none)
  so-far x v (inr (some, h)) = called-so-far x.told x.sent v h

  -- ---- where no turn is left UA has come

  some-comes : (stale way : List Parts) (f : Parts) → (stale ++ f ∷ []) ++ way ≡ [] → ⊥
  some-comes [] way f e = cc e
  some-comes (g ∷ gs) way f e = cc e

  some-waits : (old post : List ControlFrame) (f : ControlFrame) → (old ++ f ∷ []) ++ post ≡ [] → ⊥
  some-waits [] post f e = cc e
  some-waits (g ∷ gs) post f e = cc e

  pub sure-still : (past : List LineTold) (b : Bool) (v : Wire) → IsSure service tei c d p q face back rt ru past b v → IsStill v → Up service tei c d p q face back rt ru past v
  sure-still past b v (inl h) still =
      absurd (some-waits h.far.old h.far.post its_ua (sym h.far.waits ∙ none-waits service tei h.far.M (hushed service tei d q past v.far h.far.M h.far.held still.far still.far_way)))
  sure-still past b v (inr (inl h)) still = absurd (some-comes h.stale h.m.way (ua (terms d service tei)) (hushed service tei d q past v.far _ h.far still.far still.far_way).way)
  sure-still past b v (inr (inr h)) still = h

  -- ---- where no turn is left, and T200 runs at neither end

  stops : (A : Type 0) (v : Wire) (k : Tries) (ws : List ControlFrame) (way : List Parts) → Held c service tei p [] v.near (end (terms c service tei) (ringing k ws) way)
      → runs_t200 service tei v.near ≡ false → A
  stops A v k ws way h none =
      absurd (true≢false (sym (runs-is service tei c p v.near (end (terms c service tei) (ringing k ws) way) h.stands (λ e. cc e)) ∙ none))

  ringing-stops : (A : Type 0) (P : Endpoint → Type 0) (v : Wire) → Rs service tei c d p q face back rt ru P v → runs_t200 service tei v.near ≡ false → A
  ringing-stops A P v (inl h) none = stops A v h.repeats [] [] h.near none
  ringing-stops A P v (inr (inl h)) none = stops A v h.repeats (its_sabme ∷ []) [] h.near none
  ringing-stops A P v (inr (inr h)) none = stops A v h.repeats [] (sabme (terms c service tei) ∷ []) h.near none

  -- both are up there
  phase-up : (x : Called) (v : Wire) → Phase service tei c d p q face back rt ru x v → runs_t200 service tei v.near ≡ false → Up service tei c d p q face back rt ru x.told v
  phase-up x v (inl (told, sent, h)) none = ringing-stops _ (Down service tei c d p q face back rt ru) v h none
  phase-up x v (inr (some, inl h)) none = ringing-stops _ (Away service tei c d p q face back rt ru x.told x.sent) v h none
  phase-up x v (inr (some, inr (inl h))) none = stops _ v h.repeats [] [] h.near none
  phase-up x v (inr (some, inr (inr (inl h)))) none = stops _ v h.repeats [] [] h.near none
  phase-up x v (inr (some, inr (inr (inr h)))) none = h

  module _ (x : Called) (v : Wire) (g : List (List ℕ)) (given_up : x.given_up ≡ length g) (h : Phase service tei c d p q face back rt ru x v) where
    abbrev w : Wire
    w = with_before g v

    pub all-is : first_near ++ map (data_told service tei) v.far.granted ≡ all_kept service tei x w.far
    all-is = grind (arith, front_rest)

    pub still-there : IsStill w → IsStill v
    still-there still = record { near = still.near; far = still.far; near_way = still.near_way; far_way = still.far_way }

    still-turned : IsStill v → IsStill (turned v)
    still-turned still = record { near = still.far; far = still.near; near_way = still.far_way; far_way = still.near_way }

    told-before : ToldSo service tei x w
    told-before = record {
      far_at_once = (so-far x v h).1.1;
      near = (
        subst (λ all. IsBeginningOf all (heard_in v.near)) all-is (so-far x v h).0,
        λ (still, none, none').
            loose-told service tei d c q p back x.told first_near (turned v) (loose-turned-up service tei c d p q first_near x.told v (phase-up x v h none)) (still-turned (still-there still)) none' ∙ all-is,
      );
      far = ((so-far x v h).1.0, λ (still, none, none'). loose-told service tei c d p q face first_near x.told v (phase-up x v h none) (still-there still) none);
      rest = λ (still, none, none'). (
        loose-rests service tei c d p q face first_near x.told v (phase-up x v h none) (still-there still) none,
        loose-rests service tei d c q p back x.told first_near (turned v) (loose-turned-up service tei c d p q first_near x.told v (phase-up x v h none)) (still-turned (still-there still)) none',
      );
    }

  pub told-so : (x : Called) (w : Wire) → Goes service tei c d p q face back rt ru x w → ToldSo service tei x w
  told-so x w h = subst (ToldSo service tei x) (sym h.is) (told-before x h.v h.earlier h.given_up h.phase)

  pub up-where : (x : Called) (w : Wire) (h : Goes service tei c d p q face back rt ru x w) → runs_t200 service tei w.near ≡ false → Up service tei c d p q face back rt ru x.told h.v
  up-where x w h none = phase-up x h.v h.phase (subst (λ w. runs_t200 service tei w.near ≡ false) h.is none)

pub patient-goes : (service : Service) (c d : Config) (line other tei : ℕ) (ds : List StepAt) (can : CanCall c line d other tei) → All (IsFullTalk service tei) ds
    → let x = setting service c d line other tei can in let begun = calling service tei c line d other in StayPatient ds begun
    → Rattle.laws_wire.proofs.UaLostRun.Goes service tei c d 0 0 x.face x.back x.near x.far (seen service tei ds begun uncalled) (doing_all ds begun)
patient-goes service c d line other tei ds can talk patient =
    let x = setting service c d line other tei can in
    let begun = calling service tei c line d other in
    patient-runs service tei c d 0 0 x.face x.back x.near x.far ds talk begun patient uncalled
    (record {
      v = begun;
      earlier = [];
      is = refl;
      given_up = refl;
      phase = inl (refl, refl, inr (inl (record { repeats = none_tried; near = x.near_held; far = x.far_held })));
    })

pub lossy-calls-come-through : LossyCallsComeThrough
lossy-calls-come-through service c d line other tei ds can talk = λ patient.
    let x = setting service c d line other tei can in
    let begun = calling service tei c line d other in
    told-so service tei c d 0 0 x.face x.back x.near x.far (seen service tei ds begun uncalled) (doing_all ds begun) (patient-goes service c d line other tei ds can talk patient)
