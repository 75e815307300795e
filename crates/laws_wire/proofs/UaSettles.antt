-- A call in which UA may be lost and an end may be busy comes to where no turn is left and T200 runs at neither end.
use Rattle.laws_wire.proofs.Vocabulary.{◌≡◌, ◌≢◌, ℕ, ◌+◌, ◌≤◌, ◌*◌, Bool, false, List, [], ◌∷◌, ◌++◌, length, map, refl, sym, ap, subst, ◌∙◌, inl, inr, arith, All, All-nil, All-append, Service, fresh, IsInRange, LinkEndpoint, Config, LineTold, terms, Endpoint, Wire, expires, at_near, at_far, acting, StepAt, doing, doing_all, IsStill, link_of, calling, CanCall, confirmed}
use Rattle.laws_wire.proofs.Vocabulary.{data_told, heard_in, IsFullTalk, StayPatient, MayRepeat, BothMayRepeat, both_expire, with_t200_expired, rounds, timer_T200, IsAtRest, Called, uncalled, seen, all_kept, none_busy, busy, HasLeft, HasTold, Settles, near_expires, LossyCallsAreAnswered, LossyCallsSettle, HasItsTimer, timely-fresh, append_assoc}
use Rattle.laws_wire.specs.Facing.{line_of}
use Rattle.laws_wire.proofs.Acting.{ranges}
use Rattle.laws_wire.proofs.Awaited.{open-here, link-is}
use Rattle.laws_wire.proofs.Calling.{end, asked}
use Rattle.laws_wire.proofs.Held.{Held}
use Rattle.laws_wire.proofs.LooseUp.{LooseAt}
use Rattle.laws_wire.proofs.LossyRun.{Setting, setting}
use Rattle.laws_wire.proofs.RestedRounds.{doing-append, many, many-rounds}
use Rattle.laws_wire.proofs.Ringing.{ringing}
use Rattle.laws_wire.proofs.Talking.{Face}
use Rattle.laws_wire.proofs.TimelyUp.{IsHushed, hushed, none-waits, none-open}
use Rattle.laws_wire.proofs.UaBefore.{before, with_before, timely-with}
use Rattle.laws_wire.proofs.UaKnown.{Known, BothKnown, runs-known}
use Rattle.laws_wire.proofs.UaLost.{Rings, not-told, still-rings}
use Rattle.laws_wire.proofs.UaLostRun.{Away, Rs, Down, Up, IsCalled, Phase, Goes}
use Rattle.laws_wire.proofs.UaMoves.{both-patient, many-full, many-patient}
use Rattle.laws_wire.proofs.UaRings.{answers-again, answers-first, rings-again}
use Rattle.laws_wire.proofs.UaSettled.{loose-goes_on, loose-settles}
use Rattle.laws_wire.proofs.UaTold.{sure-still, all-is, still-there, patient-goes}

-- ---- what was granted before does not matter

module _ (g : List (List ℕ)) where
  doing-before : (k : StepAt) (w : Wire) → doing k (with_before g w) ≡ with_before g (doing k w)
  doing-before k w = grind (arith, append_assoc)

  all-before : (ds : List StepAt) (w : Wire) → doing_all ds (with_before g w) ≡ with_before g (doing_all ds w)
  unfolding doing_all
  all-before [] w = refl
  all-before (k ∷ ds) w = ap (doing_all ds) (doing-before k w) ∙ all-before ds (doing k w)

  pub rounds-before : (n : ℕ) (w : Wire) → rounds n (with_before g w) ≡ with_before g (rounds n w)
  rounds-before n w = sym (many-rounds n (with_before g w)) ∙ all-before (many n) w ∙ ap (with_before g) (many-rounds n w)

  pub expired-before : (service : Service) (tei : ℕ) (w : Wire) → with_t200_expired service tei (with_before g w) ≡ with_before g (with_t200_expired service tei w)
  expired-before service tei w =
      ap (doing (at_far (expires (timer_T200 service tei)))) (doing-before (at_near (expires (timer_T200 service tei))) w)
      ∙ doing-before (at_far (expires (timer_T200 service tei))) (doing (at_near (expires (timer_T200 service tei))) w)

  pub patient-before : (ds : List StepAt) (w : Wire) → StayPatient ds w → StayPatient ds (with_before g w)
  unfolding StayPatient
  patient-before [] w h = tt
  patient-before (at_near act ∷ ds) w h = (
    timely-with act w.near (before g w.far) w.near.granted w.far.granted h.0,
    subst (StayPatient ds) (sym (grind arith)) (patient-before ds (doing (at_near act) w) h.1),
  )
  patient-before (at_far act ∷ ds) w h = (
    timely-with act (before g w.far) w.near w.far.granted w.near.granted h.0,
    subst (StayPatient ds) (sym (grind (arith, append_assoc))) (patient-before ds (doing (at_far act) w) h.1),
  )

-- ---- the phases where no turn is left

module _ (service : Service) (tei : ℕ) (c d : Config) (p q : ℕ) (face : Face c d) (back : Face d c) (rt : IsInRange (terms c service tei)) (ru : IsInRange (terms d service tei)) where
  abbrev Its : List LineTold → Wire → Type 0
  Its past v = Up service tei c d p q face back rt ru past v

  -- the end that calls was told
  told-up : (x : Called) (v : Wire) → Phase service tei c d p q face back rt ru x v → heard_in v.near ≢ [] → Its x.told v
  told-up x v (inl (told, sent, h)) heard = absurd (heard (not-told service tei c d p q face back rt ru (Down service tei c d p q face back rt ru) v h))
  told-up x v (inr (some, inl h)) heard = absurd (heard (not-told service tei c d p q face back rt ru (Away service tei c d p q face back rt ru x.told x.sent) v h))
  told-up x v (inr (some, inr (inl h))) heard = absurd (heard h.near.heard)
  told-up x v (inr (some, inr (inr (inl h)))) heard = absurd (heard h.near.heard)
  told-up x v (inr (some, inr (inr (inr h)))) heard = h

  -- it was not: it rings, and nothing waits
  module _ (v : Wire) (still : IsStill v) (may : MayRepeat service tei v.near) where
    abbrev Tells : Type 0
    Tells = StayPatient (near_expires service tei) v × (heard_in (rounds 1 (acting (expires (timer_T200 service tei)) v)).near ≡ confirmed service tei ∷ [])

    far-quiet : (past : List LineTold) (M : LinkEndpoint) → Held d service tei q past v.far M → IsHushed service tei M
    far-quiet past M held = hushed service tei d q past v.far M held still.far still.far_way

    -- no answer is to come
    long : (P : Endpoint → Type 0) → Rings service tei c d p q face back rt ru P [] [] v → (past : List LineTold) (M : LinkEndpoint) → Held d service tei q past v.far M → StayPatient (near_expires service tei) v
    unfolding StayPatient
    long P h past M held =
        let n = end (terms c service tei) (ringing h.repeats []) [] in
        let quiet = hushed service tei c p [] v.near n h.near still.near still.near_way in
        ((λ awaits. open-here service tei c d p q v.near v.far n M h.near.stands held.stands (none-open service tei n M quiet (far-quiet past M held)), may), tt)

    ringing-tells : (P : Endpoint → Type 0) → Rs service tei c d p q face back rt ru P v → (Rings service tei c d p q face back rt ru P [] [] v → Tells) → Tells
    ringing-tells P h does = does (still-rings service tei c d p q face back rt ru P v h still)

    called-tells : (past : List LineTold) (b : Bool) → heard_in v.near ≡ [] → IsCalled service tei c d p q face back rt ru past b v → Tells
    called-tells past b none (inl h) =
        ringing-tells (Away service tei c d p q face back rt ru past b) h (λ h.
        let M = h.far.M in
        let quiet = far-quiet past M h.far.held in (
          long (Away service tei c d p q face back rt ru past b) h past M h.far.held,
          rings-again service tei c d p q face back rt ru (Away service tei c d p q face back rt ru past b) v h may past M h.far.held quiet.way
              (answers-again service tei c d p q face back rt ru M.link M.terms (ranges service tei q past d v.far M h.far.held) h.far.up h.far.a (none-waits service tei M quiet)),
        ))
    called-tells past b none (inr h) = absurd (cc (sym (sure-still service tei c d p q face back rt ru past b v h still).near.heard ∙ none))

    pub phase-tells : (x : Called) → Phase service tei c d p q face back rt ru x v → heard_in v.near ≡ [] → Tells
    phase-tells x (inl (told, sent, h)) none =
        ringing-tells (Down service tei c d p q face back rt ru) h (λ h. (
          long (Down service tei c d p q face back rt ru) h [] (end (terms d service tei) fresh []) h.far,
          rings-again service tei c d p q face back rt ru (Down service tei c d p q face back rt ru) v h may [] (end (terms d service tei) fresh []) h.far refl
              (answers-first service tei c d p q face back rt ru),
        ))
    phase-tells x (inr (some, h)) none = called-tells x.told x.sent none h

  -- ---- it settles

  module _ (x : Called) (v : Wire) (g : List (List ℕ)) (given_up : x.given_up ≡ length g) (phase : Phase service tei c d p q face back rt ru x v) where
    abbrev here : Wire
    here = with_before g v

    abbrev last : ℕ → Wire
    last u = rounds (u + 3) (with_t200_expired service tei here)

    abbrev Timed : Wire → Type 0
    Timed w = HasItsTimer (link_of service tei (line_of w.near)) × HasItsTimer (link_of service tei (line_of w.far))

    abbrev TellsSo : Wire → Type 0
    TellsSo w = StayPatient (near_expires service tei) w × (heard_in (rounds 1 (doing_all (near_expires service tei) w)).near ≡ confirmed service tei ∷ [])

    pub rings : IsStill here → heard_in v.near ≡ [] → MayRepeat service tei v.near → TellsSo here
    unfolding doing_all
    rings still none may =
        let same = ap (rounds 1) (grind arith) ∙ rounds-before g 1 (acting (expires (timer_T200 service tei)) v) in
        let tells = phase-tells v (still-there service tei c d p q face back rt ru x v g given_up phase still) may x phase none in
        (patient-before g (near_expires service tei) v tells.0, ap (λ y. heard_in y.near) same ∙ tells.1)

    module _ (known : BothKnown service tei none_busy here) (timed : StayPatient (both_expire service tei) here → (u : ℕ) → Timed (last u)) where
      module _ (still : IsStill here) (heard : heard_in v.near ≢ []) (may : BothMayRepeat service tei here) where
        up : Its x.told v
        up = told-up x v phase heard

        quiet : IsStill v
        quiet = still-there service tei c d p q face back rt ru x v g given_up phase still

        near_free : up.n.link.own_busy ≡ false
        near_free = ap (λ l. l.own_busy) (sym (link-is service tei c p v.near up.n up.near.stands)) ∙ known.0.free refl

        far_free : up.m.link.own_busy ≡ false
        far_free = ap (λ l. l.own_busy) (sym (link-is service tei d q v.far up.m up.far.stands)) ∙ known.1.free refl

        at : LooseAt service tei c d p q (confirmed service tei ∷ []) x.told v up.n up.m
        at = record { near = up.near; far = up.far; loose = up.loose }

        goes-on : StayPatient (both_expire service tei) here
        goes-on = patient-before g (both_expire service tei) v (loose-goes_on service tei c d p q face back (confirmed service tei ∷ []) x.told v up.n up.m at quiet may near_free far_free)

        kept : (confirmed service tei ∷ []) ++ map (data_told service tei) v.far.granted ≡ all_kept service tei x here.far
        kept = all-is service tei c d p q face back rt ru x v g given_up phase

        settles : (u : ℕ) → HasLeft service tei u x here → HasTold service tei x here (last u) × IsAtRest service tei (last u)
        settles u left =
            let lasts = rounds (u + 3) (with_t200_expired service tei v) in
            let same : last u ≡ with_before g lasts = ap (rounds (u + 3)) (expired-before g service tei v) ∙ rounds-before g (u + 3) (with_t200_expired service tei v) in
            let few = subst (λ ts. length ts ≤ length (heard_in v.near) + u) (sym kept) left.0 in
            let y = loose-settles service tei c d p q face back (confirmed service tei ∷ []) x.told v up.n up.m at quiet may near_free far_free u few left.1 in
            let its = subst Timed same (timed goes-on u) in
            let rests : IsStill (with_before g lasts) = record { near = y.rests.near; far = y.rests.far; near_way = y.rests.near_way; far_way = y.rests.far_way } in
            subst (λ w. HasTold service tei x here w × IsAtRest service tei w) (sym same) ((y.near ∙ kept, y.far), (rests, y.near_stops its.0, y.far_stops its.1))

      pub settles-so : Settles service tei x here
      settles-so = record { goes_on = λ can. goes-on can.0 can.1 can.2; settles = λ u can left. settles can.0 can.1 can.2 u left }

-- ---- the call

module _ (service : Service) (c d : Config) (line other tei : ℕ) (ds : List StepAt) (can : CanCall c line d other tei) (talk : All (IsFullTalk service tei) ds)
    (patient : StayPatient ds (calling service tei c line d other)) (free : busy ds (calling service tei c line d other) none_busy ≡ none_busy) where
  abbrev begun : Wire
  begun = calling service tei c line d other

  abbrev w : Wire
  w = doing_all ds (calling service tei c line d other)

  abbrev x : Called
  x = seen service tei ds (calling service tei c line d other) uncalled

  abbrev wide : ℕ
  wide = 2 * (terms c service tei).k + 2 * (terms d service tei).k

  module _ (s : Setting service c d line other tei) (on : Goes service tei c d 0 0 s.face s.back s.near s.far x w) (first : Goes service tei c d 0 0 s.face s.back s.near s.far uncalled begun) where
    abbrev Both : Wire → Type 0
    Both w = BothKnown service tei none_busy w

    near-first : Known service tei false begun.near
    near-first = grind (arith, link-is, asked)

    far-first : Known service tei false begun.far
    far-first = grind (arith, link-is, timely-fresh)

    abbrev narrow : (2 * (terms c service tei).k ≤ wide) × (2 * (terms d service tei).k ≤ wide)
    narrow = (omega arith, omega arith)

    known : Both w
    known =
        subst (λ y. BothKnown service tei y w) free
        (runs-known service tei c d 0 0 s.face s.back s.near s.far wide narrow.0 narrow.1 ds talk begun patient uncalled first none_busy (near-first, far-first))

    abbrev expiring : List StepAt
    expiring = both_expire service tei

    timed : StayPatient expiring w → (u : ℕ) → HasItsTimer (link_of service tei (line_of (rounds (u + 3) (with_t200_expired service tei w)).near)) × HasItsTimer (link_of service tei (line_of (rounds (u + 3) (with_t200_expired service tei w)).far))
    unfolding doing_all
    timed goes-on u =
        let es = expiring ++ many (u + 3) in
        let k = runs-known service tei c d 0 0 s.face s.back s.near s.far wide narrow.0 narrow.1 es (All-append (IsFullTalk service tei) expiring (many (u + 3)) (grind arith) (many-full service tei (u + 3))) w
        (both-patient expiring (many (u + 3)) w goes-on (many-patient (u + 3) (doing_all expiring w))) x on none_busy known in
        let same : doing_all es w ≡ rounds (u + 3) (with_t200_expired service tei w) = doing-append expiring (many (u + 3)) w ∙ many-rounds (u + 3) (with_t200_expired service tei w) in
        subst (λ y. HasItsTimer (link_of service tei (line_of y.near)) × HasItsTimer (link_of service tei (line_of y.far))) same (k.0.timed, k.1.timed)

    pub call-settles : Settles service tei x w
    call-settles =
        subst (Settles service tei x) (sym on.is)
        (settles-so service tei c d 0 0 s.face s.back s.near s.far x on.v on.earlier on.given_up on.phase (subst Both on.is known)
        (subst (λ y. StayPatient expiring y → (u : ℕ) → HasItsTimer (link_of service tei (line_of (rounds (u + 3) (with_t200_expired service tei y)).near)) × HasItsTimer (link_of service tei (line_of (rounds (u + 3) (with_t200_expired service tei y)).far))) on.is timed))

pub lossy-calls-are-answered : LossyCallsAreAnswered
lossy-calls-are-answered service c d line other tei ds can talk = λ patient.
    let s = setting service c d line other tei can in
    let w = doing_all ds (calling service tei c line d other) in
    let on = patient-goes service c d line other tei ds can talk patient in
    subst (λ w. IsStill w → heard_in w.near ≡ [] → MayRepeat service tei w.near → StayPatient (near_expires service tei) w × (heard_in (rounds 1 (doing_all (near_expires service tei) w)).near ≡ confirmed service tei ∷ [])) (sym on.is)
    (rings service tei c d 0 0 s.face s.back s.near s.far (seen service tei ds (calling service tei c line d other) uncalled) on.v on.earlier on.given_up on.phase)

pub lossy-calls-settle : LossyCallsSettle
unfolding seen doing_all StayPatient
lossy-calls-settle service c d line other tei ds can talk = λ patient free.
    call-settles service c d line other tei ds can talk patient free (setting service c d line other tei can) (patient-goes service c d line other tei ds can talk patient)
    (patient-goes service c d line other tei [] can (All-nil (IsFullTalk service tei)) tt)
