-- A call in which UA may be lost and an end may be busy comes to rest, from any time of it on.
use Rattle.laws_wire.proofs.Vocabulary.{◌≡◌, ◌≢◌, ℕ, zero, suc, ◌+◌, ◌*◌, ◌≤◌, List, [], ◌∷◌, ◌++◌, length, refl, sym, ap, subst, ◌∙◌, arith, length-append, length-map, All, All-cons, All-nil, All-append, Service, Config, LineTold, terms, Wire, expires, sends, receives, at_near, at_far, StepAt, doing, doing_all, IsStill, calling, CanCall, granted_of, confirmed, heard_in, IsFullTalk, Ends, fresh}
use Rattle.laws_wire.proofs.Vocabulary.{StayPatient, MayRepeat, BothMayRepeat, with_t200_expired, rounds, expiries, most_frames, expiry, timer_T200, IsAtRest, Called, uncalled, seen, ToldSo, length-drop, reports, most_moves, none_busy, Busy, busy, busy_behind, HasLeft, near_expires, LossyCallsComeToRest}
use Rattle.laws_wire.proofs.Answered.{same-granted}
use Rattle.laws_wire.proofs.LossyRun.{setting}
use Rattle.laws_wire.proofs.RestedRounds.{doing-append, expiries-append, many, many-rounds, none-expires, none-more}
use Rattle.laws_wire.proofs.TimelyUp.{still-open}
use Rattle.laws_wire.proofs.UaMoves.{both-patient, many-full, many-patient, none-reported, reports-append, rests-in}
use Rattle.laws_wire.proofs.UaSettles.{lossy-calls-are-answered, lossy-calls-settle}
use Rattle.laws_wire.proofs.UaTold.{lossy-calls-come-through}
use Rattle.laws_wire.proofs.UnderwayRounds.{told-still}
use Rattle.laws_wire.proofs.Simulated.{stands-on}
use Rattle.laws_wire.proofs.Calling.{asked, end}

-- ---- own busy is not asked for

busy-append : (ds es : List StepAt) (w : Wire) (x : Busy) → busy (ds ++ es) w x ≡ busy es (doing_all ds w) (busy ds w x)
unfolding busy doing_all
busy-append [] es w x = refl
busy-append (d ∷ ds) es w x = busy-append ds es (doing d w) (busy_behind d w x)

none-busier : (n : ℕ) (w : Wire) (x : Busy) → busy (many n) w x ≡ x
unfolding many busy
none-busier zero w x = refl
none-busier (suc n) w x = none-busier n (doing (at_near receives) (doing (at_far sends) (doing (at_far receives) (doing (at_near sends) w)))) x

-- ---- where no turn is left T200 of the end that calls is timely

module _ (service : Service) (c d : Config) (line other tei k : ℕ) (can : CanCall c line d other tei) where
  abbrev begun : Wire
  begun = calling service tei c line d other

  long : (ds : List StepAt) → All (IsFullTalk service tei) ds → IsStill (doing_all ds begun) → MayRepeat service tei (doing_all ds begun).near
      → StayPatient (near_expires service tei) (doing_all ds begun)
  unfolding StayPatient
  long ds talk still may =
      let s = setting service c d line other tei can in
      let first : Ends = record { near = end (terms c service tei) asked []; far = end (terms d service tei) fresh [] } in
      let x = stands-on service tei c d 0 0 s.face s.back ds talk begun first (record { near = s.near_held.stands; far = s.far_held.stands }) in
      ((λ awaits. (still-open service tei c d 0 0 (doing_all ds begun) x.0 x.1 still).0, may), tt)

  module _ (ds : List StepAt) (talk : All (IsFullTalk service tei) ds) (patient : StayPatient ds begun) (told : heard_in (doing_all ds begun).near ≢ []) where
    abbrev x : Called
    x = seen service tei ds begun uncalled

    abbrev w : Wire
    w = doing_all ds begun

    some-heard : (hs : List LineTold) → hs ≢ [] → 1 ≤ length hs
    some-heard [] some = absurd (some refl)
    some-heard (h ∷ hs) some = omega arith

    law : ToldSo service tei x w
    law = lossy-calls-come-through service c d line other tei ds can talk patient

    left : HasLeft service tei (granted_of w) x w
    left = (grind (arith, length-map, length-drop, some-heard), grind (arith, law, length-append, long, length-map))

    rest : busy ds begun none_busy ≡ none_busy → IsStill w → BothMayRepeat service tei w → IsAtRest service tei (rounds (granted_of w + 3) (with_t200_expired service tei w))
    rest free still may = ((lossy-calls-settle service c d line other tei ds can talk patient free).settles (granted_of w) (still, told, may) left).1

module _ (service : Service) (c d : Config) (line other tei k : ℕ) (ds : List StepAt) (can : CanCall c line d other tei) (talk : All (IsFullTalk service tei) ds) (wide-near : (terms c service tei).k ≤ k)
    (wide-far : (terms d service tei).k ≤ k) (patient : StayPatient ds (calling service tei c line d other)) (free : busy ds (calling service tei c line d other) none_busy ≡ none_busy) where
  abbrev first : Wire
  first = calling service tei c line d other

  abbrev at : Wire
  at = doing_all ds first

  abbrev calls : List StepAt
  calls = near_expires service tei

  -- as rounds have led to where no turn is left
  module _ (n : ℕ) (still : IsStill (rounds n at)) (may : MayRepeat service tei (rounds n at).near) where
    abbrev ds1 : List StepAt
    ds1 = ds ++ many n

    abbrev at-1 : Wire
    at-1 = rounds n at

    is-1 : doing_all ds1 first ≡ at-1
    is-1 = doing-append ds (many n) first ∙ many-rounds n at

    talk-1 : All (IsFullTalk service tei) ds1
    talk-1 = All-append (IsFullTalk service tei) ds (many n) talk (many-full service tei n)

    patient-1 : StayPatient ds1 first
    patient-1 = both-patient ds (many n) first patient (many-patient n at)

    calls-so : StayPatient calls (doing_all ds1 first)
    calls-so = long service c d line other tei k can ds1 talk-1 (subst IsStill (sym is-1) still) (subst (λ (w : Wire). MayRepeat service tei w.near) (sym is-1) may)

    -- T200 of the end that calls expires
    abbrev ds2 : List StepAt
    ds2 = ds1 ++ calls

    abbrev at-2 : Wire
    at-2 = doing_all calls at-1

    talk-2 : All (IsFullTalk service tei) ds2
    talk-2 = All-append (IsFullTalk service tei) ds1 calls talk-1 (All-cons (IsFullTalk service tei) (at_near (expires (timer_T200 service tei))) [] (refl, refl) (All-nil (IsFullTalk service tei)))

    -- and so many rounds
    module _ (r : ℕ) where
      abbrev ds3 : List StepAt
      ds3 = ds2 ++ many r

      is-3 : doing_all ds3 first ≡ rounds r at-2
      is-3 = doing-append ds2 (many r) first ∙ many-rounds r (doing_all ds2 first) ∙ ap (rounds r) (doing-append ds1 calls first ∙ ap (doing_all calls) is-1)

      talk-3 : All (IsFullTalk service tei) ds3
      talk-3 = All-append (IsFullTalk service tei) ds2 (many r) talk-2 (many-full service tei r)

      patient-3 : StayPatient ds3 first
      patient-3 = both-patient ds2 (many r) first (both-patient ds1 calls first patient-1 calls-so) (many-patient r (doing_all ds2 first))

      free-3 : busy ds3 first none_busy ≡ none_busy
      unfolding busy
      free-3 = grind (arith, busy-append, many, none-busier)

      expired-3 : expiries ds3 ≡ expiries ds + 1
      unfolding expiries
      expired-3 = grind (arith, many, expiries-append, none-expires)

      granted-3 : granted_of (rounds r at-2) ≡ granted_of at
      unfolding doing_all
      granted-3 =
          sym (ap granted_of (many-rounds r at-2)) ∙ none-more r at-2
          ∙ ap (λ (xs : List (List ℕ)). length xs + length at-1.far.granted) (same-granted (expiry (timer_T200 service tei)) at-1.near refl) ∙ sym (ap granted_of (many-rounds n at)) ∙ none-more n at

      reports-3 : reports ds3 first ≡ reports ds first
      unfolding reports
      reports-3 = grind (arith, many, reports-append, none-reported)

      most-3 : most_moves k ds3 first ≡ most_moves k ds first + 2 * (k + 2)
      most-3 = (λ i. 2 * (most_frames k (expired-3 i) (granted_of (is-3 i)) + reports-3 i)) ∙ (λ i. 2 * (most_frames k (expiries ds + 1) (granted-3 i) + reports ds first)) ∙ sum (granted_of at) (expiries ds) (reports ds first)
        where
          sum : (g x r : ℕ) → 2 * (most_frames k (x + 1) g + r) ≡ 2 * (most_frames k x g + r) + 2 * (k + 2)
          sum g x r = omega arith

    -- one round, and it was told
    told-1 : heard_in (rounds 1 at-2).near ≢ []
    told-1 = by-heard (heard_in at-1.near) refl
      where
        by-heard : (hs : List LineTold) → heard_in at-1.near ≡ hs → heard_in (rounds 1 at-2).near ≢ []
        by-heard [] e none =
            let law = (lossy-calls-are-answered service c d line other tei ds1 can talk-1) patient-1 (subst IsStill (sym is-1) still) (ap (λ (w : Wire). heard_in w.near) is-1 ∙ e)
            (subst (λ (w : Wire). MayRepeat service tei w.near) (sym is-1) may) in
            let told : heard_in (rounds 1 at-2).near ≡ confirmed service tei ∷ [] = subst (λ w. heard_in (rounds 1 (doing_all calls w)).near ≡ confirmed service tei ∷ []) is-1 law.1 in
            absurd (cc)
        by-heard (h ∷ hs) e none =
            told-still (calls ++ many 1) at-1 (λ nothing. let wrong : h ∷ hs ≡ [] = sym e ∙ nothing in absurd (cc))
            (ap (λ (w : Wire). heard_in w.near) (doing-append calls (many 1) at-1 ∙ many-rounds 1 at-2) ∙ none)

    -- and then rounds lead there again
    rest-2 : (m : ℕ) × (m ≤ most_moves k ds first + 2 * (k + 2)) × IsStill (rounds m (rounds 1 at-2))
    rest-2 =
        let x = rests-in service c d line other tei k (ds3 1) can (talk-3 1) wide-near wide-far (patient-3 1) in
        (x.0, subst (λ b. x.0 ≤ b) (most-3 1) x.1, subst (λ w. IsStill (rounds x.0 w)) (is-3 1) x.2)

    told-so : (m : ℕ) → heard_in (rounds m (rounds 1 at-2)).near ≢ []
    told-so m none = told-still (many m) (rounds 1 at-2) told-1 (ap (λ (w : Wire). heard_in w.near) (many-rounds m (rounds 1 at-2)) ∙ none)

    one-more : (m : ℕ) → rounds m (rounds 1 at-2) ≡ rounds (suc m) at-2
    unfolding rounds
    one-more m = refl

    rests-at : (m : ℕ) → IsStill (rounds (suc m) at-2) → BothMayRepeat service tei (rounds (suc m) at-2) → IsAtRest service tei (rounds (granted_of at + 3) (with_t200_expired service tei (rounds (suc m) at-2)))
    rests-at m still may =
        let r = suc m in
        let is = is-3 r in
        let told = λ (none : heard_in (doing_all (ds3 r) first).near ≡ []). told-so m (ap (λ (w : Wire). heard_in w.near) (one-more m ∙ sym is) ∙ none) in
        let y = rest service c d line other tei k can (ds3 r) (talk-3 r) (patient-3 r) told (free-3 r) (subst IsStill (sym is) still) (subst (BothMayRepeat service tei) (sym is) may) in
        grind (arith, granted-3)

pub lossy-calls-come-to-rest : LossyCallsComeToRest
lossy-calls-come-to-rest service c d line other tei k ds can talk wide-near wide-far = λ patient free.
    let x = (rests-in service c d line other tei k ds can talk wide-near wide-far patient) in
    let n = x.0 in (
      n,
      x.1,
      x.2,
      λ may.
          let y = rest-2 service c d line other tei k ds can talk wide-near wide-far patient free n x.2 may in
          let m = y.0 in
          let still = subst IsStill (one-more service c d line other tei k ds can talk wide-near wide-far patient free n x.2 may m) y.2 in
          (suc m, (let less = y.1 in omega (arith, less)), still, λ both. rests-at service c d line other tei k ds can talk wide-near wide-far patient free n x.2 may m still both),
    )
