-- A whole call in which UA may be lost and an end may be busy: its moves are bounded, and rounds lead to where no turn is left.
use Rattle.laws_wire.proofs.Vocabulary.{◌≡◌, ℕ, zero, suc, ◌+◌, ◌*◌, ◌≤◌, List, [], ◌∷◌, ◌++◌, length, refl, sym, ap, subst, ◌∙◌, arith, length-append, All, All-nil, All-append, All-head, All-tail, Service, fresh, IsInRange, Config, terms, cond, Wire, EndStep, sends, receives, StepAt, at_near, at_far, turned, doing, doing_all, IsStill, calling, CanCall, granted_of, IsFullTalk, StayPatient, rounds}
use Rattle.laws_wire.proofs.Vocabulary.{is_move_of, moves, expiries_of, expiries, most_frames, IsPatient, Called, uncalled, seeing, seen, reports_of, reports, most_moves, LossyMovesComeToAnEnd, LossyRoundsComeToRest, append_assoc}
use Rattle.laws_wire.proofs.Calling.{asked, end}
use Rattle.laws_wire.proofs.LossyRun.{setting}
use Rattle.laws_wire.proofs.RestedRounds.{doing-append, moves-append, expiries-append, many, none-expires, none-more, finds}
use Rattle.laws_wire.proofs.RestedRun.{twice}
use Rattle.laws_wire.proofs.Talking.{Face}
use Rattle.laws_wire.proofs.UaBefore.{with_before, timely-with}
use Rattle.laws_wire.proofs.UaLostRun.{Phase, Goes, step}
use Rattle.laws_wire.proofs.UaTold.{patient-goes}
use Rattle.laws_wire.proofs.UaWeighs.{Steps, near-pays, far-pays}
use Rattle.laws_wire.proofs.Weighing.{Pays, both-pay, heft, heft-is}

module _ (service : Service) (tei v : ℕ) where
  abbrev P : ℕ → ℕ → ℕ → Wire → Wire → Type 0
  P moved expired reported w w' = Pays service tei v moved expired reported w w'

  -- what was granted before stays so
  pays-before : (moved expired reported : ℕ) (g : List (List ℕ)) (w w' : Wire) → P moved expired reported w w' → P moved expired reported (with_before g w) (with_before g w')
  pays-before moved expired reported g w w' h = grind (arith, length-append)

  -- and what was granted does not matter to what is done
  module _ (g : List (List ℕ)) (w a b : Wire) where
    near-alike : (act : EndStep) → P (cond {A = ℕ} (is_move_of act w) 1 0) (expiries_of act) (reports_of act w) a b
        → P (cond {A = ℕ} (is_move_of act (with_before g w)) 1 0) (expiries_of act) (reports_of act (with_before g w)) a b
    near-alike act h = grind arith

    far-alike : (act : EndStep) → P (cond {A = ℕ} (is_move_of act (turned w)) 1 0) (expiries_of act) (reports_of act (turned w)) a b
        → P (cond {A = ℕ} (is_move_of act (turned (with_before g w))) 1 0) (expiries_of act) (reports_of act (turned (with_before g w))) a b
    far-alike act h = grind arith

  module _ (c d : Config) (p q : ℕ) (face : Face c d) (back : Face d c) (rt : IsInRange (terms c service tei)) (ru : IsInRange (terms d service tei)) (wide_c : 2 * (terms c service tei).k ≤ v)
      (wide_d : 2 * (terms d service tei).k ≤ v) where
    abbrev Does : StepAt → Wire → Type 0
    Does k w = Steps service tei c d p q face back rt ru v wide_c wide_d k w

    module _ (x : Called) (y : Wire) (h : Phase service tei c d p q face back rt ru x y) (g : List (List ℕ)) where
      step-before : (k : StepAt) → IsFullTalk service tei k → IsPatient k (with_before g y) → Does k (with_before g y)
      step-before (at_near act) is x' =
          subst (P _ _ _ (with_before g y)) (sym (grind arith))
          (near-alike g y (with_before g y) _ act
          (pays-before _ _ _ g y _ (near-pays service tei c d p q face back rt ru v wide_c wide_d x y h act is (timely-with act y.near y.far y.near.granted (g ++ y.far.granted) x'))))
      step-before (at_far act) is x' =
          subst (P _ _ _ (with_before g y)) (sym (grind (arith, append_assoc)))
          (far-alike g y (with_before g y) _ act
          (pays-before _ _ _ g y _ (far-pays service tei c d p q face back rt ru v wide_c wide_d x y h act is (timely-with act y.far y.near (g ++ y.far.granted) y.near.granted x'))))

    one : (x : Called) (k : StepAt) → IsFullTalk service tei k → (w : Wire) → IsPatient k w → Goes service tei c d p q face back rt ru x w → Does k w
    one x k is w patient h = subst (λ w. IsPatient k w → Does k w) (sym h.is) (step-before x h.v h.phase h.earlier k is) patient

    pub runs-pay : (ds : List StepAt) → All (IsFullTalk service tei) ds → (w : Wire) → StayPatient ds w → (x : Called) → Goes service tei c d p q face back rt ru x w
        → P (moves ds w) (expiries ds) (reports ds w) w (doing_all ds w)
    unfolding doing_all StayPatient moves expiries reports
    runs-pay [] all w patient x h = record { more = 0; granted = omega arith; falls = omega arith }
    runs-pay (k ∷ ds) all w patient x h =
        let is = All-head (IsFullTalk service tei) k ds all in
        both-pay service tei v _ _ _ (moves ds (doing k w)) (expiries ds) (reports ds (doing k w)) w (doing k w) (doing_all ds (doing k w)) (one x k is w patient.0 h)
        (runs-pay ds (All-tail (IsFullTalk service tei) k ds all) (doing k w) patient.1 (seeing service tei k w x) (step service tei c d p q face back rt ru x k is w patient.0 h))

pub lossy-moves-come-to-an-end : LossyMovesComeToAnEnd
unfolding StayPatient seen doing_all
lossy-moves-come-to-an-end service c d line other tei k ds can talk wide-near wide-far = λ patient.
    let x = setting service c d line other tei can in
    let w = calling service tei c line d other in
    let last = doing_all ds w in
    let h = runs-pay service tei (2 * k) c d 0 0 x.face x.back x.near x.far (twice (terms c service tei).k k wide-near) (twice (terms d service tei).k k wide-far) ds talk w patient uncalled
    (patient-goes service c d line other tei [] can (All-nil (IsFullTalk service tei)) tt) in
    let begins : heft service tei (2 * k) w ≡ 2 * (2 * k) + 8 =
    heft-is service tei (2 * k) c d 0 0 w (end (terms c service tei) asked []) (end (terms d service tei) fresh []) x.near_held.stands x.far_held.stands ∙ omega arith in
    let none : granted_of w ≡ 0 = (λ i. length (x.near_held.granted i) + length (x.far_held.granted i)) ∙ omega arith in
    (omega (
      arith,
      (total (moves ds w) (heft service tei (2 * k) last) (heft service tei (2 * k) w) (2 * (2 * k) + 8) ((2 * k + 4) * expiries ds) (2 * k + 6) h.more (granted_of last) (granted_of w) (2 * reports ds w) begins none
          h.granted h.falls),
    ))
  where
    total : (moved last first eight x six more g none r : ℕ) → first ≡ eight → none ≡ 0 → g ≡ none + more → moved + last ≤ first + x + six * more + r → moved ≤ eight + x + six * g + r
    total moved last first eight x six more g none r e f h less = grind arith

-- ---- rounds

pub both-patient : (ds es : List StepAt) (w : Wire) → StayPatient ds w → StayPatient es (doing_all ds w) → StayPatient (ds ++ es) w
unfolding StayPatient doing_all
both-patient [] es w h g = g
both-patient (d ∷ ds) es w h g = (h.0, both-patient ds es (doing d w) h.1 g)

pub reports-append : (ds es : List StepAt) (w : Wire) → reports (ds ++ es) w ≡ reports ds w + reports es (doing_all ds w)
unfolding reports doing_all
reports-append [] es w = omega arith
reports-append (d ∷ ds) es w =
    let rest : reports (ds ++ es) (doing d w) ≡ reports ds (doing d w) + reports es (doing_all ds (doing d w)) = reports-append ds es (doing d w) in
    omega (arith, rest)

pub many-full : (service : Service) (tei n : ℕ) → All (IsFullTalk service tei) (many n)
unfolding many
many-full service tei zero = All-nil (IsFullTalk service tei)
many-full service tei (suc n) = grind (arith, many-full service tei n, many)

abbrev rounded : Wire → Wire
rounded w = doing (at_near receives) (doing (at_far sends) (doing (at_far receives) (doing (at_near sends) w)))

pub many-patient : (n : ℕ) (w : Wire) → StayPatient (many n) w
unfolding many StayPatient
many-patient zero w = tt
many-patient (suc n) w = (tt, (tt, (tt, (tt, many-patient n (rounded w)))))

pub none-reported : (n : ℕ) (w : Wire) → reports (many n) w ≡ 0
unfolding many reports
none-reported zero w = refl
none-reported (suc n) w = let rest : reports (many n) (rounded w) ≡ 0 = none-reported n (rounded w) in omega (arith, rest)

module _ (service : Service) (c d : Config) (line other tei k : ℕ) (ds : List StepAt) (can : CanCall c line d other tei) (talk : All (IsFullTalk service tei) ds)
    (wide-near : (terms c service tei).k ≤ k) (wide-far : (terms d service tei).k ≤ k) (patient : StayPatient ds (calling service tei c line d other)) where
  abbrev begun : Wire
  begun = calling service tei c line d other

  abbrev w : Wire
  w = doing_all ds begun

  few : (r : ℕ) → moves (many r) w ≤ most_moves k ds begun
  few r =
      less (moves (ds ++ many r) begun) (moves ds begun) (moves (many r) w) (most_moves k (ds ++ many r) begun) (most_moves k ds begun) (moves-append ds (many r) begun)
      (lossy-moves-come-to-an-end service c d line other tei k (ds ++ many r) can (All-append (IsFullTalk service tei) ds (many r) talk (many-full service tei r)) wide-near wide-far
      (both-patient ds (many r) begun patient (many-patient r w)))
      (λ i. 2 * (most_frames k (expired i) (granted i) + reported i))
    where
      expired : expiries (ds ++ many r) ≡ expiries ds
      expired = expiries-append ds (many r) ∙ (let none : expiries (many r) ≡ 0 = none-expires r in omega (arith, none))

      granted : granted_of (doing_all (ds ++ many r) begun) ≡ granted_of w
      granted = ap granted_of (doing-append ds (many r) begun) ∙ none-more r w

      reported : reports (ds ++ many r) begun ≡ reports ds begun
      reported = reports-append ds (many r) begun ∙ (let none : reports (many r) w ≡ 0 = none-reported r w in omega (arith, none))

      less : (all first rest most' most : ℕ) → all ≡ first + rest → all ≤ most' → most' ≡ most → rest ≤ most
      less all first rest most' most e le same = omega (arith, e, le, same)

  pub rests-in : (n : ℕ) × (n ≤ most_moves k ds begun) × IsStill (rounds n w)
  rests-in =
      let x = finds (most_moves k ds begun + 1) w (let less = few (most_moves k ds begun + 1) in omega (arith, less)) in
      (x.after, (let less = x.before in omega (arith, less)), x.still)

pub lossy-rounds-come-to-rest : LossyRoundsComeToRest
lossy-rounds-come-to-rest service c d line other tei k ds can talk wide-near wide-far = λ patient. rests-in service c d line other tei k ds can talk wide-near wide-far patient
