-- Where T200 expires only as no turn is left it is long enough: the law with this premise follows.
use Rattle.laws_wire.proofs.Vocabulary.{arith, ◌≡◌, ℕ, false, List, [], ◌∷◌, All, list_any, All-head, All-tail, Service, Config, LineTold, expiry, terms, Endpoint, Wire, happens, EndStep, StepAt, at_near, at_far, turned, doing, doing_all, IsStill, calling, is_error, HasNoError, answered, told_by, IsRoughTalkOf, IsRoughTalk, IsNoneOpen, MayRepeat, IsTimelyOf, IsTimely, StayTimely, IsStillOf}
use Rattle.laws_wire.proofs.Vocabulary.{IsStillStepAt, StayStill}
use Rattle.laws_wire.proofs.Vocabulary.{WhatIsLostArrivesFromRest, all-right, All-cons, All-nil, IsFullTalk, Ends, fresh}
use Rattle.lapd_frame.specs.declared.timers.Timer.TheVariants.{T200}
use Rattle.laws_wire.proofs.Talking.{Face}
use Rattle.laws_wire.proofs.LossyRun.{setting}
use Rattle.laws_wire.proofs.TimelyRun.{what-is-lost-arrives}
use Rattle.laws_wire.proofs.Simulated.{each-timer, Stand, stands-on, full-at}
use Rattle.laws_wire.proofs.TimelyUp.{still-open}
use Rattle.laws_wire.proofs.Calling.{asked, end}

-- where no error is told as T200 expires N200 is not used up
fair-may : (service : Service) (tei : ℕ) (s : Endpoint) → HasNoError (happens (expiry (T200 service tei)) s) → MayRepeat service tei s
fair-may service tei s fair = all-right (λ (t : LineTold). list_any is_error t.notes ≡ false) s.told (told_by (answered (expiry (T200 service tei)) s)) fair

still-turned : (w : Wire) → IsStill (turned w) → IsStill w
still-turned w h = record { near = h.far; far = h.near; near_way = h.far_way; far_way = h.near_way }

module _ (service : Service) (tei : ℕ) (c d : Config) (p q : ℕ) (face : Face c d) (back : Face d c) where
  near-timely : (act : EndStep) → IsRoughTalkOf service tei act → (w : Wire) → (IsStill w → IsNoneOpen w.near w.far) → IsStillOf act w → IsTimelyOf act w
  near-timely act is w open_ x = grind (arith, each-timer, fair-may)

  one : (k : StepAt) → IsRoughTalk service tei k → (w : Wire) (e : Ends) → Stand service tei c d p q w e → IsStillStepAt k w → IsTimely k w
  one (at_near act) is w e h x = near-timely act is w (λ still. (still-open service tei c d p q w e h still).0) x
  one (at_far act) is w e h x = (near-timely act is (turned w) (λ still. (still-open service tei c d p q w e h (still-turned w still)).1) x.0, grind arith)

  pub all : (ds : List StepAt) → All (IsRoughTalk service tei) ds → (w : Wire) (e : Ends) → Stand service tei c d p q w e → StayStill ds w → StayTimely ds w
  unfolding StayStill StayTimely doing_all
  all [] rough w e h x = tt
  all (k ∷ ds) rough w e h x =
      let is = All-head (IsRoughTalk service tei) k ds rough in
      let then = stands-on service tei c d p q face back (k ∷ []) (All-cons (IsFullTalk service tei) k [] (full-at service tei k is) (All-nil (IsFullTalk service tei))) w e h in
      (one k is w e h x.0, all ds (All-tail (IsRoughTalk service tei) k ds rough) (doing k w) then.0 then.1 x.1)

pub still-is-enough : WhatIsLostArrivesFromRest
still-is-enough service c d line other tei ds can talk = λ still.
    let x = setting service c d line other tei can in
    let w = calling service tei c line d other in
    let begun : Ends = record { near = end (terms c service tei) asked []; far = end (terms d service tei) fresh [] } in
    let law = what-is-lost-arrives service c d line other tei ds can talk (all service tei c d 0 0 x.face x.back ds talk w begun (record { near = x.near_held.stands; far = x.far_held.stands }) still) in
    record {
      no_error = law.no_error;
      arrives = λ u here few fair. law.arrives u here few (fair-may service tei (doing_all ds w).near fair.0, fair-may service tei (doing_all ds w).far fair.1);
    }
