-- RC is never above the number of expiries of T200 since a link was last in state 7, so no error is told while this is below N200.
use Rattle.laws_wire.proofs.Vocabulary.{◌≡◌, ℕ, ◌+◌, ◌<◌, ◌≤◌, Bool, true, false, cond, ◌==◌, List, [], ◌∷◌, refl, sym, ap, subst, ◌∙◌, inl, inr, true≢false, eqb-true, lt-ltb, arith, All, All-head, All-tail, Service, Parts, State, TeiAssigned, AwaitingEstablishment, AwaitingRelease, Established, TimerRecovery, Terms, T203, Link, may_repeat, LinkEndpoint, Config, terms, awaits_answer, as_heard}
use Rattle.laws_wire.proofs.Vocabulary.{is_clearing, is_time}
use Rattle.laws_wire.proofs.Vocabulary.{event-follows, T200, after, Wire, EndStep, requests, expires, sends, receives, StepAt, at_near, at_far, acting, turned, doing, calling, IsFullTalkOf, IsFullTalk, IsTimelyOf, StayTimely, StayPatient, Counts, is_7, is_in_7, counted, counting, uncounted, IsCountedOf, StayCounted, StaySpared, ExpiriesAreCounted, LossyExpiriesAreCounted, frame, requested, offer}
use Rattle.laws_wire.proofs.Vocabulary.{expired, received, Ends}
use Rattle.laws_wire.proofs.Vocabulary.{fresh, loses, two_ends_acting, two_ends_with_first_of, with_link}
use Rattle.std.specs.Prelude.{min}
use Rattle.lapd_frame.specs.declared.readings.Reading.{Reading}
use Rattle.lapd_frame.specs.Readings.{by_reading}
use Rattle.model_link.specs.Events.{Event}
use Rattle.model_line.specs.Line.{repeats_in, tries}
use Rattle.model_link.specs.Link.{most_rc, most_repeats, state_number}
use Rattle.laws_wire.proofs.Awaited.{state-is, awaits-is, may-here}
use Rattle.laws_wire.proofs.Simulated.{each-timer, Stand, follows, asked_of, step_of, timer_of, full-at}
use Rattle.laws_wire.proofs.LossyRun.{setting}
use Rattle.laws_wire.proofs.Talking.{Face}
use Rattle.laws_wire.proofs.Calling.{asked, end}

-- ---- states

abbrev from : ℕ → State
from i = cond (i == 4) TeiAssigned (cond (i == 5) AwaitingEstablishment (cond (i == 6) AwaitingRelease (cond (i == 7) Established TimerRecovery)))

-- ---- an event of a link

abbrev IsBelow : Link → ℕ → Type 0
IsBelow l k = awaits_answer l.state ≡ true → l.repeats ≤ k

module _ (t : Terms) (e : Event) (l : Link) (k k' : ℕ) where
  abbrev heard : Event
  heard = as_heard t e

  pub counts-on : is_clearing heard ≡ false → IsBelow l k → (awaits_answer l.state ≡ true → k ≤ k') → (awaits_answer l.state ≡ true → is_time heard l ≡ true → k + 1 ≤ k')
      → (is_time heard l ≡ true → by_reading t.reading 0 (min 1 (most_repeats t 8)) ≤ k') → IsBelow (after t e l) k'
  counts-on stays below keeps adds first awaits = grind (arith, event-follows, eqb-true)

-- by annex B the expiry that leads out of state 7 counts
first-counted : (r : Reading) (n k : ℕ) (b : Bool) → by_reading r 0 (min 1 n) ≤ cond b (by_reading r 0 1) (k + 1)
first-counted r n k b = grind arith

-- ---- two stations

module _ (service : Service) (tei : ℕ) where
  -- Whatever their phase is: they stand for two ends, and neither has RC above this.
  pub record Below (c d : Config) (p q : ℕ) (w : Wire) (k : Counts) : Type 0 where
    pub ends : Ends
    pub stand : Stand service tei c d p q w ends
    pub near : IsBelow ends.near.link k.near
    pub far : IsBelow ends.far.link k.far

  turned-below : (c d : Config) (p q : ℕ) (w : Wire) (k : Counts) → Below c d p q w k → Below d c q p (turned w) (record { near = k.far; far = k.near })
  turned-below c d p q w k h =
      record { ends = record { near = h.ends.far; far = h.ends.near }; stand = record { near = h.stand.far; far = h.stand.near }; near = h.far; far = h.near }

  module _ (c d : Config) (p q : ℕ) (face : Face c d) (w : Wire) (k : Counts) (h : Below c d p q w k) where
    abbrev n : LinkEndpoint
    n = h.ends.near

    abbrev in_7 : Bool
    in_7 = is_in_7 service tei w.near

    abbrev own : Config
    own = w.near.card.config

    seven : awaits_answer n.link.state ≡ true → in_7 ≡ false
    seven awaits = ap is_7 (state-is service tei c p w.near n h.stand.near) ∙ (grind arith)

    keeps : (i : ℕ) → k.near ≤ i → awaits_answer n.link.state ≡ true → k.near ≤ cond in_7 0 i
    keeps i few awaits = subst (λ b. k.near ≤ cond b 0 i) (sym (seven awaits)) few

    -- with T200
    abbrev more : ℕ
    more = cond in_7 (by_reading own.reading 0 1) (k.near + 1)

    adds : awaits_answer n.link.state ≡ true → k.near + 1 ≤ more
    adds awaits = subst (λ b. k.near + 1 ≤ cond b (by_reading own.reading 0 1) (k.near + 1)) (sym (seven awaits)) (omega arith)

    first : by_reading n.terms.reading 0 (min 1 (most_repeats n.terms 8)) ≤ more
    first =
        subst (λ (t : Terms). by_reading t.reading 0 (min 1 (most_repeats t 8)) ≤ more) (sym (h.stand.near.terms ∙ ap (λ c. terms c service tei) (sym h.stand.near.config)))
        (first-counted own.reading (repeats_in own 8) k.near in_7)

    -- an event, at which T200 does not expire, or does
    by-event : (e : Event) → is_clearing (as_heard n.terms e) ≡ false → is_time (as_heard n.terms e) n.link ≡ false → IsBelow (after n.terms e n.link) (cond in_7 0 k.near)
    by-event e stays none =
        counts-on n.terms e n.link k.near (cond in_7 0 k.near) stays h.near (keeps k.near (omega arith)) (λ awaits time. absurd (true≢false (sym time ∙ none))) (λ time. absurd (true≢false (sym time ∙ none)))

    same : IsBelow n.link (cond in_7 0 k.near)
    same awaits = let low = h.near awaits in let x = keeps k.near (omega arith) awaits in omega (arith, low, x)

    taken : (way : List Parts) → IsBelow (two_ends_with_first_of way n).link (cond in_7 0 k.near)
    taken [] = same
    taken (f ∷ fs) = by-event (received (frame f)) refl refl

    at-end : (act : EndStep) → IsFullTalkOf service tei act → IsBelow (two_ends_acting (step_of act) h.ends).near.link (counted service tei act w.near k.near)
    at-end (requests r) is = by-event (requested (asked_of r) false) refl refl
    at-end (expires timer) is =
        each-timer service tei (λ timer. IsBelow (with_link (expired (timer_of timer)) n).link (counted service tei (expires timer) w.near k.near))
        (counts-on n.terms (expired T200) n.link k.near more refl h.near (λ awaits. let x = adds awaits in omega (arith, x)) (λ awaits time. adds awaits) (λ time. first))
        (by-event (expired T203) refl refl) timer is
    at-end sends is = by-event offer refl refl
    at-end receives is = taken h.ends.far.way
    at-end loses is = same

    unmoved : (act : EndStep) → IsFullTalkOf service tei act → IsBelow n.link (counted service tei act w.near k.near)
    unmoved (expires timer) is =
        each-timer service tei (λ timer. IsBelow n.link (counted service tei (expires timer) w.near k.near))
        (λ awaits. let low = h.near awaits in let x = adds awaits in omega (arith, low, x)) same timer is
    unmoved act is = grind (arith, same)

    far-end : (act : EndStep) → IsBelow (two_ends_acting (step_of act) h.ends).far.link k.far
    far-end act = grind arith

    pub near-counts : (act : EndStep) → IsFullTalkOf service tei act → Below c d p q (acting act w) (record k { near = counted service tei act w.near k.near })
    near-counts act is =
        let k' = record k { near = counted service tei act w.near k.near } in
        elim (follows service tei c d p q face w h.ends h.stand act is) [
          | inl e ↦ subst (λ w. Below c d p q w k') (sym e) (record { ends = h.ends; stand = h.stand; near = unmoved act is; far = h.far })
          | inr y ↦ record { ends = two_ends_acting (step_of act) h.ends; stand = y; near = at-end act is; far = far-end act }
        ]

    few : (t : Terms) (l : Link) (k most : ℕ) → l.repeats ≤ k → k + 1 < most → most ≡ most_rc t + 1 → may_repeat t l ≡ true
    few t l k most low less is = lt-ltb l.repeats (most_repeats t (state_number l.state)) (omega (arith, low, less, is))

    near-timely : (act : EndStep) → IsFullTalkOf service tei act → IsCountedOf act k.near w → IsTimelyOf act w
    near-timely (expires timer) is x =
        each-timer service tei (λ timer. IsCountedOf (expires timer) k.near w → IsTimelyOf (expires timer) w)
        (λ x. (
          x.0,
          may-here service tei c p w.near n h.stand.near (λ awaits.
              few n.terms n.link k.near (tries own) (h.near awaits) (x.1 (awaits-is service tei c p w.near n h.stand.near ∙ awaits))
              (ap tries h.stand.near.config ∙ ap (λ (t : Terms). most_rc t + 1) (sym h.stand.near.terms))),
        )) (λ x. tt) timer is x
    near-timely other is x = tt

  -- ---- the run

  pub all-patient : (c d : Config) (p q : ℕ) → Face c d → Face d c → (ds : List StepAt) → All (IsFullTalk service tei) ds → (k : Counts) (w : Wire) → Below c d p q w k → StayCounted service tei ds k w
      → StayPatient ds w
  unfolding StayCounted StayPatient
  all-patient c d p q face back [] full k w h counts = tt
  all-patient c d p q face back (at_near act ∷ ds) full k w h counts =
      let is = All-head (IsFullTalk service tei) (at_near act) ds full in (
        near-timely c d p q face w k h act is counts.0,
        all-patient c d p q face back ds (All-tail (IsFullTalk service tei) (at_near act) ds full) (counting service tei (at_near act) w k) (acting act w) (near-counts c d p q face w k h act is) counts.1,
      )
  all-patient c d p q face back (at_far act ∷ ds) full k w h counts =
      let is = All-head (IsFullTalk service tei) (at_far act) ds full in
      let v = turned w in
      let k' : Counts = record { near = k.far; far = k.near } in
      let h' = turned-below c d p q w k h in (
        near-timely d c q p back v k' h' act is counts.0,
        all-patient c d p q face back ds (All-tail (IsFullTalk service tei) (at_far act) ds full) (counting service tei (at_far act) w k) (turned (acting act v))
            (turned-below d c q p (acting act v) (record k' { near = counted service tei act w.far k.far }) (near-counts d c q p back v k' h' act is)) counts.1,
      )

pub lossy-expiries-are-counted : LossyExpiriesAreCounted
lossy-expiries-are-counted service c d line other tei ds can talk = λ counts.
    let x = setting service c d line other tei can in
    let n = end (terms c service tei) asked [] in
    let m = end (terms d service tei) fresh [] in
    all-patient service tei c d 0 0 x.face x.back ds talk uncounted (calling service tei c line d other)
    (record { ends = record { near = n; far = m }; stand = record { near = x.near_held.stands; far = x.far_held.stands }; near = λ awaits. omega arith; far = λ awaits. omega arith }) counts

-- ---- where UA is not lost

all-timely : (ds : List StepAt) (w : Wire) → StayPatient ds w → StaySpared ds w → StayTimely ds w
unfolding StayPatient StaySpared StayTimely
all-timely [] w h spared = tt
all-timely (d ∷ ds) w h spared = ((grind arith), all-timely ds (doing d w) h.1 spared.1)

pub expiries-are-counted : ExpiriesAreCounted
expiries-are-counted service c d line other tei ds can talk = grind (arith, all-timely, lossy-expiries-are-counted, full-at)
