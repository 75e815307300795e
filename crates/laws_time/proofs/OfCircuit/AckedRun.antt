-- At an end of a call T203 alone is due, if what T200 awaits comes in time.
use Rattle.laws_time.proofs.Vocabulary.{All, All-append, All-cons, All-head, All-nil, All-tail, AsksData, AwaitingEstablishment, Beat, Begins, Bool, Clocked, Config, Established, Expiry, IsClean, IsInRange, IsUndue, Lengths, Line, Link, List, None, NoneFallsDue, Request, Service, Some, TimedEndpoint, Timer, Wire, [], after, ap, append-nil, append_assoc, arith, asked, asks, beat, cases_lt}
use Rattle.laws_time.proofs.Vocabulary.{due, false, fold, fold-append, inl, inr, is_timer_of, left_of, length, length-append, longest, moment_of, own_link, port_of, refl, subst, suc, sym, true, ℕ, ◌*◌, ◌++◌, ◌+◌, ◌/◌, ◌<◌, ◌∙◌, ◌∷◌, ◌≡◌, ◌≤◌, ◌⊎◌, fall_due, by-option}
use Rattle.lapd_frame.specs.declared.timers.Timer.TheVariants as timers
use Rattle.laws_wire.specs.Wire as wire
use Rattle.laws_time.proofs.OfCircuit.AckedOn as on
use Rattle.laws_time.proofs.OfCircuit.AckedEnds.{its_link, Due, Claim, Timed, Held, beat-begins}
use Rattle.laws_time.proofs.OfCircuit.AckedOn.{Open}
use Rattle.laws_time.proofs.OfCircuit.Words.{EndOk, Goes, Pair, RunsOurs, all-pairs, at_time, due-is, far-comes, first-of, near-comes, own-timer}
use Rattle.laws_time.proofs.OfCircuit.AckedBeats.{Calm, calm-parts, Stands, stands-then, acked-then, split, talks, led-calm, come-calm, puts-calm}
use Rattle.laws_time.proofs.OfCircuit.AckedSides.{cfg, rng, lens, end_at, link_of_end, EndTimed, Mid, mid-asked, mid-then, far-not-ringing}
use Rattle.laws_time.proofs.OfCircuit.AgainRan.{beats-then}
use Rattle.laws_time.proofs.OfCircuit.InBeatsDue.{Rule, Keeps, AreKept, kept-beat, first-keeps, early}
use Rattle.laws_time.proofs.OfCircuit.InCallWalk.{fewer}
use Rattle.laws_time.proofs.OfCircuit.Led.{near-pulled, far-pulled, data-talks, data-talk}
unfoldable use Rattle.laws_time.proofs.OfCircuit.AckedBeats.{goes, stands-then}
use Rattle.laws_time.proofs.OfCircuit.AckedCall.{sum_all, far_sends}
use Rattle.laws_time.proofs.OfCircuit.AckedUp.{both-up}
use Rattle.laws_time.proofs.OfCircuit.AckedWire.{near_takes, far_takes}
use Rattle.laws_time.proofs.OfCircuit.InBeatsFrames.{near-puts}
use Rattle.laws_time.proofs.OfCircuit.InBeatsTold.{heard-all}
use Rattle.laws_time.proofs.OfCircuit.Joined.{put_at, wire_of}
use Rattle.laws_time.proofs.OfCircuit.AgainLaw.{again}

module _ (service : Service) (tei : ℕ) (c : Config) (ranged : IsInRange c) (ls : Lengths) (Old : ℕ → ℕ → Type 0) (now : ℕ) (a : TimedEndpoint) (h : Timed service tei c ranged ls Old now a)
    (not_old : (m : ℕ) → Open (its_link service tei c ranged ls a.at) → Old (its_link service tei c ranged ls a.at).a m → m ≤ now → ⊥)
    (not_ringing : (its_link service tei c ranged ls a.at).state ≡ AwaitingEstablishment → ls.t200 ≤ now → ⊥) (t200 : 1 ≤ ls.t200) (S M rate : ℕ) (ok : EndOk c service tei 0 ranged ls rate S M a) where
  module _ (x : Expiry) (is : due a.clock ≡ Some x) where
    ours : is_timer_of service tei x.timer ≡ true
    ours = first-of (RunsOurs service tei) a.clock.running a.clock.now x ok.but.ours is

    found : (its : Timer) → x.timer ≡ its → (moment_of a.at.line its a.clock.running ≡ Some x.moment) × (x.moment ≤ a.clock.now)
    found its same = due-is a.at.line a.clock.now its a.clock.running x ok.but.clock.here is same

    soon : x.moment ≤ now
    soon = let low = (found x.timer refl).1 in let n = h.now_is in omega (arith, low, n)

    t200-not : x.timer ≡ timers.T200 service tei → ⊥
    t200-not same = go (h.claim x.moment (found (timers.T200 service tei) same).0)
      where
        by-due : Open (its_link service tei c ranged ls a.at) → Due service tei c ranged ls Old now (its_link service tei c ranged ls a.at).a (its_link service tei c ranged ls a.at).s x.moment → ⊥
        by-due open_now (inl old) = not_old x.moment open_now old soon
        by-due open_now (inr (less, late)) = let low = soon in absurd (omega (arith, late, low, t200))

        go : Claim service tei c ranged ls Old (Due service tei c ranged ls Old now) (its_link service tei c ranged ls a.at) x.moment → ⊥
        go (long, inl ringing, due_so) = let low = soon in not_ringing ringing (omega (arith, low, long))
        go (long, inr (open_now, less), due_so) = by-due open_now (due_so open_now)

    pub is-t203 : x.timer ≡ timers.T203 service tei
    is-t203 = own-timer service tei (λ timer. x.timer ≡ timer → x.timer ≡ timers.T203 service tei) (λ same. absurd (t200-not same)) (λ same. same) x.timer ours refl

  -- So none is, before T203 is.
  pub none-due : ((x : Expiry) → due a.clock ≡ Some x → x.timer ≡ timers.T203 service tei → now < x.moment) → due a.clock ≡ None
  none-due later = by-option (due a.clock) (λ is. is) (λ x is. let low = soon x is in let high = later x is (is-t203 x is) in absurd (omega (arith, low, high)))

-- ---- a call with clocks and without noise, beat by beat: no timer falls due

module _ (l : Line) (fit : Begins l) where
  abbrev pub EndHeld : Bool → (ℕ → ℕ → Type 0) → TimedEndpoint → Type 0
  EndHeld b Old a = Held l.service l.tei (cfg l fit b) (rng l fit b) (lens l fit b) Old a

  abbrev link_of : Bool → TimedEndpoint → Link
  link_of b a = link_of_end l fit b a.at

  -- The near end is up.
  abbrev pub IsUpAt : Clocked → Type 0
  IsUpAt w = (link_of_end l fit false w.near.at).state ≡ Established

  -- A beat ends.
  pub beat-ends : (b : Bool) (Old New : ℕ → ℕ → Type 0) (now : ℕ) (a : TimedEndpoint) → EndTimed l fit b Old now a → ((m : ℕ) → (Due l.service l.tei (cfg l fit b) (rng l fit b) (lens l fit b) Old now ((link_of b a).a) ((link_of b a).s) m) → New (link_of b a).a m) → EndHeld b New a
  beat-ends b Old New now a h more = record { ran = h.ran; lengths = h.lengths; claim = λ m at_m. let x = h.claim m at_m in (x.0, x.1, λ open_now. more m (x.2 open_now)) }

  pub none-calm : (w : Clocked) → Calm l fit [] w
  unfolding NoneFallsDue
  none-calm w = record { data_alone = All-nil (AsksData l); are_clean = All-nil IsClean; undue = tt }

  -- ---- one beat

  module _ (w : Clocked) (h : Stands l fit w) (OldN OldF : ℕ → ℕ → Type 0) (near : EndHeld false OldN w.near) (far : EndHeld true OldF w.far) (b : Beat) (data_alone : AsksData l b) where
    abbrev MidOf : TimedEndpoint → TimedEndpoint → List ℕ → List ℕ → Type 0
    MidOf a z wn wf = Mid l fit OldN OldF (w.beats / l.rate) (link_of false w.near).a (link_of true w.far).a (IsUpAt w) a z wn wf

    -- Layer 3 has asked.
    pub asked-so : let a = fold asks (at_time (w.beats / l.rate) w.near) b.near_asks in let z = fold asks (at_time (w.beats / l.rate) w.far) b.far_asks in MidOf a z a.at.way z.at.way
    asked-so =
        let now = w.beats / l.rate in
        mid-asked l fit OldN OldF now (link_of false w.near).a (link_of true w.far).a (IsUpAt w) b.near_asks b.far_asks data_alone.0 data_alone.1 (at_time (w.beats / l.rate) w.near) (at_time (w.beats / l.rate) w.far)
        (record {
          there = h.now.there;
          back = h.now.back;
          joined = h.now.joined;
          weight = h.now.weight;
          on_wire = h.now.on_wire;
          near = beat-begins l.service l.tei (cfg l fit false) (rng l fit false) (lens l fit false) OldN now w.near near;
          far = beat-begins l.service l.tei (cfg l fit true) (rng l fit true) (lens l fit true) OldF now w.far far;
          near_low = omega arith;
          far_low = omega arith;
          up = λ is. is;
        })

    pub beat-so : IsClean b → IsUndue (w.beats / l.rate) b.near_asks w.near → IsUndue (w.beats / l.rate) b.far_asks w.far → let u = beat l.rate w b in MidOf u.near u.far u.near.at.way u.far.at.way
    beat-so is_clean undue undue_far =
        mid-then l fit OldN OldF (w.beats / l.rate) (link_of false w.near).a (link_of true w.far).a (IsUpAt w) w b is_clean (fold asks (at_time (w.beats / l.rate) w.near) b.near_asks) (fold asks (at_time (w.beats / l.rate) w.far) b.far_asks)
        (near-pulled l.rate w b undue) (far-pulled l.rate w b undue_far) asked-so

  -- ---- many

  abbrev most : ℕ
  most = 3 * longest l.near.n201 + 2 * l.way

  -- From a beat on, of this number.
  module _ (w1 : Clocked) (number : ℕ) (are : w1.beats ≡ suc number) (stands : Stands l fit w1) where
    -- T200 was started in a beat, after which so much was sent.
    abbrev pub OldAt : Bool → List Beat → ℕ → ℕ → Type 0
    OldAt b xs a m =
        (ps : List Beat) × (qs : List Beat) × (xs ≡ ps ++ qs) × (a < (link_of_end l fit b (end_at l fit b (after l.rate ps w1))).s) × ((number + length ps) / l.rate + (lens l fit b).t200 ≤ m)

    pub record At (xs : List Beat) : Type 0 where
      pub calm : Calm l fit xs w1
      pub pair : Pair l fit (after l.rate xs w1)
      pub near : EndHeld false (OldAt false xs) (after l.rate xs w1).near
      pub far : EndHeld true (OldAt true xs) (after l.rate xs w1).far

    module _ (xs : List Beat) (h : At xs) where
      abbrev w : Clocked
      w = after l.rate xs w1

      beats-are : w.beats ≡ suc (number + length xs)
      beats-are = let sum = beats-then l.rate xs w1 in omega (arith, sum, are)

      -- What was sent so long ago is acknowledged.
      too-old : (b : Bool) (a m : ℕ) → (link_of_end l fit b (end_at l fit b w)).a ≤ a → most + l.rate < (lens l fit b).t200 * l.rate → OldAt b xs a m → m ≤ w.beats / l.rate → ⊥
      too-old b a m low long (ps, qs, is, less, later) soon = go b (cases_lt (length qs) most) low long less later
        where
          sum : length xs ≡ length ps + length qs
          sum = ap length is ∙ length-append ps qs

          parts : Calm l fit ps w1 × Calm l fit qs (after l.rate ps w1)
          parts = calm-parts l fit ps qs w1 (subst (λ xs. Calm l fit xs w1) is h.calm)

          led : after l.rate qs (after l.rate ps w1) ≡ w
          led = sym (fold-append (beat l.rate) w1 ps qs) ∙ ap (λ es. after l.rate es w1) (sym is)

          go : (b : Bool) → (length qs < most) ⊎ (most ≤ length qs) → (link_of_end l fit b (end_at l fit b w)).a ≤ a → most + l.rate < (lens l fit b).t200 * l.rate
              → a < (link_of_end l fit b (end_at l fit b (after l.rate ps w1))).s → (number + length ps) / l.rate + (lens l fit b).t200 ≤ m → ⊥
          go false (inr enough) low long less later =
              let x = acked-then l fit qs (after l.rate ps w1) parts.1 (stands-then l fit ps w1 parts.0 stands) enough in
              let acked = subst (λ (u : Clocked). (link_of_end l fit false (after l.rate ps w1).near.at).s ≤ (link_of_end l fit false u.near.at).a) led x.near in
              absurd (omega (arith, acked, low, less))
          go true (inr enough) low long less later =
              let x = acked-then l fit qs (after l.rate ps w1) parts.1 (stands-then l fit ps w1 parts.0 stands) enough in
              let acked = subst (λ (u : Clocked). (link_of_end l fit true (after l.rate ps w1).far.at).s ≤ (link_of_end l fit true u.far.at).a) led x.far in absurd (omega (arith, acked, low, less))
          go b (inl few) low long less later =
              let early = fewer (number + length ps) (length qs + 1) l.rate (lens l fit b).t200 fit.some (omega (arith, few, long)) in
              let same : w.beats ≡ number + length ps + (length qs + 1) = (let a = beats-are in omega (arith, a, sum)) in
              let then = subst (λ n. n / l.rate < (number + length ps) / l.rate + (lens l fit b).t200) (sym same) early in absurd (omega (arith, then, later, soon))

      -- If T200 of the near end has run once, its SABME is answered.
      module _ (b : Beat) (data_alone : AsksData l b) (long : most + l.rate < l.lengths.t200 * l.rate) (long_far : most + l.rate < l.far_lengths.t200 * l.rate) (answered : l.lengths.t200 ≤ w.beats / l.rate → IsUpAt w) where
        abbrev n1 : TimedEndpoint
        n1 = fold asks (at_time (w.beats / l.rate) w.near) b.near_asks

        abbrev f1 : TimedEndpoint
        f1 = fold asks (at_time (w.beats / l.rate) w.far) b.far_asks

        mid : Mid l fit (OldAt false xs) (OldAt true xs) (w.beats / l.rate) (link_of false w.near).a (link_of true w.far).a (IsUpAt w) n1 f1 n1.at.way f1.at.way
        mid = asked-so w (stands-then l fit xs w1 h.calm stands) (OldAt false xs) (OldAt true xs) h.near h.far b data_alone

        -- each timer that runs is the link's
        near-ok : Goes l.near l.service l.tei 0 fit.call.near.0 l.lengths l.rate h.pair.S h.pair.M (at_time (w.beats / l.rate) w.near) (fold asks (at_time (w.beats / l.rate) w.near) b.near_asks)
        unfolding fall_due
        near-ok = near-comes l fit w h.pair b (data-talk l b data_alone) 0

        far-ok : Goes l.far l.service l.tei 0 fit.call.far.0 l.far_lengths l.rate h.pair.S2 h.pair.M2 (at_time (w.beats / l.rate) w.far) (fold asks (at_time (w.beats / l.rate) w.far) b.far_asks)
        unfolding fall_due
        far-ok = far-comes l fit w h.pair b (data-talk l b data_alone) 0

        not-ringing : (link_of false n1).state ≡ AwaitingEstablishment → l.lengths.t200 ≤ w.beats / l.rate → ⊥
        not-ringing rings late = let e : Established ≡ AwaitingEstablishment = sym (mid.up (answered late)) ∙ rings in cc e

        not-ringing-far : (link_of true f1).state ≡ AwaitingEstablishment → l.far_lengths.t200 ≤ w.beats / l.rate → ⊥
        not-ringing-far rings late = far-not-ringing l fit n1.at f1.at mid.there mid.back mid.weight mid.on_wire rings

        old-near : (m : ℕ) → Open (link_of false n1) → OldAt false xs (link_of false n1).a m → m ≤ w.beats / l.rate → ⊥
        old-near m open_now old soon = too-old false (link_of false n1).a m mid.near_low long old soon

        old-far : (m : ℕ) → Open (link_of true f1) → OldAt true xs (link_of true f1).a m → m ≤ w.beats / l.rate → ⊥
        old-far m open_now old soon = too-old true (link_of true f1).a m mid.far_low long_far old soon

        pub near-first : (x : Expiry) → due n1.clock ≡ Some x → x.timer ≡ timers.T203 l.service l.tei
        near-first x is =
            is-t203 l.service l.tei (cfg l fit false) (rng l fit false) (lens l fit false) (OldAt false xs) (w.beats / l.rate) n1 mid.near old-near not-ringing fit.lengths.0.t200 near-ok.S' h.pair.M l.rate near-ok.ok x is

        pub far-first : (x : Expiry) → due f1.clock ≡ Some x → x.timer ≡ timers.T203 l.service l.tei
        far-first x is =
            is-t203 l.service l.tei (cfg l fit true) (rng l fit true) (lens l fit true) (OldAt true xs) (w.beats / l.rate) f1 mid.far old-far not-ringing-far fit.lengths.1.t200 far-ok.S' h.pair.M2 l.rate far-ok.ok x is

        abbrev IsLater : TimedEndpoint → Type 0
        IsLater a = (x : Expiry) → due a.clock ≡ Some x → x.timer ≡ timers.T203 l.service l.tei → w.beats / l.rate < x.moment

        pub near-undue : IsLater n1 → IsUndue (w.beats / l.rate) b.near_asks w.near
        near-undue later =
            none-due l.service l.tei (cfg l fit false) (rng l fit false) (lens l fit false) (OldAt false xs) (w.beats / l.rate) n1 mid.near old-near not-ringing fit.lengths.0.t200 near-ok.S' h.pair.M l.rate near-ok.ok later

        pub far-undue : IsLater f1 → IsUndue (w.beats / l.rate) b.far_asks w.far
        far-undue later =
            none-due l.service l.tei (cfg l fit true) (rng l fit true) (lens l fit true) (OldAt true xs) (w.beats / l.rate) f1 mid.far old-far not-ringing-far fit.lengths.1.t200 far-ok.S' h.pair.M2 l.rate far-ok.ok later

      after-so : (b : Beat) → beat l.rate w b ≡ after l.rate (xs ++ b ∷ []) w1
      after-so b = sym (fold-append (beat l.rate) w1 xs (b ∷ []))

      grown : (b : Beat) (side : Bool) (a m : ℕ) → (Due l.service l.tei (cfg l fit side) (rng l fit side) (lens l fit side) (OldAt side xs) (w.beats / l.rate) a ((link_of_end l fit side (end_at l fit side (beat l.rate w b))).s) m) → OldAt side (xs ++ b ∷ []) a m
      grown b side a m (inl (ps, qs, is, less, later)) = (ps, qs ++ b ∷ [], ap (λ zs. zs ++ b ∷ []) is ∙ append_assoc ps qs (b ∷ []), less, later)
      grown b side a m (inr (less, later)) =
          let long = length-append xs (b ∷ []) in let is = beats-are in
          let same : number + length (xs ++ b ∷ []) ≡ w.beats = omega (arith, long, is) in (
            xs ++ b ∷ [],
            [],
            sym (append-nil (xs ++ b ∷ [])),
            subst (λ (x : Clocked). a < (link_of_end l fit side (end_at l fit side x)).s) (after-so b) less,
            subst (λ n. n / l.rate + (lens l fit side).t200 ≤ m) (sym same) later,
          )

      undue-one : (b : Beat) → IsUndue (w.beats / l.rate) b.near_asks w.near → IsUndue (w.beats / l.rate) b.far_asks w.far → (ys : List Beat) (w0 : Clocked) → NoneFallsDue l.rate ys w0 → after l.rate ys w0 ≡ w → NoneFallsDue l.rate (ys ++ b ∷ []) w0
      unfolding NoneFallsDue
      undue-one b near far [] w0 before is =
          (subst (λ (v : Clocked). IsUndue (v.beats / l.rate) b.near_asks v.near) (sym is) near, subst (λ (v : Clocked). IsUndue (v.beats / l.rate) b.far_asks v.far) (sym is) far, tt)
      undue-one b near far (y ∷ ys) w0 before is = (before.0, before.1, undue-one b near far ys (beat l.rate w0 y) before.2 is)

      pub at-then : (b : Beat) → AsksData l b → IsClean b → IsUndue (w.beats / l.rate) b.near_asks w.near → IsUndue (w.beats / l.rate) b.far_asks w.far → At (xs ++ b ∷ [])
      at-then b data_alone is_clean undue undue_far =
          let now = w.beats / l.rate in let u = beat l.rate w b in
          let x = beat-so w (stands-then l fit xs w1 h.calm stands) (OldAt false xs) (OldAt true xs) h.near h.far b data_alone is_clean undue undue_far in
          let talk = data-talks l (b ∷ []) (All-cons (AsksData l) b [] data_alone (All-nil (AsksData l))) in let cleans = All-cons IsClean b [] is_clean (All-nil IsClean) in
          let clear = again l fit.call 0 (b ∷ []) talk cleans w (stands-then l fit xs w1 h.calm stands).since (inr refl) in
          record {
            calm = record {
              data_alone = All-append (AsksData l) xs (b ∷ []) h.calm.data_alone (All-cons (AsksData l) b [] data_alone (All-nil (AsksData l)));
              are_clean = All-append IsClean xs (b ∷ []) h.calm.are_clean (All-cons IsClean b [] is_clean (All-nil IsClean));
              undue = undue-one b undue undue_far xs w1 h.calm.undue refl;
            };
            pair = subst (Pair l fit) (after-so b) (all-pairs l fit (b ∷ []) talk w clear h.pair);
            near = subst (λ (x : Clocked). EndHeld false (OldAt false (xs ++ b ∷ [])) x.near) (after-so b) (beat-ends false (OldAt false xs) (OldAt false (xs ++ b ∷ [])) now u.near x.near (λ m due_so. grown b false (link_of false u.near).a m due_so));
            far = subst (λ (x : Clocked). EndHeld true (OldAt true (xs ++ b ∷ [])) x.far) (after-so b) (beat-ends true (OldAt true xs) (OldAt true (xs ++ b ∷ [])) now u.far x.far (λ m due_so. grown b true (link_of true u.far).a m due_so));
          }

    module _ (long : most + l.rate < l.lengths.t200 * l.rate) (long_far : most + l.rate < l.far_lengths.t200 * l.rate)
        (answered : (xs : List Beat) → Calm l fit xs w1 → l.lengths.t200 ≤ (after l.rate xs w1).beats / l.rate → IsUpAt (after l.rate xs w1)) where
      -- As long as none falls due, it goes on.
      pub at-all : (bs xs : List Beat) → All (AsksData l) bs → All IsClean bs → At xs → NoneFallsDue l.rate bs (after l.rate xs w1) → At (xs ++ bs)
      unfolding NoneFallsDue
      at-all [] xs data_alone is_clean h none = subst At (sym (append-nil xs)) h
      at-all (b ∷ bs) xs data_alone is_clean h (first, first_far, rest) =
          let d = All-head (AsksData l) b bs data_alone in let c = All-head IsClean b bs is_clean in
          subst At (append_assoc xs (b ∷ []) bs)
          (at-all bs (xs ++ b ∷ []) (All-tail (AsksData l) b bs data_alone) (All-tail IsClean b bs is_clean) (at-then xs h b d c first first_far) (subst (NoneFallsDue l.rate bs) (after-so xs h b) rest))

      -- So none does, if T203 falls due so late.
      module _ (r q : Rule) (limit : ℕ) (late : (now m : ℕ) → r.holds now (timers.T203 l.service l.tei) m → limit ≤ m * l.rate) (late_far : (now m : ℕ) → q.holds now (timers.T203 l.service l.tei) m → limit ≤ m * l.rate) where
        later : (r : Rule) → ((now m : ℕ) → r.holds now (timers.T203 l.service l.tei) m → limit ≤ m * l.rate) → (beats : ℕ) → beats < limit → (rs : List Request) (s : TimedEndpoint) → s.clock.now ≤ beats / l.rate → Keeps r s
            → (x : Expiry) → due (asked (beats / l.rate) rs s).clock ≡ Some x → x.timer ≡ timers.T203 l.service l.tei → beats / l.rate < x.moment
        later r late beats low rs s on kept x is same =
            let most = late (beats / l.rate) x.moment (subst (λ t. r.holds (beats / l.rate) t x.moment) same (first-keeps r (beats / l.rate) rs s on kept x is)) in
            early l.rate fit.some x.moment beats (omega (arith, low, most))

        pub none-falls-due : (bs xs : List Beat) → All (AsksData l) bs → All IsClean bs → At xs → AreKept l.rate fit.some r q (after l.rate xs w1)
            → (after l.rate xs w1).beats + length bs ≤ limit → NoneFallsDue l.rate bs (after l.rate xs w1)
        unfolding NoneFallsDue
        none-falls-due [] xs data_alone is_clean h kept low = tt
        none-falls-due (b ∷ bs) xs data_alone is_clean h kept low =
            let d = All-head (AsksData l) b bs data_alone in let c = All-head IsClean b bs is_clean in let so = answered xs h.calm in let u = after l.rate xs w1 in
            let first = near-undue xs h b d long long_far so (later r late u.beats (omega (arith, low)) b.near_asks u.near kept.on.near kept.near) in
            let first_far = far-undue xs h b d long long_far so (later q late_far u.beats (omega (arith, low)) b.far_asks u.far kept.on.far kept.far) in let led = after-so xs h b in
            let more : (beat l.rate u b).beats + length bs ≤ limit = omega (arith, low) in
            let rest = none-falls-due bs (xs ++ b ∷ []) (All-tail (AsksData l) b bs data_alone) (All-tail IsClean b bs is_clean) (at-then xs h b d c first first_far) (subst (AreKept l.rate fit.some r q) led (kept-beat l.rate fit.some r q b u kept)) (subst (λ (z : Clocked). z.beats + length bs ≤ limit) led more) in
            (first, first_far, subst (NoneFallsDue l.rate bs) (sym led) rest)

-- ---- beats of a call without noise: so many beats after SABME was asked for the near end is up

module _ (l : Line) (fit : Begins l) where
  -- Once SABME is put, received, the other end asked for a frame, and that received.
  up-in : (ks xs ys zs : List Beat) (w : Clocked) → Stands l fit w → Calm l fit ks w → let w0 = after l.rate ks w in Calm l fit xs w0 → let w1 = after l.rate xs w0 in Calm l fit ys w1 → let w2 = after l.rate ys w1 in Calm l fit zs w2
      → put_at w.near.at < put_at w0.near.at → longest l.near.n201 + l.way ≤ length xs → longest l.near.n201 ≤ length ys → longest l.near.n201 + l.way ≤ length zs → IsUpAt l fit (after l.rate zs w2)
  unfolding goes stands-then
  up-in ks xs ys zs w h zero one two three first b c e =
      let w0 = after l.rate ks w in let w1 = after l.rate xs w0 in let w2 = after l.rate ys w1 in let w3 = after l.rate zs w2 in
      let h0 = stands-then l fit ks w zero h in let h1 = stands-then l fit xs w0 one h0 in let h2 = stands-then l fit ys w1 two h1 in
      let x0 = led-calm l fit ks w h.now zero in let x1 = led-calm l fit xs w0 h0.now one in let x2 = led-calm l fit ys w1 h1.now two in let x3 = led-calm l fit zs w2 h2.now three in
      let f0 = wire_of w.near.at w.far.at h.now.there h.now.back in let n201 = l.near.n201 in let same1 = ap (wire.doing_all x1.es) x0.leads ∙ x1.leads in
      let same2 = ap (wire.doing_all x2.es) same1 ∙ x2.leads in let same3 = ap (wire.doing_all x3.es) same2 ∙ x3.leads in
      let come = come-calm l fit xs w0 one h0 b in let puts = puts-calm l fit ys w1 two h1 c in let last = come-calm l fit zs w2 three h2 e in
      let put = x0.near_put in let put_far = x2.far_put in let asked = puts.1 in
      let there = subst (λ (f : Wire). length f.near.way ≤ sum_all far_takes x1.es f) (sym x0.leads)
      (heard-all n201 l.way w0.near.at w0.far.at w1.far.at w0.near.at.way x0.there (sum_all far_takes x1.es (wire_of w0.near.at w0.far.at x0.there x0.back)) x0.joined.goes come.0 x1.far_heard) in
      let back = subst (λ (f : Wire). length f.far.way ≤ sum_all near_takes x3.es f) (sym same2)
      (heard-all n201 l.way w2.far.at w2.near.at w3.near.at w2.far.at.way x2.back (sum_all near_takes x3.es (wire_of w2.near.at w2.far.at x2.there x2.back)) x2.joined.comes last.1 x3.near_heard) in
      let up = both-up l fit
      x0.es x1.es x2.es x3.es (talks l fit w w0 h.now x0) (talks l fit w0 w1 h0.now x1) (talks l fit w1 w2 h1.now x2) (talks l fit w2 w3 h2.now x3) f0 h.now.weight h.now.on_wire
      (omega (arith, put, first)) there (subst (λ f. 1 ≤ sum_all far_sends x2.es f) (sym same1) (omega (arith, put_far, asked))) back in
      subst (λ (f : Wire). (own_link l.service l.tei f.near).state ≡ Established) same3 (on.by-up l fit
      (wire.doing_all x3.es (wire.doing_all x2.es (wire.doing_all x1.es (wire.doing_all x0.es f0)))) up)

  -- So many beats later the near end is up.
  pub up-by : (w : Clocked) (h : Stands l fit w) → length (left_of (port_of w.near.at)) ≤ 7 → (bs : List Beat) → Calm l fit bs w → 1 + (3 * longest l.near.n201 + 2 * l.way) ≤ length bs → IsUpAt l fit (after l.rate bs w)
  up-by w h few bs calm enough =
      let n = longest l.near.n201 in let k = split 1 bs (omega (arith, enough)) in let m0 = ap length k.2 ∙ length-append k.0 k.1 in let l0 = k.3 in
      let x = split (n + l.way) k.1 (omega (arith, enough, m0, l0)) in let m1 = ap length x.2 ∙ length-append x.0 x.1 in let l1 = x.3 in
      let y = split n x.1 (omega (arith, enough, m0, l0, m1, l1)) in let m2 = ap length y.2 ∙ length-append y.0 y.1 in let l2 = y.3 in
      let is = k.2 ∙ ap (λ ys. k.0 ++ ys) (x.2 ∙ ap (λ ys. x.0 ++ ys) y.2) in let w0 = after l.rate k.0 w in let w1 = after l.rate x.0 w0 in
      let c0 = calm-parts l fit k.0 (x.0 ++ (y.0 ++ y.1)) w (subst (λ bs. Calm l fit bs w) is calm) in let c1 = calm-parts l fit x.0 (y.0 ++ y.1) w0 c0.1 in
      let c2 = calm-parts l fit y.0 y.1 w1 c1.1 in let put = near-puts l fit.call k.0 (data-talks l k.0 c0.0.data_alone) w h.since.both (omega (arith, few, l0)) in
      subst (λ bs. IsUpAt l fit (after l.rate bs w)) (sym is)
      (subst (IsUpAt l fit) (sym (fold-append (beat l.rate) w k.0 (x.0 ++ (y.0 ++ y.1)) ∙ fold-append (beat l.rate) w0 x.0 (y.0 ++ y.1) ∙ fold-append (beat l.rate) w1 y.0 y.1))
      (up-in k.0 x.0 y.0 y.1 w h c0.0 c1.0 c2.0 c2.1 put (omega (arith, l1)) (omega (arith, l2)) (omega (arith, enough, m0, l0, m1, l1, m2, l2))))
