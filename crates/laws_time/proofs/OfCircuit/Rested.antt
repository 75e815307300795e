-- At an end of a link at rest T203 runs, and T200 does not.
use Rattle.laws_time.proofs.Vocabulary.{All, All-append, All-head, AllByRecursion, AsksData, Beat, Begins, Clocked, Config, Established, Expiry, FallsDueFirst, FrameEndpoint, HasItsTimer, IsAtRest, IsCalmSince, IsClean, IsDataOf, IsInRange, IsTalk, IsTimedCard, Lengths, Line as Line_rest, Link, List, MessagesComeInTime, None, NoneFallsDue, OctetCard, Option, Ran, Service, Some}
use Rattle.laws_time.proofs.Vocabulary.{T200, T203, T203FallsDueFirstSince, Talk, TimedEndpoint, TimedOctetCard, Timer, Wire, [], after, all-left, all-right, ap, arith, as_frames, asked, begins, cases_lt, cond, config, due, duration, eq-eqb, false, fresh_link as fresh, held-is, inl, inr, is-established, is-sound, is_held, is_running, is_some, kept-up, length}
use Rattle.laws_time.proofs.Vocabulary.{length-append, length-replicate, line_at, link_in, link_number, link_of, link_runs as runs, longest, meant_all, meant_at_lines, moment_of, most_turns, mul-le, octet_timers_run_the_same, option_map_or, or_parts, owed, own_link, place_in, plain, ports_fresh as fresh_card, recursion_from_All, refined_card, refl, replicate, runs_at, subst, suc, sym}
use Rattle.laws_time.proofs.Vocabulary.{timely-now, true, ℕ, ◌*◌, ◌++◌, ◌+◌, ◌/◌, ◌<◌, ◌∙◌, ◌∷◌, ◌≡◌, ◌≤◌, ◌⊎◌}
use Rattle.lapd_frame.specs.declared.timers.Timer.TheVariants as timers
use Rattle.laws_time.proofs.OfCircuit.AckedOn as on
use Rattle.model_line.specs.Line.{Line}
use Rattle.model_timed.specs.RunTheSame.{RunAs, as_they_are}
use Rattle.laws_line.specs.card.Timers.{AllHaveTheirTimers}
use Rattle.laws_wire.specs.Facing.{Speaks}
use Rattle.laws_time.proofs.Falls.{moment-keeps}
use Rattle.laws_time.proofs.Vocabulary.{recursion_from_All}
use Rattle.laws_time.proofs.OfCircuit.Words.{EndOk, Pair, all-pairs, ends-are-timed-cards, pair-begins, weaker}
use Rattle.laws_time.proofs.OfCircuit.InBeatsDue.{Rule, AreKept, all-kept, begins-kept}
use Rattle.laws_time.proofs.OfCircuit.AckedBeats.{Calm, Stands, led-calm, talks}
use Rattle.laws_time.proofs.OfCircuit.AgainLaw.{Since, clear-begun}
use Rattle.laws_time.proofs.OfCircuit.InBeatsFrames.{since-begun}
use Rattle.laws_time.proofs.OfCircuit.Led.{plain-asks, plain-clean}
use Rattle.laws_time.proofs.OfCircuit.AckedCall.{Log, relogged}
use Rattle.laws_time.proofs.OfCircuit.AckedRun.{IsUpAt, OldAt, At, none-calm, near-first, far-first, at-all, none-falls-due}
use Rattle.laws_time.proofs.OfCircuit.AgainRan.{beats-then}
use Rattle.laws_time.proofs.OfCircuit.InBeats.{joined, messages-take-beats}
use Rattle.laws_time.proofs.OfCircuit.AckedEnds.{Held}

none-some : (o : Option ℕ) → is_some o ≡ false → o ≡ None
none-some o h1z = grind arith

some-some : (o : Option ℕ) → is_some o ≡ true → (m : ℕ) × (o ≡ Some m)
some-some o h1z = grind arith

module _ (c : Config) (ranged : IsInRange c) (service : Service) (tei : ℕ) (ls : Lengths) (a : TimedEndpoint) (ran : Ran c a.at) (timed : IsTimedCard c ls a) (on : place_in (line_at a.at.line a.at.card.card) tei ≡ Some 0) where
  abbrev line : Line
  line = line_at a.at.line a.at.card.card

  abbrev its : Link
  its = link_of service tei (line_at a.at.line a.at.card.card)

  within : a.at.line < a.at.card.card.config.lines
  within = subst (λ (k : Config). a.at.line < k.lines) (sym (config c ranged a.at ran)) ran.within

  pub link-is : link_in (line_at a.at.line a.at.card.card) service 0 ≡ link_of service tei (line_at a.at.line a.at.card.card)
  link-is = sym (ap (λ o. option_map_or (link_in line service) o fresh) on)

  -- The link runs the timer that it needs, and so does the clock.
  pub has-timer : HasItsTimer (link_of service tei (line_at a.at.line a.at.card.card))
  has-timer =
      let all = meant_at_lines (fresh_card c) ran.events ran.at_lines in
      let timely = subst AllHaveTheirTimers (sym (ap (λ (m : OctetCard). m.card) ran.is ∙ refined_card (fresh_card c) ran.events)) (timely-now c (meant_all (fresh_card c) ran.events) a.at.line ranged all ran.within service tei) in
      subst HasItsTimer link-is ((timely.lines a.at.line within).links (link_number 0 service))

  run-as : (timer : Timer) → is_held a.at.line timer a.clock.running ≡ is_running timer (line_at a.at.line a.at.card.card)
  run-as timer = let all = subst (λ (t : TimedOctetCard). RunAs as_they_are t.card.card t.clock) timed.2 (octet_timers_run_the_same c ls 0 timed.0 ranged timed.1) in all a.at.line timer within

  pub runs-t200 : is_some (moment_of a.at.line (timers.T200 service tei) a.clock.running) ≡ runs T200 (link_of service tei (line_at a.at.line a.at.card.card)).running
  runs-t200 =
      sym (held-is a.at.line (timers.T200 service tei) a.clock.running) ∙ run-as (timers.T200 service tei) ∙ ap (λ o. runs_at service T200 o line) on ∙ ap (λ (x : Link). runs T200 x.running) link-is

  runs-t203 : is_some (moment_of a.at.line (timers.T203 service tei) a.clock.running) ≡ runs T203 (link_of service tei (line_at a.at.line a.at.card.card)).running
  runs-t203 =
      sym (held-is a.at.line (timers.T203 service tei) a.clock.running) ∙ run-as (timers.T203 service tei) ∙ ap (λ o. runs_at service T203 o line) on ∙ ap (λ (x : Link). runs T203 x.running) link-is

  module _ (up : its.state ≡ Established) (free : its.peer_busy ≡ false) (acked : its.s ≡ its.a) where
    needs : its.running ≡ Some T203
    needs = grind (arith, eq-eqb, has-timer)

    pub t200-none : moment_of a.at.line (timers.T200 service tei) a.clock.running ≡ None
    t200-none = none-some (moment_of a.at.line (timers.T200 service tei) a.clock.running) (runs-t200 ∙ ap (runs T200) needs)

    pub t203-some : (m : ℕ) × (moment_of a.at.line (timers.T203 service tei) a.clock.running ≡ Some m)
    t203-some = some-some (moment_of a.at.line (timers.T203 service tei) a.clock.running) (runs-t203 ∙ ap (runs T203) needs)

-- Each timer falls due within its time.
abbrev pub recent : Lengths → Rule
recent ls = record { lengths = ls; from = 0; holds = λ now timer m. m ≤ now + duration ls timer; starts = λ now timer since. omega arith; stays = λ now later timer m more h. omega (arith, more, h) }

-- T203 falls due so late, of whichever link.
abbrev pub Late : ℕ → ℕ → Timer → ℕ → Type 0
Late limit rate (timers.T200 of by) m = Unit {0}
Late limit rate (timers.T203 of by) m = limit ≤ m * rate
Late limit rate timers.T201 m = Unit {0}
Late limit rate timers.T202 m = Unit {0}

as-late : (limit rate : ℕ) (timer : Timer) (m : ℕ) → limit ≤ m * rate → Late limit rate timer m
as-late limit rate h m late = grind arith

pub all-late : (limit rate : ℕ) (xs : List Expiry) → All (λ (x : Expiry). limit ≤ x.moment * rate) xs → AllByRecursion (λ x. Late limit rate x.timer x.moment) xs
all-late limit rate xs all =
    weaker (λ x. limit ≤ x.moment * rate) (λ x. Late limit rate x.timer x.moment) (λ x. as-late limit rate x.timer x.moment) xs (recursion_from_All (λ (x : Expiry). limit ≤ x.moment * rate) xs all)

pub late-starts : (limit rate from now : ℕ) (ls : Lengths) (timer : Timer) → limit ≤ (from + ls.t203) * rate → from ≤ now → Late limit rate timer (now + duration ls timer)
late-starts limit rate from now ls (timers.T200 of by) enough since = tt
late-starts limit rate from now ls (timers.T203 of by) enough since = let more = mul-le (from + ls.t203) rate (now + ls.t203) rate (omega (arith, since)) (omega arith) in omega (arith, enough, more)
late-starts limit rate from now ls timers.T201 enough since = tt
late-starts limit rate from now ls timers.T202 enough since = tt

abbrev pub lasts : (limit rate from : ℕ) (ls : Lengths) → limit ≤ (from + ls.t203) * rate → Rule
lasts limit rate from ls enough = record { lengths = ls; from = from; holds = λ now timer m. Late limit rate timer m; starts = λ now timer since. late-starts limit rate from now ls timer enough since; stays = λ now later timer m more h. h }

-- If T203 that runs falls due so late, so does each that is started later.
pub enough-since : (limit rate number now : ℕ) (its : Timer) (ls : Lengths) (xs : List Expiry) (m : ℕ) → moment_of number its xs ≡ Some m → duration ls its ≡ ls.t203 → AllByRecursion (λ x. x.moment ≤ now + duration ls x.timer) xs
    → AllByRecursion (λ x. limit ≤ x.moment * rate) xs → limit ≤ (now + ls.t203) * rate
enough-since limit rate number now its ls xs m is its_length soon late =
    let high = moment-keeps (λ timer m. m ≤ now + duration ls timer) number its xs m soon is in let low = moment-keeps (λ timer m. limit ≤ m * rate) number its xs m late is in
    let more = mul-le m rate (now + ls.t203) rate (omega (arith, high, its_length)) (omega arith) in omega (arith, low, more)

-- ---- from a link at rest T203 is the first timer that falls due, if T200 runs long enough. So all is told in so many beats

-- An end of a link at rest.
module _ (service : Service) (tei : ℕ) (a : TimedEndpoint) (other : FrameEndpoint) (speaks : Speaks service tei (as_frames a) other) (none : most_turns service tei other ≡ 0) where
  acked : (own_link service tei (as_frames a)).s ≡ (own_link service tei (as_frames a)).a
  acked =
      let l = own_link service tei (as_frames a) in
      let low = (is-sound service tei (as_frames a) other speaks).ordered in go low (cases_lt l.a l.s)
    where
      owes-some : (x : Link) → x.pending ≡ true → owed x ≡ 1
      owes-some x is = ap (λ b. cond {A = ℕ} b 1 0) is

      go : (own_link service tei (as_frames a)).a ≤ (own_link service tei (as_frames a)).s → ((own_link service tei (as_frames a)).a < (own_link service tei (as_frames a)).s) ⊎ ((own_link service tei (as_frames a)).s ≤ (own_link service tei (as_frames a)).a)
          → (own_link service tei (as_frames a)).s ≡ (own_link service tei (as_frames a)).a
      go low (inl less) = let some = owes-some (own_link service tei other) (speaks.owes less) in absurd (omega (arith, none, some))
      go low (inr few) = omega (arith, low, few)

  free : (own_link service tei (as_frames a)).peer_busy ≡ false
  free = (or_parts (own_link service tei (as_frames a)).own_busy (own_link service tei (as_frames a)).peer_busy speaks.free).1

  module _ (c : Config) (ranged : IsInRange c) (ls : Lengths) (rate S M : ℕ) (ok : EndOk c service tei 0 ranged ls rate S M a) (timed : IsTimedCard c ls a) where
    rests : moment_of a.at.line (timers.T200 service tei) a.clock.running ≡ None
    rests = t200-none c ranged service tei ls a ok.but.ends.ran timed ok.but.ends.stands.speaks.placed (is-established service tei (as_frames a) other speaks) free acked

    goes : (m : ℕ) × (moment_of a.at.line (timers.T203 service tei) a.clock.running ≡ Some m)
    goes = t203-some c ranged service tei ls a ok.but.ends.ran timed ok.but.ends.stands.speaks.placed (is-established service tei (as_frames a) other speaks) free acked

    held : (Old : ℕ → ℕ → Type 0) → Held service tei c ranged ls Old a
    held Old = record { ran = ok.but.ends.ran; lengths = ok.but.lengths_are; claim = λ m at_m. absurd (cc (sym rests ∙ at_m)) }

module _ (l : Line_rest) (fit : Begins l) (b : Beat) (before : List Beat) (talk : All (IsTalk l) (b ∷ before)) (clean_before : All IsClean (b ∷ before)) (rest : IsAtRest l (after l.rate (b ∷ before) (begins l))) where
  abbrev r : Clocked
  r = after l.rate (b ∷ before) (begins l)

  p : Pair l fit (after l.rate (b ∷ before) (begins l))
  p = all-pairs l fit (b ∷ before) talk (begins l) (clear-begun l fit.call (b ∷ before) talk clean_before) (pair-begins l fit)

  since : Since l fit.call 0 (after l.rate (b ∷ before) (begins l))
  since = since-begun l fit.call (b ∷ before) talk clean_before

  abbrev g : Wire
  g = record { near = as_frames r.near; far = as_frames r.far }

  -- ---- both ends are up

  abbrev UpNow : Wire → Type 0
  UpNow w = on.UpNow l fit w

  abbrev x : Log
  x = record { granted = (own_link l.service l.tei (as_frames r.near)).contents ++ []; told = [] }

  abbrev y : Log
  y = record { granted = (own_link l.service l.tei (as_frames r.far)).contents ++ []; told = [] }

  up : UpNow g
  up =
      let z = kept-up l.service l.tei g rest.face in let here = config l.near fit.call.near.0 r.near.at p.near_ok.but.ends.ran in
      let there = config l.far fit.call.far.0 r.far.at p.far_ok.but.ends.ran in
      let w = relogged x y g in (
        z.0,
        z.1,
        z.2,
        z.3,
        (x, y, z.4, z.5, subst (λ c. Talk l.service l.tei c l.far z.0 z.1 z.2 z.3 w z.4 z.5) here (subst (λ d. Talk l.service l.tei r.near.at.card.card.config d z.0 z.1 z.2 z.3 w z.4 z.5) there z.6)),
      )

  stands : Stands l fit r
  stands = record { since = since; now = record { there = []; back = []; joined = joined l fit r since rest; weight = 0; on_wire = inr up } }

  answered : (xs : List Beat) → Calm l fit xs r → l.lengths.t200 ≤ (after l.rate xs r).beats / l.rate → IsUpAt l fit (after l.rate xs r)
  unfolding stands
  answered xs calm late =
      let x = led-calm l fit xs r stands.now calm in
      subst (λ (f : Wire). (own_link l.service l.tei f.near).state ≡ Established) x.leads (on.up-stays l fit
      x.es (talks l fit r (after l.rate xs r) stands.now x) g 0 (inr up) (on.by-up l fit g up))

  -- ---- T200 of neither end runs, and T203 does

  timed : IsTimedCard l.near l.lengths r.near × IsTimedCard l.far l.far_lengths r.far
  timed = ends-are-timed-cards l.near l.far l.near_line l.far_line l.tei l.way l.rate l.lengths l.far_lengths (b ∷ before) fit.call.near.1 fit.call.far.1 fit.lengths.0 fit.lengths.1 fit.some

  are : r.beats ≡ suc (length before)
  are = let all = beats-then l.rate (b ∷ before) (begins l) in omega (arith, all)

  soon : AreKept l.rate fit.some (recent l.lengths) (recent l.far_lengths) r
  soon = all-kept l.rate fit.some (recent l.lengths) (recent l.far_lengths) (b ∷ before) (begins l) (begins-kept l fit.some (recent l.lengths) (recent l.far_lengths) refl refl refl refl)

  at-rest : At l fit r (length before) are stands []
  at-rest = record {
    calm = none-calm l fit r;
    pair = p;
    near = held l.service l.tei r.near (as_frames r.far) rest.face.0 rest.far.sent l.near fit.call.near.0 l.lengths l.rate p.S p.M p.near_ok timed.0 (OldAt l fit r (length before) are stands false []);
    far = held l.service l.tei r.far (as_frames r.near) rest.face.1 rest.near.sent l.far fit.call.far.0 l.far_lengths l.rate p.S2 p.M2 p.far_ok timed.1 (OldAt l fit r (length before) are stands true []);
  }

  -- ---- so T203 is the first

  module _ (long : 3 * longest l.near.n201 + 2 * l.way + l.rate < l.lengths.t200 * l.rate) (long_far : 3 * longest l.near.n201 + 2 * l.way + l.rate < l.far_lengths.t200 * l.rate) where
    module _ (bs : List Beat) (all : All (AsksData l) bs) (clean_all : All IsClean bs) where
      abbrev IsLate : Expiry → Type 0
      IsLate e = r.beats + length bs ≤ e.moment * l.rate

      none-due : All IsLate r.near.clock.running → All IsLate r.far.clock.running → NoneFallsDue l.rate bs r
      none-due late late_far =
          let limit = r.beats + length bs in let n = goes l.service l.tei r.near (as_frames r.far) rest.face.0 rest.far.sent l.near fit.call.near.0 l.lengths l.rate p.S p.M p.near_ok timed.0 in
          let f = goes l.service l.tei r.far (as_frames r.near) rest.face.1 rest.near.sent l.far fit.call.far.0 l.far_lengths l.rate p.S2 p.M2 p.far_ok timed.1 in
          let enough = enough-since limit l.rate r.near.at.line r.near.clock.now (timers.T203 l.service l.tei) l.lengths r.near.clock.running n.0 n.1 refl soon.near.running
          (recursion_from_All IsLate r.near.clock.running late) in
          let enough_far = enough-since limit l.rate r.far.at.line r.far.clock.now (timers.T203 l.service l.tei) l.far_lengths r.far.clock.running f.0 f.1 refl soon.far.running
          (recursion_from_All IsLate r.far.clock.running late_far) in
          let x = lasts limit l.rate r.near.clock.now l.lengths enough in let y = lasts limit l.rate r.far.clock.now l.far_lengths enough_far in
          none-falls-due l fit r (length before) are stands long long_far answered x y limit (λ now m late. late) (λ now m late. late) bs [] all clean_all at-rest
          (record {
            on = soon.on;
            near = record { running = all-late limit l.rate r.near.clock.running late; lengths = soon.near.lengths; since = omega arith };
            far = record { running = all-late limit l.rate r.far.clock.running late_far; lengths = soon.far.lengths; since = omega arith };
          }) (omega arith)

      first-is : (c : Beat) → AsksData l c → IsClean c → (e : Expiry) → FallsDueFirst l bs r c e → e.timer ≡ timers.T203 l.service l.tei
      first-is c data_c clean_c e first = go first.now
        where
          at-end : At l fit r (length before) are stands bs
          at-end = at-all l fit r (length before) are stands long long_far answered bs [] all clean_all at-rest first.before

          go : (due (asked ((after l.rate bs r).beats / l.rate) c.near_asks (after l.rate bs r).near).clock ≡ Some e) ⊎ (due (asked ((after l.rate bs r).beats / l.rate) c.far_asks (after l.rate bs r).far).clock ≡ Some e) → e.timer ≡ timers.T203 l.service l.tei
          go (inl near) = near-first l fit r (length before) are stands bs at-end c data_c long long_far (answered bs at-end.calm) e near
          go (inr far) = far-first l fit r (length before) are stands bs at-end c data_c long long_far (answered bs at-end.calm) e far

pub messages-come-in-time : MessagesComeInTime
messages-come-in-time l b before bs n on = (none, messages-take-beats l b before bs n h.calm.begins h.talk h.calm.data_alone h.clean_before h.calm.are_clean h.rest none)
  where
    h : IsCalmSince l b before bs
    h = on.calm

    r : Clocked
    r = after l.rate (b ∷ before) (begins l)

    long : length bs + n ≡ length (bs ++ replicate n plain)
    long = sym (length-append bs (replicate n plain) ∙ ap (λ k. length bs + k) (length-replicate {A = Beat} n plain))

    none : NoneFallsDue l.rate (bs ++ replicate n plain) (after l.rate (b ∷ before) (begins l))
    none =
        none-due l h.calm.begins b before h.talk h.clean_before h.rest h.calm.t200.0 h.calm.t200.1 (bs ++ replicate n plain)
        (All-append (AsksData l) bs (replicate n plain) h.calm.data_alone (plain-asks (IsDataOf l) n)) (All-append IsClean bs (replicate n plain) h.calm.are_clean (plain-clean n))
        (subst (λ k. All (λ (x : Expiry). r.beats + k ≤ x.moment * l.rate) r.near.clock.running) long on.t203.0) (subst (λ k. All (λ (x : Expiry). r.beats + k ≤ x.moment * l.rate) r.far.clock.running) long on.t203.1)

pub t203-falls-due-first-since : T203FallsDueFirstSince
t203-falls-due-first-since l b c before bs e h first =
    let last = All-head (AsksData l) c [] (all-right (AsksData l) bs (c ∷ []) h.calm.data_alone) in let last_clean = All-head IsClean c [] (all-right IsClean bs (c ∷ []) h.calm.are_clean) in
    first-is l h.calm.begins b before h.talk h.clean_before h.rest h.calm.t200.0 h.calm.t200.1 bs (all-left (AsksData l) bs (c ∷ []) h.calm.data_alone) (all-left IsClean bs (c ∷ []) h.calm.are_clean) c last last_clean e first
