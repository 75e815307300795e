-- What holds of each timer that is started holds of each that runs. So none falls due in the first milliseconds.
use Rattle.laws_time.proofs.Vocabulary.{AllByRecursion, Assign, Beat, Clocked, Expiry, IsUndue, Lengths, Line, List, NoneFallsDue, Option, Request, Some, TimedEndpoint, [], after, answered, arith, asked, asks, beat, begins, comes_to, div-lt_iff_lt-mul, due, duration, first, first_due, fold, happens, hears, leb-true, length, octet_orders as orders_in, refl, by-option}
use Rattle.laws_time.proofs.Vocabulary.{subst, sym, unwrap_or, without_first, ℕ, ◌*◌, ◌+◌, ◌/◌, ◌<◌, ◌∙◌, ◌∷◌, ◌≡◌, ◌≤◌}
use Rattle.lapd_clock.specs.Timer.{Timer}
use Rattle.model_card.specs.ports.Port as port
use Rattle.laws_time.proofs.OfCircuit.Words.{all-obeyed, at_time, comes-keep, div-stays, first-of, fold-keeps, lengths-stay, now-stays, rest-of, weaker}

-- What holds of each timer that runs, by the moment now and that at which it falls due: of each that is started from a moment on, and then as
-- time goes on.
pub record Rule : Type 1 where
  pub lengths : Lengths
  pub from : ℕ
  pub holds : ℕ → Timer → ℕ → Type 0
  pub starts : (now : ℕ) (timer : Timer) → from ≤ now → holds now timer (now + duration lengths timer)
  pub stays : (now later : ℕ) (timer : Timer) (m : ℕ) → now ≤ later → holds now timer m → holds later timer m

module _ (r : Rule) where
  abbrev pub HoldsAt : ℕ → Expiry → Type 0
  HoldsAt now x = r.holds now x.timer x.moment

  pub record Keeps (s : TimedEndpoint) : Type 0 where
    pub running : AllByRecursion (HoldsAt s.clock.now) s.clock.running
    pub lengths : s.clock.lengths ≡ r.lengths
    pub since : r.from ≤ s.clock.now

  pub keeps-event : (e : port.Event) (s : TimedEndpoint) → Keeps s → Keeps (happens e s)
  keeps-event e s h =
      let orders = orders_in (answered e s.at) in let now = s.clock.now in let same = sym (now-stays s.at.line s.clock orders) in
      record {
        running = subst (λ n. AllByRecursion (HoldsAt n) (happens e s).clock.running) same
            (all-obeyed (HoldsAt now) s.at.line s.clock orders (λ timer. subst (λ (ls : Lengths). r.holds now timer (now + duration ls timer)) (sym h.lengths) (r.starts now timer h.since)) h.running);
        lengths = lengths-stay s.at.line s.clock orders ∙ h.lengths;
        since = subst (λ n. r.from ≤ n) same h.since;
      }

  keeps-asks : (rs : List Request) (s : TimedEndpoint) → Keeps s → Keeps (fold asks s rs)
  keeps-asks rs = fold-keeps asks (λ r. Unit {0}) Keeps (λ q u is. keeps-event (port.request q) u) rs (λ k d lt. tt)

  keeps-time : (moment : ℕ) (s : TimedEndpoint) → s.clock.now ≤ moment → Keeps s → Keeps (at_time moment s)
  keeps-time moment s later h = grind (arith, weaker)

  keeps-comes : (moment : ℕ) (rs : List Request) (s : TimedEndpoint) → s.clock.now ≤ moment → Keeps s → Keeps (comes_to moment rs s)
  keeps-comes moment rs s later h =
      comes-keep Keeps (λ r. Unit {0}) (λ q u is. keeps-event (port.request q) u)
      (λ x u is h. keeps-event (port.expiry x.timer) (record u { clock = without_first u.clock }) (record { running = rest-of (HoldsAt u.clock.now) u.clock.running h.running; lengths = h.lengths; since = h.since }))
      moment rs (λ k d lt. tt) s (keeps-time moment s later h)

  keeps-hears : (noise : Option ℕ) (way : List ℕ) (s : TimedEndpoint) → Keeps s → Keeps (hears noise way s)
  keeps-hears noise h s h' = grind (arith, keeps-event, unwrap_or)

-- The moment after a beat.
now-asked : (rs : List Request) (s : TimedEndpoint) → (fold asks s rs).clock.now ≡ s.clock.now
now-asked rs s = fold-keeps asks (λ r. Unit {0}) (λ u. u.clock.now ≡ s.clock.now) (λ r u is same. now-stays u.at.line u.clock (orders_in (answered (port.request r) u.at)) ∙ same) rs (λ k d lt. tt) s refl

now-comes : (moment : ℕ) (rs : List Request) (s : TimedEndpoint) → (comes_to moment rs s).clock.now ≡ moment
now-comes moment rs s =
    comes-keep (λ u. u.clock.now ≡ moment) (λ r. Unit {0}) (λ r u is same. now-stays u.at.line u.clock (orders_in (answered (port.request r) u.at)) ∙ same)
    (λ x u is same. now-stays u.at.line (without_first u.clock) (orders_in (answered (port.expiry x.timer) u.at)) ∙ same) moment rs (λ k d lt. tt) s refl

now-hears : (noise : Option ℕ) (way : List ℕ) (s : TimedEndpoint) → (hears noise way s).clock.now ≡ s.clock.now
now-hears noise way s = grind (arith, now-stays)

now-pulled : (s : TimedEndpoint) → (happens port.pull s).clock.now ≡ s.clock.now
now-pulled s = now-stays s.at.line s.clock (orders_in (answered port.pull s.at))

-- It is that of the beat.
pub record AreOnTime (rate : ℕ) (w : Clocked) : Type 0 where
  pub near : w.near.clock.now ≤ w.beats / rate
  pub far : w.far.clock.now ≤ w.beats / rate

module _ (rate : ℕ) (some : 1 ≤ rate) where
  on-time : (b : Beat) (w : Clocked) → AreOnTime rate (beat rate w b)
  on-time b w = grind (arith, happens, comes_to, now-hears, now-pulled, now-comes, div-stays)

  module _ (r q : Rule) where
    pub record AreKept (w : Clocked) : Type 0 where
      pub on : AreOnTime rate w
      pub near : Keeps r w.near
      pub far : Keeps q w.far

    pub kept-beat : (b : Beat) (w : Clocked) → AreKept w → AreKept (beat rate w b)
    kept-beat b w h =
        let moment = w.beats / rate in let n = happens port.pull (comes_to moment b.near_asks w.near) in let f = happens port.pull (comes_to moment b.far_asks w.far) in
        let x = keeps-hears r b.near_noise f.at.way n (keeps-event r port.pull (comes_to moment b.near_asks w.near) (keeps-comes r moment b.near_asks w.near h.on.near h.near)) in
        let y = keeps-hears q b.far_noise n.at.way f (keeps-event q port.pull (comes_to moment b.far_asks w.far) (keeps-comes q moment b.far_asks w.far h.on.far h.far)) in
        record { on = on-time b w; near = record { running = x.running; lengths = x.lengths; since = x.since }; far = record { running = y.running; lengths = y.lengths; since = y.since } }

    pub all-kept : (bs : List Beat) (w : Clocked) → AreKept w → AreKept (after rate bs w)
    all-kept bs w h = fold-keeps (beat rate) (λ b. Unit {0}) AreKept (λ b w is. kept-beat b w) bs (λ k d lt. tt) w h

-- So it holds of the first that is due.
pub first-keeps : (r : Rule) (moment : ℕ) (rs : List Request) (s : TimedEndpoint) → s.clock.now ≤ moment → Keeps r s → (x : Expiry) → due (asked moment rs s).clock ≡ Some x → r.holds moment x.timer x.moment
first-keeps r moment rs s later h x is =
    let a = fold asks (at_time moment s) rs in let k = keeps-asks r rs (at_time moment s) (keeps-time r moment s later h) in
    subst (λ n. r.holds n x.timer x.moment) (now-asked rs (at_time moment s)) (first-of (HoldsAt r a.clock.now) a.clock.running a.clock.now x k.running is)

due-soon : (xs : List Expiry) (now : ℕ) (x : Expiry) → first_due xs now ≡ Some x → x.moment ≤ now
due-soon xs now x h1z = grind (arith, leb-true)

pub early : (rate : ℕ) → 1 ≤ rate → (t n : ℕ) → n < t * rate → n / rate < t
early rate some t n low = grind (arith, div-lt_iff_lt-mul)

-- None falls due before a moment, if each timer that is started runs until then at least.
abbrev Until : ℕ → Lengths → Type 0
Until t ls = (timer : Timer) → t ≤ duration ls timer

abbrev until : (t : ℕ) (ls : Lengths) → Until t ls → Rule
until t ls long = record { lengths = ls; from = 0; holds = λ now timer m. t ≤ m; starts = λ now timer since. let some = long timer in omega (arith, some); stays = λ now later timer m more h. h }

module _ (rate : ℕ) (some : 1 ≤ rate) (t : ℕ) where
  undue : (ls : Lengths) (long : Until t ls) (moment : ℕ) (rs : List Request) (s : TimedEndpoint) → moment < t → s.clock.now ≤ moment → Keeps (until t ls long) s → IsUndue moment rs s
  undue ls long moment rs s low later h = by-option (due (asked moment rs s).clock) (λ is. is) (λ x is.
      let high : t ≤ x.moment = first-keeps (until t ls long) moment rs s later h x is in let soon = due-soon (asked moment rs s).clock.running (asked moment rs s).clock.now x is in
      let now = now-asked rs (at_time moment s) in absurd (omega (arith, low, high, soon, now)))

  module _ (ls ls_far : Lengths) (long : Until t ls) (long_far : Until t ls_far) where
    all-undue : (bs : List Beat) (w : Clocked) → AreKept rate some (until t ls long) (until t ls_far long_far) w → w.beats + length bs ≤ t * rate → NoneFallsDue rate bs w
    unfolding NoneFallsDue
    all-undue [] w h few = tt
    all-undue (b ∷ bs) w h few =
        let before : w.beats / rate < t = early rate some t w.beats (omega (arith, few)) in (
          undue ls long (w.beats / rate) b.near_asks w.near before h.on.near h.near,
          undue ls_far long_far (w.beats / rate) b.far_asks w.far before h.on.far h.far,
          all-undue bs (beat rate w b) (kept-beat rate some (until t ls long) (until t ls_far long_far) b w h) (omega (arith, few)),
        )

-- ---- as the circuit begins

begins-on-time : (l : Line) → AreOnTime l.rate (begins l)
begins-on-time l = grind (arith, now-stays, first, orders_in, answered)

-- What holds of each timer that is started holds from the start on.
pub begins-kept : (l : Line) (some : 1 ≤ l.rate) (r q : Rule) → r.lengths ≡ l.lengths → q.lengths ≡ l.far_lengths → r.from ≡ 0 → q.from ≡ 0 → AreKept l.rate some r q (begins l)
begins-kept l some r q here there none none_far = record {
  on = begins-on-time l;
  near = keeps-event r (port.request (Assign l.tei)) (first l.near l.near_line l.lengths l.way) (record { running = tt; lengths = sym here; since = omega (arith, none) });
  far = keeps-event q (port.request (Assign l.tei)) (first l.far l.far_line l.far_lengths l.way) (record { running = tt; lengths = sym there; since = omega (arith, none_far) });
}

-- In the first milliseconds none falls due.
pub none-at-first : (l : Line) (bs : List Beat) (t : ℕ) → 1 ≤ l.rate → Until t l.lengths → Until t l.far_lengths → length bs ≤ t * l.rate → NoneFallsDue l.rate bs (begins l)
none-at-first l bs t some near far few =
    all-undue l.rate some t l.lengths l.far_lengths near far bs (begins l) (begins-kept l some (until t l.lengths near) (until t l.far_lengths far) refl refl refl refl) (omega (arith, few))
