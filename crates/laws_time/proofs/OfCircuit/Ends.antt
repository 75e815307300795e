-- An end of the clocked circuit: what each request and each expiry keeps is kept as it comes to its moment; and it is a timed card that is prompt.
use Rattle.laws_time.proofs.Vocabulary.{All, All-from_recursion, All-head, All-tail, AllByRecursion, AreInRange, ArePrompt, Assign, Beat, Clocked, Config, EndsAreTimedCards, Expiry, IsInOrder, IsInTime, IsNoOctetsExpiry as IsNoExpiry, IsPrompt, IsTimedCard, Lengths, List, None, OctetEvent as Event, Option, Request, Some, Step, TimedEndpoint, TimedOctetCard, [], after, after_all}
use Rattle.laws_time.proofs.Vocabulary.{answered, ap, arith, asks, at_moment, beat, card_of, comes_to, div-le_self, drop, due, endpoint, fall_due, falls, falls_due, first, first_due, fold, fresh, gone, happens, hears, is_before, length, obeyed, octet_at as at, octet_orders as orders_in, octets, option_map_or, refl, step_happens, subst, suc, sym, time, unwrap_or, with_expiry, without_first}
use Rattle.laws_time.proofs.Vocabulary.{without_first_octet, zero, ℕ, ◌++◌, ◌+◌, ◌-◌, ◌/◌, ◌<◌, ◌∙◌, ◌∷◌, ◌≡◌, ◌≤◌}
use Rattle.model_card.specs.ports.Port as port
use Rattle.model_card.proofs.OfPorts.Steps.{config_after}
use Rattle.model_timed.specs.Timed.{after as next}
use Rattle.laws_time.proofs.Moments.{now-stays, lengths-stay}
use Rattle.lapd_clock.specs.Timer.{Timer}
pub use Rattle.model_timed.proofs.Orders.{all-run as all-obeyed, in-order as ordered-obeyed}
use Rattle.laws_time.proofs.Vocabulary.{div-le_of_le-mul, duration, le-div, mul-div-le}
use Rattle.laws_time.proofs.TimedCards.{without-here, come_by, counted, by-orders, first-counts, none-come, none-counted, later-none, same-length}
use Rattle.std.proofs.lemmas.List.Sums.{count_by-le-length}

pub long : (ls : Lengths) → AreInRange ls → (timer : Timer) → 1 ≤ duration ls timer
long ls h1z timer = grind arith

-- From one beat to the next the moment stays, or is the next one.
pub div-stays : (n rate : ℕ) → 1 ≤ rate → (n / rate ≤ (n + 1) / rate) × ((n + 1) / rate ≤ n / rate + 1)
div-stays n rate some = grind (arith, mul-div-le, le-div, div-le_of_le-mul)

abbrev pub at_time : ℕ → TimedEndpoint → TimedEndpoint
at_time moment s = record s { clock = at_moment moment s.clock }

-- What each thing keeps, a list of them keeps.
pub fold-keeps : {A B : Type 0} (f : B → A → B) (Q : A → Type 0) (P : B → Type 0) → ((x : A) (b : B) → Q x → P b → P (f b x)) → (xs : List A) → All Q xs → (b : B) → P b → P (fold f b xs)
fold-keeps f Q P keeps [] all b h = h
fold-keeps f Q P keeps (x ∷ xs) all b h = fold-keeps f Q P keeps xs (All-tail Q x xs all) (f b x) (keeps x b (All-head Q x xs all) h)

-- What falls due now, if anything does.
fell-keeps : (P : TimedEndpoint → Type 0) → ((x : Expiry) (a : TimedEndpoint) → due a.clock ≡ Some x → P a → P (falls a x)) → (a : TimedEndpoint) (o : Option Expiry) → due a.clock ≡ o → P a → P (option_map_or (falls a) o a)
fell-keeps h keeps a h' is h'' = grind arith

-- And all that falls due.
pub falls-keep : (P : TimedEndpoint → Type 0) → ((x : Expiry) (a : TimedEndpoint) → due a.clock ≡ Some x → P a → P (falls a x)) → (n : ℕ) (a : TimedEndpoint) → P a → P (fall_due n a)
unfolding fall_due
falls-keep P keeps zero a h = h
falls-keep P keeps (suc n) a h = falls-keep P keeps n (option_map_or (falls a) (due a.clock) a) (fell-keeps P keeps a (due a.clock) refl h)

-- The moment comes, layer 3 asks, and what is due falls due.
pub comes-keep : (P : TimedEndpoint → Type 0) (Q : Request → Type 0) → ((r : Request) (a : TimedEndpoint) → Q r → P a → P (asks a r)) → ((x : Expiry) (a : TimedEndpoint) → due a.clock ≡ Some x → P a → P (falls a x))
    → (moment : ℕ) (rs : List Request) → All Q rs → (a : TimedEndpoint) → P (at_time moment a) → P (comes_to moment rs a)
comes-keep P Q ask fall moment rs all a h = let b = fold asks (at_time moment a) rs in falls-keep P fall (length b.clock.running) b (fold-keeps asks Q P ask rs all (at_time moment a) h)

-- The same, if what requests keep comes to what expiries keep.
pub comes-both : (P R : TimedEndpoint → Type 0) (Q : Request → Type 0) → ((r : Request) (a : TimedEndpoint) → Q r → P a → P (asks a r)) → ((a : TimedEndpoint) → P a → R a)
    → ((x : Expiry) (a : TimedEndpoint) → due a.clock ≡ Some x → R a → R (falls a x)) → (moment : ℕ) (rs : List Request) → All Q rs → (a : TimedEndpoint) → P (at_time moment a) → R (comes_to moment rs a)
comes-both P R Q ask less fall moment rs all a h =
    let b = fold asks (at_time moment a) rs in falls-keep R fall (length b.clock.running) b (less b (fold-keeps asks Q P ask rs all (at_time moment a) h))

-- ---- an end of the clocked circuit is a timed card of octets that is prompt

-- Steps that are prompt lead from one timed card to another.
pub record Leads (t u : TimedOctetCard) : Type 0 where
  pub steps : List (Step Event)
  pub leads : after_all octets steps t ≡ u
  pub prompt : ArePrompt octets 0 steps t

pub leads-none : (t : TimedOctetCard) → Leads t t
unfolding after_all ArePrompt
leads-none t = record { steps = []; leads = refl; prompt = tt }

pub leads-one : (s : Step Event) (t : TimedOctetCard) → IsPrompt octets 0 s t → Leads t (next octets s t)
unfolding after_all ArePrompt
leads-one s t prompt = record { steps = s ∷ []; leads = refl; prompt = (prompt, tt) }

pub both-lead : (a b : List (Step Event)) (t : TimedOctetCard) → after_all octets (a ++ b) t ≡ after_all octets b (after_all octets a t)
unfolding after_all
both-lead [] b t = refl
both-lead (s ∷ a) b t = both-lead a b (next octets s t)

pub both-prompt : (a b : List (Step Event)) (t : TimedOctetCard) → ArePrompt octets 0 a t → ArePrompt octets 0 b (after_all octets a t) → ArePrompt octets 0 (a ++ b) t
unfolding after_all ArePrompt
both-prompt [] b t h g = g
both-prompt (s ∷ a) b t h g = (h.0, both-prompt a b (next octets s t) h.1 g)

pub leads-both : (t u v : TimedOctetCard) → Leads t u → Leads u v → Leads t v
leads-both t u v h g = grind (arith, both-lead, after_all, octets, both-prompt)

-- An end as it stands: its line is one of the card, its timers are of that line, and none is overdue.
pub record Stands (s : TimedEndpoint) : Type 0 where
  pub within : s.at.line < s.at.card.card.config.lines
  pub ranged : AreInRange s.clock.lengths
  pub in_order : IsInOrder is_before s.clock.running
  pub here : AllByRecursion (λ x. x.line ≡ s.at.line) s.clock.running
  pub timely : AllByRecursion (λ x. s.clock.now ≤ x.moment) s.clock.running

-- Something happens.
pub stands-on : (e : port.Event) (s : TimedEndpoint) → Stands s → Stands (happens e s)
stands-on e s h =
    let orders = orders_in (answered e s.at) in let line = s.at.line in
    record {
      within = subst (λ (c : Config). line < c.lines) (sym (config_after s.at.card (at line e))) h.within;
      ranged = subst AreInRange (sym (lengths-stay line s.clock orders)) h.ranged;
      in_order = ordered-obeyed line s.clock orders h.in_order;
      here = all-obeyed (λ x. x.line ≡ line) line s.clock orders (λ timer. refl) h.here;
      timely = subst (λ n. AllByRecursion (λ x. n ≤ x.moment) (obeyed line orders s.clock).running) (sym (now-stays line s.clock orders))
          (all-obeyed (λ x. s.clock.now ≤ x.moment) line s.clock orders (λ timer. omega arith) h.timely);
    }

pub leads-on : (e : port.Event) (s : TimedEndpoint) → Stands s → IsNoExpiry e → Leads (card_of s) (card_of (happens e s))
leads-on e s h none = leads-one (step_happens (at s.at.line e)) (card_of s) (h.within, none)

-- What is due falls due.
pub rest-of : (P : Expiry → Type 0) (xs : List Expiry) → AllByRecursion P xs → AllByRecursion P (drop 1 xs)
rest-of P [] all = all
rest-of P (x ∷ xs) all = all.1

pub first-of : (P : Expiry → Type 0) (xs : List Expiry) (now : ℕ) (x : Expiry) → AllByRecursion P xs → first_due xs now ≡ Some x → P x
first-of h h' now x all is = grind arith

abbrev pub without : TimedEndpoint → TimedEndpoint
without s = record s { clock = without_first s.clock }

pub stands-without : (s : TimedEndpoint) → Stands s → Stands (without s)
stands-without s h = record {
  within = h.within;
  ranged = h.ranged;
  in_order = without-here s.clock.running h.in_order;
  here = rest-of (λ x. x.line ≡ s.at.line) s.clock.running h.here;
  timely = rest-of (λ x. s.clock.now ≤ x.moment) s.clock.running h.timely;
}

-- a timer falls due, or none does
abbrev fallen : TimedEndpoint → TimedEndpoint
fallen s = option_map_or (falls s) (due s.clock) s

pub record Fell (s u : TimedEndpoint) (most : ℕ) : Type 0 where
  pub stands : Stands u
  pub leads : Leads (card_of s) (card_of u)
  pub now : u.clock.now ≡ s.clock.now
  pub due : counted s.clock.now u.clock.running ≤ most

falls-once : (s : TimedEndpoint) → Stands s → Fell s (fallen s) (counted s.clock.now s.clock.running - 1)
falls-once s h = go (due s.clock) refl
  where
    its-step : (o : Option Expiry) → due s.clock ≡ o → Leads (card_of s) (option_map_or (with_expiry octets (card_of s)) o (card_of s))
    its-step o is = subst (λ o. Leads (card_of s) (option_map_or (with_expiry octets (card_of s)) o (card_of s))) is (leads-one falls_due (card_of s) tt)

    go : (o : Option Expiry) → due s.clock ≡ o → Fell s (option_map_or (falls s) o s) (counted s.clock.now s.clock.running - 1)
    go None is = record { stands = h; leads = leads-none (card_of s); now = refl; due = omega (arith, later-none s.clock.running s.clock.now (none-come s.clock.running s.clock.now h.in_order is)) }
    go (Some x) is =
        let own : x.line ≡ s.at.line = first-of (λ x. x.line ≡ s.at.line) s.clock.running s.clock.now x h.here is in let e = port.expiry x.timer in let orders = orders_in (answered e s.at) in
        record {
          stands = stands-on e (without s) (stands-without s h);
          leads = subst (Leads (card_of s)) (ap (λ line. with_expiry octets (card_of s) (record x { line = line })) own) (its-step (Some x) is);
          now = now-stays s.at.line (without_first s.clock) orders;
          due = omega (arith, by-orders s.at.line (without_first s.clock) orders (λ timer. subst (λ n. 1 ≤ n) (same-length s.clock.lengths timer) (long s.clock.lengths h.ranged timer)), first-counts s.clock.running s.clock.now x is);
        }

fell-both : (s u v : TimedEndpoint) (most few : ℕ) → Fell s u most → (counted u.clock.now u.clock.running ≤ most → Fell u v few) → Fell s v few
fell-both s u v most few h g =
    let rest = g (subst (λ n. counted n u.clock.running ≤ most) (sym h.now) h.due) in
    record {
      stands = rest.stands;
      leads = leads-both (card_of s) (card_of u) (card_of v) h.leads rest.leads;
      now = rest.now ∙ h.now;
      due = subst (λ n. counted n v.clock.running ≤ few) h.now rest.due;
    }

pub all-fall : (n : ℕ) (s : TimedEndpoint) → Stands s → counted s.clock.now s.clock.running ≤ n → Fell s (fall_due n s) 0
unfolding fall_due
all-fall zero s h few = record { stands = h; leads = leads-none (card_of s); now = refl; due = few }
all-fall (suc n) s h few =
    let once = falls-once s h in fell-both s (fallen s) (fall_due n (fallen s)) (counted s.clock.now s.clock.running - 1) 0 once (λ less. all-fall n (fallen s) once.stands (omega (arith, less, few)))

-- Layer 3 asks.
pub record Came (s u : TimedEndpoint) : Type 0 where
  pub stands : Stands u
  pub leads : Leads (card_of s) (card_of u)
  pub now : u.clock.now ≡ s.clock.now

all-asked : (rs : List Request) (s : TimedEndpoint) → Stands s → Came s (fold asks s rs)
all-asked [] s h = record { stands = h; leads = leads-none (card_of s); now = refl }
all-asked (r ∷ rs) s h =
    let u = happens (port.request r) s in let rest = all-asked rs u (stands-on (port.request r) s h) in
    record {
      stands = rest.stands;
      leads = leads-both (card_of s) (card_of u) (card_of (fold asks u rs)) (leads-on (port.request r) s h tt) rest.leads;
      now = rest.now ∙ now-stays s.at.line s.clock (orders_in (answered (port.request r) s.at));
    }

-- The moment comes: it stays, or is the next one, and no timer is due from before.
pub record Rests (s : TimedEndpoint) : Type 0 where
  pub stands : Stands s
  pub later : AllByRecursion (λ x. s.clock.now < x.moment) s.clock.running

pub weaker : (P Q : Expiry → Type 0) → ((x : Expiry) → P x → Q x) → (xs : List Expiry) → AllByRecursion P xs → AllByRecursion Q xs
weaker P Q more [] all = tt
weaker P Q more (x ∷ xs) all = (more x all.0, weaker P Q more xs all.1)

pub time-comes : (moment : ℕ) (s : TimedEndpoint) → Rests s → s.clock.now ≤ moment → moment ≤ s.clock.now + 1 → Stands (at_time moment s) × Leads (card_of s) (card_of (at_time moment s))
time-comes moment s h low high =
    let timely = weaker (λ x. s.clock.now < x.moment) (λ x. moment ≤ x.moment) (λ x later. omega (arith, later, high)) s.clock.running h.later in (
      record { within = h.stands.within; ranged = h.stands.ranged; in_order = h.stands.in_order; here = h.stands.here; timely = timely },
      leads-one (time moment) (card_of s)
          (low, All-from_recursion (IsInTime 0 moment) s.clock.running (weaker (λ x. moment ≤ x.moment) (IsInTime 0 moment) (λ x later. omega (arith, later)) s.clock.running timely)),
    )

pub record Comes (moment : ℕ) (s u : TimedEndpoint) : Type 0 where
  pub rests : Rests u
  pub leads : Leads (card_of s) (card_of u)
  pub now : u.clock.now ≡ moment

pub comes : (moment : ℕ) (rs : List Request) (s : TimedEndpoint) → Rests s → s.clock.now ≤ moment → moment ≤ s.clock.now + 1 → Comes moment s (comes_to moment rs s)
comes moment rs s h low high =
    let t = at_time moment s in let u = fold asks t rs in let first = time-comes moment s h low high in let asked = all-asked rs t first.0 in
    let fell = all-fall (length u.clock.running) u asked.stands (count_by-le-length (come_by u.clock.now) u.clock.running) in
    let v = comes_to moment rs s in let later = none-counted v.clock.running u.clock.now fell.stands.in_order fell.due in
    record {
      rests = record { stands = fell.stands; later = subst (λ n. AllByRecursion (λ x. n < x.moment) v.clock.running) (sym fell.now) later };
      leads = leads-both (card_of s) (card_of t) (card_of v) first.1 (leads-both (card_of t) (card_of u) (card_of v) asked.leads fell.leads);
      now = fell.now ∙ asked.now;
    }

-- Something happens at an end at which nothing is due.
pub rests-on : (e : port.Event) (s : TimedEndpoint) → Rests s → Rests (happens e s)
rests-on e s h =
    let orders = orders_in (answered e s.at) in
    record {
      stands = stands-on e s h.stands;
      later = subst (λ n. AllByRecursion (λ x. n < x.moment) (obeyed s.at.line orders s.clock).running) (sym (now-stays s.at.line s.clock orders))
          (all-obeyed (λ x. s.clock.now < x.moment) s.at.line s.clock orders (λ timer. let some = long s.clock.lengths h.stands.ranged timer in omega (arith, some)) h.later);
    }

happens-then : (moment : ℕ) (e : port.Event) (s u : TimedEndpoint) → IsNoExpiry e → Comes moment s u → Comes moment s (happens e u)
happens-then moment e s u none h = record {
  rests = rests-on e u h.rests;
  leads = leads-both (card_of s) (card_of u) (card_of (happens e u)) h.leads (leads-on e u h.rests.stands none);
  now = now-stays u.at.line u.clock (orders_in (answered e u.at)) ∙ h.now;
}

heard-then : (moment : ℕ) (noise : Option ℕ) (way : List ℕ) (s u : TimedEndpoint) → Comes moment s u → Comes moment s (without_first_octet (hears noise way u))
heard-then moment noise [] s u h = grind (arith, without_first_octet)
heard-then moment noise (value ∷ way) s u h =
    let then = happens-then moment (port.octet (unwrap_or noise value)) s u tt h in
    record { rests = record { stands = still (happens (port.octet (unwrap_or noise value)) u) then.rests.stands; later = then.rests.later }; leads = then.leads; now = then.now }
  where
    still : (u : TimedEndpoint) → Stands u → Stands (without_first_octet u)
    still u h = record { within = h.within; ranged = h.ranged; in_order = h.in_order; here = h.here; timely = h.timely }

pub record Both (rate : ℕ) (t u : TimedOctetCard) (w : Clocked) : Type 0 where
  pub near : Rests w.near
  pub far : Rests w.far
  pub near_now : w.near.clock.now ≡ (w.beats - 1) / rate
  pub far_now : w.far.clock.now ≡ (w.beats - 1) / rate
  pub near_leads : Leads t (card_of w.near)
  pub far_leads : Leads u (card_of w.far)

pub next-moment : (rate beats : ℕ) → 1 ≤ rate → ((beats - 1) / rate ≤ beats / rate) × (beats / rate ≤ (beats - 1) / rate + 1)
next-moment rate beats h1z = grind (arith, div-stays)

pub one-beat : (rate : ℕ) → 1 ≤ rate → (t u : TimedOctetCard) (b : Beat) (w : Clocked) → Both rate t u w → Both rate t u (beat rate w b)
one-beat rate some t u b w h =
    let moment = w.beats / rate in let next = next-moment rate w.beats some in
    let near = comes moment b.near_asks w.near h.near (subst (λ n. n ≤ moment) (sym h.near_now) next.0) (subst (λ n. moment ≤ n + 1) (sym h.near_now) next.1) in
    let far = comes moment b.far_asks w.far h.far (subst (λ n. n ≤ moment) (sym h.far_now) next.0) (subst (λ n. moment ≤ n + 1) (sym h.far_now) next.1) in let v = gone rate b w in
    let near2 = heard-then moment b.near_noise v.far.at.way w.near v.near (happens-then moment port.pull w.near (comes_to moment b.near_asks w.near) tt near) in
    let far2 = heard-then moment b.far_noise v.near.at.way w.far v.far (happens-then moment port.pull w.far (comes_to moment b.far_asks w.far) tt far) in
    let same : w.beats + 1 - 1 ≡ w.beats = omega arith in
    record {
      near = near2.rests;
      far = far2.rests;
      near_now = near2.now ∙ ap (λ n. n / rate) (sym same);
      far_now = far2.now ∙ ap (λ n. n / rate) (sym same);
      near_leads = leads-both t (card_of w.near) (card_of (beat rate w b).near) h.near_leads near2.leads;
      far_leads = leads-both u (card_of w.far) (card_of (beat rate w b).far) h.far_leads far2.leads;
    }

pub all-beats : (rate : ℕ) → 1 ≤ rate → (t u : TimedOctetCard) (bs : List Beat) (w : Clocked) → Both rate t u w → Both rate t u (after rate bs w)
all-beats rate some t u bs w h = fold-keeps (beat rate) (λ b. Unit {0}) (Both rate t u) (λ b w is. one-beat rate some t u b w) bs (λ k d lt. tt) w h

-- From the start.
begins : (c : Config) (line tei way : ℕ) (lengths : Lengths) → line < c.lines → AreInRange lengths → Comes 0 (first c line lengths way) (endpoint c line lengths way tei)
begins c line tei way lengths within ranged =
    happens-then 0 (port.request (Assign tei)) (first c line lengths way) (first c line lengths way) tt
    (record {
      rests = record { stands = record { within = within; ranged = ranged; in_order = tt; here = tt; timely = tt }; later = tt };
      leads = leads-none (card_of (first c line lengths way));
      now = refl;
    })

none-yet : (rate : ℕ) → 0 ≡ (0 - 1) / rate
none-yet rate = let less = div-le_self 0 rate in omega (arith, less)

pub timed : (c : Config) (lengths : Lengths) (s : TimedEndpoint) → Leads (fresh c lengths) (card_of s) → IsTimedCard c lengths s
timed c lengths s h = (h.steps, h.prompt, h.leads)

pub both-begin : (c d : Config) (line other tei way rate : ℕ) (lengths others : Lengths) → line < c.lines → other < d.lines → AreInRange lengths → AreInRange others
    → Both rate (fresh c lengths) (fresh d others) (record { near = endpoint c line lengths way tei; far = endpoint d other others way tei; beats = 0 })
both-begin c d line other tei way rate lengths others within within_far ranged ranged_far =
    let near = begins c line tei way lengths within ranged in let far = begins d other tei way others within_far ranged_far in grind (arith, none-yet)

pub ends-are-timed-cards : EndsAreTimedCards
ends-are-timed-cards c d line other tei way rate lengths others bs within within_far ranged ranged_far some =
    let w : Clocked = record { near = endpoint c line lengths way tei; far = endpoint d other others way tei; beats = 0 } in
    let all = all-beats rate some (fresh c lengths) (fresh d others) bs w (both-begin c d line other tei way rate lengths others within within_far ranged ranged_far) in
    (timed c lengths (after rate bs w).near all.near_leads, timed d others (after rate bs w).far all.far_leads)
