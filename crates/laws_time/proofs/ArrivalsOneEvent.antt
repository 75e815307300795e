-- By which events N200 is used up, and how often T200 has expired.
use Rattle.laws_time.proofs.Vocabulary.{Answer, Bool, Clock, Config, Control, Error, ErrorCode, Event, Expiry, IsInRange, IsNoExpiry, Lengths, List, None, Note, Observed, Service, Some, T200, TimedCard, Timer, [], ap, append-nil, arith, at, brings, by_event, by_expiry, by_t200, cond, counted, due_notes, eq-eqb, eqb-true, error_in, expiry, false, fault_of, first_due, flat_map, by-bool}
use Rattle.laws_time.proofs.Vocabulary.{flat_map-append, given_up, in_state, inl, inr, is_anew, is_of, is_on, is_sabme, is_used_up, is_waiting, is_xid, leb-true, list_any, list_any-append, ltb-false, malformed, map, may_repeat, moment_at, moment_of, mul-le, nat_le, nat_lt, news_in, next, not, notes_due, of_frames, option_to_list, or_parts, refl, renews}
use Rattle.laws_time.proofs.Vocabulary.{request, runs, same_Some, subst, suc, sym, true, true≢false, view_behind, view_of, wrong, wrong_frame, wrong_number, zero, ℕ, ◌*◌, ◌++◌, ◌+◌, ◌<◌, ◌==◌, ◌||◌, ◌∙◌, ◌∷◌, ◌≡◌, ◌≤◌, ◌⊎◌}
use Rattle.model_bits.specs.Stream as stream
use Rattle.model_line.specs.Event as line_event
use Rattle.lapd_frame.specs.declared.faults.ReadFault.{ReadFault}
use Rattle.model_line.specs.Event.{hears}
use Rattle.laws_time.proofs.OfCircuit.Orders.{not-7, awaits-in, counts-on, not-anew}
use Rattle.laws_time.proofs.Moments.{is_own_t200}
use Rattle.laws_time.proofs.TimedFrames.{with_event}
use Rattle.laws_time.proofs.Links.{stays-on, there}
use Rattle.laws_time.proofs.Walk.{Stands, Holds, seen, step, q-is, own-news}
use Rattle.laws_time.proofs.Before.{Goes}
use Rattle.laws_time.proofs.Silent.{one-more}

abbrev pub Used : List Note → Bool
Used ns = list_any is_used_up (flat_map error_in ns)

pub used-append : (ns ms : List Note) → Used ns ≡ false → Used ms ≡ false → Used (ns ++ ms) ≡ false
used-append ns ms first then = grind (arith, flat_map-append, list_any-append)

-- Where an end comes to a state in which it awaits an answer, T200 has not expired there.
pub moved-zero : (c : Config) (service : Service) (tei : ℕ) (what : line_event.Event) (a : Answer) (o : Observed) → is_own_t200 service tei what ≡ false
    → is_waiting (by_event c service tei what a o).state ≡ true → (o.state == (by_event c service tei what a o).state) ≡ false → (by_event c service tei what a o).expiries ≡ 0
moved-zero c service tei what a o h1z h2z h3z = grind (arith, eq-eqb)

-- What T200 leads to: out of state 7 its first expiry is counted by annex B alone; or else none is counted, or one more.
pub led : (c : Config) (o : Observed) → is_waiting (by_t200 c o).state ≡ true → runs T200 o ≡ true
    → ((o.state ≡ 7) × ((by_t200 c o).expiries ≡ counted c)) ⊎ ((by_t200 c o).expiries ≡ 0) ⊎ (((by_t200 c o).expiries ≡ o.expiries + 1) × (is_waiting o.state ≡ true))
led c o waits run = grind (arith, eqb-true)

pub idle-off : (c : Config) (o : Observed) → runs T200 o ≡ false → runs T200 (by_t200 c o) ≡ false
idle-off c o none = grind arith

-- Errors by which N200 is used up are told as T200 expires for the last time.
map-codes : (service : Service) (tei : ℕ) (cs : List ErrorCode) → flat_map error_in (map (Error service tei) cs) ≡ cs
map-codes service tei [] = refl
map-codes service tei (code ∷ cs) = ap (λ xs. code ∷ xs) (map-codes service tei cs)

due-none : (service : Service) (tei : ℕ) (xid sabme released : Bool) (was : Observed) (to : ℕ) → flat_map error_in (due_notes service tei xid sabme released was to) ≡ []
due-none service tei xid sabme released was to = grind arith

used-is : (c : Config) (service : Service) (tei : ℕ) (o q : Observed) (what : line_event.Event) (a : Answer) → Used (notes_due c service tei o q what a) ≡ true
    → list_any is_used_up (wrong c service tei what o.state q.state) ≡ true
used-is c service tei o q what a is = grind (arith, wrong, due_notes, brings, is_xid, is_sabme, map, flat_map-append, map-codes, due-none, append-nil, true≢false, cond)

fault-none : (service : Service) (tei : ℕ) (fault : ReadFault) → list_any is_used_up (option_to_list (fault_of service tei fault)) ≡ false
fault-none service tei fault = grind arith

malformed-none : (c : Config) (service : Service) (tei : ℕ) (e : stream.Event) → list_any is_used_up (option_to_list (malformed c service tei e)) ≡ false
malformed-none c service tei e = grind (arith, fault-none)

number-none : (final : Bool) (was to : ℕ) → list_any is_used_up (wrong_number final was to) ≡ false
number-none final was to = grind arith

by-one : (b : Bool) (x : ErrorCode) → is_used_up x ≡ false → list_any is_used_up (cond b (x ∷ []) []) ≡ false
by-one b x h1z = grind arith

frame-none : (l command : Bool) (k : Control) (was to : ℕ) → list_any is_used_up (wrong_frame l command k was to) ≡ false
frame-none l command k was to = grind (arith, number-none, by-one)

hears-none : (c : Config) (service : Service) (tei : ℕ) (e : stream.Event) (was to : ℕ) → list_any is_used_up (wrong c service tei (hears e) was to) ≡ false
hears-none c service tei e was to = grind (arith, list_any-append, malformed-none, frame-none)

-- The state is left.
left-means : (was to : ℕ) → list_any is_used_up (given_up was to) ≡ true → (is_waiting was ≡ true) × ((was == to) ≡ false) × ((to == 1) ≡ false)
left-means was to is = (grind (arith, eqb-true), grind (arith, eqb-true), grind (arith, eqb-true))

pub used-means : (c : Config) (service : Service) (tei : ℕ) (o q : Observed) (what : line_event.Event) (a : Answer) → Used (notes_due c service tei o q what a) ≡ true
    → (timer : Timer) × (what ≡ expiry timer) × (is_waiting o.state ≡ true) × ((o.state == q.state) ≡ false) × ((q.state == 1) ≡ false)
used-means c service tei o q (hears e) a is = absurd (true≢false (sym (used-is c service tei o q (hears e) a is) ∙ hears-none c service tei e o.state q.state))
used-means c service tei o q (request r) a is = absurd (true≢false (sym (used-is c service tei o q (request r) a is)))
used-means c service tei o q next a is = absurd (true≢false (sym (used-is c service tei o q next a is)))
used-means c service tei o q (expiry timer) a is = let x = left-means o.state q.state (used-is c service tei o q (expiry timer) a is) in (timer, refl, x.0, x.1, x.2)

pub expiry-means : (c : Config) (service : Service) (tei : ℕ) (o : Observed) (timer : Timer) → is_waiting o.state ≡ true → (o.state == (by_expiry c service tei timer o).state) ≡ false
    → (is_own_t200 service tei (expiry timer) ≡ true) × (may_repeat c o ≡ false)
expiry-means c service tei o timer h1z h2z = grind (arith, eq-eqb, eqb-true, not-7)

-- ---- one event of a line: how soon T200 falls due then, and that N200 is not used up by it

pub un-not : (b : Bool) → not b ≡ false → b ≡ true
un-not b h1z = grind arith

pub no-expiry : (service : Service) (tei : ℕ) (what : line_event.Event) → IsNoExpiry what → is_own_t200 service tei what ≡ false
no-expiry service tei what none = grind arith

-- The timer that falls due is the first.
pub due-now : (number : ℕ) (its : Timer) (xs : List Expiry) (now : ℕ) (x : Expiry) → first_due xs now ≡ Some x → is_of number its x ≡ true → (moment_of number its xs ≡ Some x.moment) × (x.moment ≤ now)
due-now number its [] now x is same = cc is
due-now number its (e ∷ es) now x is same = go (nat_le e.moment now) refl is
  where
    go : (b : Bool) → nat_le e.moment now ≡ b → cond b (Some e) None ≡ Some x → (moment_of number its (e ∷ es) ≡ Some x.moment) × (x.moment ≤ now)
    go false later is = cc is
    go true early is =
        let one = same_Some e x is in (
          ap (λ b. cond b (Some e.moment) (moment_of number its es)) (ap (is_of number its) one ∙ same) ∙ ap (λ (e : Expiry). Some e.moment) one,
          subst (λ (e : Expiry). e.moment ≤ now) one (leb-true e.moment now early),
        )

module _ (c : Config) (lengths : Lengths) (late number : ℕ) (ranged : IsInRange c) (within : number < c.lines) (service : Service) (tei t0 slack floor : ℕ) (least : floor ≤ 1)
    (covers : counted c ≤ slack + floor) where
  abbrev pub G : List Event → TimedCard → Type 0
  G events t = Goes c lengths late number ranged within service tei events t

  abbrev pub S : List Event → TimedCard → Type 0
  S events t = Stands c lengths late number ranged within service tei events t

  abbrev pub o_at : List Event → Observed
  o_at events = seen c lengths late number ranged within service tei events

  abbrev pub H : List Event → Clock → (ℕ → Type 0) → Type 0
  H events clock P = Holds c lengths late number ranged within service tei T200 events clock P

  -- T200 falls due no sooner than it has run out so often, but for the slack; and in state 7, if that does not cover the expiry that
  -- leads out of it, no sooner than once.
  abbrev pub InTime : Observed → ℕ → Type 0
  InTime o m = t0 + (o.expiries + 1) * lengths.t200 ≤ m + slack * lengths.t200

  abbrev pub P : Observed → ℕ → Type 0
  P o m = (is_waiting o.state ≡ true → InTime o m) × (o.state ≡ 7 → floor * (t0 + lengths.t200) ≤ m)

  pub record Runs (events : List Event) (t : TimedCard) : Type 0 where
    pub goes : G events t
    pub since : t0 ≤ t.clock.now
    pub due_by : H events t.clock (P (o_at events))

  pub first-time : (now m : ℕ) (q : Observed) → t0 ≤ now → q.expiries ≡ 0 → t0 + (q.expiries + 1) * lengths.t200 ≤ now + lengths.t200 + slack * lengths.t200
  first-time now m q since none = let one = ap (λ e. (e + 1) * lengths.t200) none in omega (arith, since, one)

  pub once-more : (now m e : ℕ) → m ≤ now → t0 + (e + 1) * lengths.t200 ≤ m + slack * lengths.t200 → t0 + (e + 1 + 1) * lengths.t200 ≤ now + lengths.t200 + slack * lengths.t200
  once-more now m e low h = let more = one-more (e + 1) lengths.t200 in omega (arith, low, h, more)

  pub fewer : (a b m : ℕ) → a ≤ b → t0 + (b + 1) * lengths.t200 ≤ m + slack * lengths.t200 → t0 + (a + 1) * lengths.t200 ≤ m + slack * lengths.t200
  fewer a b m less h = let few = mul-le (a + 1) lengths.t200 (b + 1) lengths.t200 (omega (arith, less)) (omega arith) in omega (arith, h, few)

  -- anew in state 7
  pub from-now : (now : ℕ) → t0 ≤ now → floor * (t0 + lengths.t200) ≤ now + lengths.t200
  from-now now since = let once = mul-le floor (t0 + lengths.t200) 1 (t0 + lengths.t200) least (omega arith) in omega (arith, since, once)

  -- out of state 7
  pub out-of-7 : (now m e : ℕ) → t0 ≤ now → m ≤ now → e ≡ counted c → floor * (t0 + lengths.t200) ≤ m → t0 + (e + 1) * lengths.t200 ≤ now + lengths.t200 + slack * lengths.t200
  out-of-7 now m e since low is h = go floor refl
    where
      few : e ≤ slack + floor
      few = subst (λ e. e ≤ slack + floor) (sym is) covers

      go : (f : ℕ) → floor ≡ f → t0 + (e + 1) * lengths.t200 ≤ now + lengths.t200 + slack * lengths.t200
      go zero none =
          let most = mul-le (e + 1) lengths.t200 (slack + 1) lengths.t200 (omega (arith, few, none)) (omega arith) in
          let all = one-more slack lengths.t200 in omega (arith, since, most, all)
      go (suc f) some =
          let most = mul-le (e + 1) lengths.t200 (slack + 1 + 1) lengths.t200 (omega (arith, few, least)) (omega arith) in
          let all = one-more slack lengths.t200 in let more = one-more (slack + 1) lengths.t200 in
          let once = mul-le 1 (t0 + lengths.t200) floor (t0 + lengths.t200) (omega (arith, some)) (omega arith) in omega (arith, low, h, most, all, more, once)

  -- An event of the line.
  module _ (events : List Event) (u : TimedCard) (s : S events u) (what : line_event.Event) where
    abbrev pub o : Observed
    o = o_at events

    abbrev pub q : Observed
    q = (view_behind c service tei number events what).link

    abbrev pub more : List Event
    more = events ++ at number what ∷ []

    pub is-q : o_at (events ++ at number what ∷ []) ≡ q
    is-q = q-is c lengths late number ranged within service tei events u s what T200

    abbrev pub on_was : Bool
    on_was = is_on tei (view_of c service tei number events).teis

    abbrev pub on_now : Bool
    on_now = is_on tei (view_behind c service tei number events what).teis

    pub views-own : q ≡ cond (not on_now) (in_state 1) (cond on_was (by_event c service tei what (moment_at c events number what).answer o) (in_state 4))
    views-own = grind (arith, eq-eqb)

    -- where it awaits an answer its TEI is on the line
    q-by : is_waiting o.state ≡ true → (q ≡ in_state 1) ⊎ (q ≡ by_event c service tei what (moment_at c events number what).answer o)
    q-by waits = by-bool on_now (λ on. inr (stays-on c events number ranged s.all within service tei what (there c events number ranged s.all within service tei T200 (awaits-in o waits)) on))
        (λ off. inl (views-own ∙ ap (λ b. cond (not b) (in_state 1) (cond on_was (by_event c service tei what (moment_at c events number what).answer o) (in_state 4))) off))

    q-waits : is_waiting q.state ≡ true → q ≡ by_event c service tei what (moment_at c events number what).answer o
    q-waits waits = go on_now on_was views-own
      where
        go : (a b : Bool) → q ≡ cond (not a) (in_state 1) (cond b (by_event c service tei what (moment_at c events number what).answer o) (in_state 4)) → q ≡ by_event c service tei what (moment_at c events number what).answer o
        go false b e = absurd (true≢false (sym waits ∙ ap (λ (q : Observed). is_waiting q.state) e))
        go true true e = e
        go true false e = absurd (true≢false (sym waits ∙ ap (λ (q : Observed). is_waiting q.state) e))

    -- that starts T200 anew
    pub anew-due : is_anew c service tei T200 o q what ≡ true → t0 ≤ u.clock.now → (is_waiting q.state ≡ true → InTime q (u.clock.now + lengths.t200))
        → H (events ++ at number what ∷ []) (with_event (at number what) u).clock (P (o_at (events ++ at number what ∷ [])))
    anew-due anew since bound =
        step c lengths late number ranged within service tei events u s what T200 (λ m. ⊥) (P (o_at more)) (λ run kept. absurd (true≢false (sym anew ∙ kept))) (λ run m late_is h. absurd h)
        (λ begun run. subst (λ x. P x (u.clock.now + lengths.t200)) (sym is-q) (bound, λ at_7. from-now u.clock.now since))

    same-there : is_anew c service tei T200 o q what ≡ false → (o.state ≡ q.state) × (q.expiries ≤ o.expiries)
    same-there none = grind (arith, or_parts, not, nat_lt, brings, renews, eqb-true, un-not, ltb-false)

    -- or lets it run on
    on-due : is_anew c service tei T200 o q what ≡ false → t0 ≤ u.clock.now → H events u.clock (P o) → H (events ++ at number what ∷ []) (with_event (at number what) u).clock (P (o_at (events ++ at number what ∷ [])))
    on-due none since h =
        let same = same-there none in
        step c lengths late number ranged within service tei events u s what T200 (P o) (P (o_at more)) (λ run kept. h run)
        (λ run m late_is p. subst (λ x. P x m) (sym is-q) (λ waits. fewer q.expiries o.expiries m same.1 (p.0 (ap is_waiting same.0 ∙ waits)), λ at_7. p.1 (same.0 ∙ at_7)))
        (λ begun run. subst (λ x. P x (u.clock.now + lengths.t200)) (sym is-q)
        (λ waits. absurd (true≢false (sym begun ∙ ap (λ b. not b || is_anew c service tei T200 o q what) (awaits-in o (ap is_waiting same.0 ∙ waits)) ∙ none)), λ at_7. from-now u.clock.now since))

    -- It is no expiry of its T200.
    module _ (other : is_own_t200 service tei what ≡ false) (since : t0 ≤ u.clock.now) (h : H events u.clock (P (o_at events))) where
      zero-then : is_anew c service tei T200 o q what ≡ true → is_waiting q.state ≡ true → q.expiries ≡ 0
      zero-then anew waits = go (o.state == q.state) refl
        where
          by : q ≡ by_event c service tei what (moment_at c events number what).answer o
          by = q-waits waits

          few : q.expiries ≤ o.expiries
          few = subst (λ (q : Observed). q.expiries ≤ o.expiries) (sym by) (counts-on c service tei what (moment_at c events number what).answer o other)

          go : (b : Bool) → (o.state == q.state) ≡ b → q.expiries ≡ 0
          go true same = absurd (true≢false (sym anew ∙ (not-anew c events number ranged s.all within service tei what u.clock (ap is_waiting (eqb-true o.state q.state same) ∙ waits) (sym (eqb-true o.state q.state same)) few)))
          go false moves =
              ap (λ (q : Observed). q.expiries) by
              ∙ moved-zero c service tei what (moment_at c events number what).answer o other (ap (λ (q : Observed). is_waiting q.state) (sym by) ∙ waits) (ap (λ (q : Observed). o.state == q.state) (sym by) ∙ moves)

      pub other-due : H (events ++ at number what ∷ []) (with_event (at number what) u).clock (P (o_at (events ++ at number what ∷ [])))
      other-due = by-bool (is_anew c service tei T200 o q what) (λ anew. anew-due anew since (λ waits. first-time u.clock.now u.clock.now q since (zero-then anew waits))) (λ none. on-due none since h)

      pub other-news : Used (news_in of_frames service tei number (Some (at number what)) u.card) ≡ false
      other-news = ap Used (own-news c lengths late number ranged within service tei events u s what) ∙ go (Used (notes_due c service tei o q what (moment_at c events number what).answer)) refl
        where
          go : (b : Bool) → Used (notes_due c service tei o q what (moment_at c events number what).answer) ≡ b → b ≡ false
          go false e = refl
          go true e = absurd (by (used-means c service tei o q what (moment_at c events number what).answer e))
            where
              by : ((timer : Timer) × (what ≡ expiry timer) × (is_waiting o.state ≡ true) × ((o.state == q.state) ≡ false) × ((q.state == 1) ≡ false)) → ⊥
              by (timer, is, waits, moves, off) = led-off (q-by waits)
                where
                  led-off : (q ≡ in_state 1) ⊎ (q ≡ by_event c service tei what (moment_at c events number what).answer o) → ⊥
                  led-off (inl gone) = true≢false (ap (λ (q : Observed). q.state == 1) (sym gone) ∙ off)
                  led-off (inr led_by) =
                      true≢false (sym (expiry-means c service tei o timer waits
                      (ap (λ (q : Observed). o.state == q.state) (ap (λ x. by_event c service tei x (moment_at c events number what).answer o) (sym is) ∙ sym led_by) ∙ moves)).0
                      ∙ ap (is_own_t200 service tei) (sym is) ∙ other)
