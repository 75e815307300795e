-- Timers keep the lengths that they were started with.
use Rattle.lapd_clock.proofs.Vocabulary.{◌≡◌, ℕ, ◌+◌, ◌<◌, ◌≤◌, ◌==◌, ◌&&◌, Bool, true, false, cond, List, [], ◌∷◌, ◌++◌, map, Some, None, none-some, same_Some, refl, sym, ap, ◌∙◌, subst, arith, nat_tests, nat_le, append_assoc, append-nil, All, AllByRecursion, recursion_from_All, Timer, Order, Start, Stop, Lengths, is_same, duration, Expiry, is_before, is_of, IsInOrder, IsOneEach, moment_of}
use Rattle.std.specs.Prelude.{Option, IfSome, fold, option_map}
use Rattle.std.specs.Option.{option_map_or}
use Rattle.std.proofs.lemmas.List.Sums.{fold-append}
use Rattle.lapd_clock.specs.Timer.{T200, T203, T201, T202}
use Rattle.lapd_clock.proofs.First.{no_earlier}
use Rattle.lapd_clock.proofs.OneMoved.{moment_of-none, of_itself}
use Rattle.model_timed.specs.Clock.{Clock, obey, obeyed, stopped, due, first_due, without_first, at_moment, first_moment, with_lengths}
use Rattle.model_timed.specs.Timed.{Kind, Timed, Step, happens, time, falls_due, after, with_expiry, expiry_at, IsInTime, IsPrompt}
use Rattle.model_timed.specs.Sayings.{ordered, expired, order_at, said, said_by_event, said_by_expiry}
use Rattle.model_timed.specs.TimersAreTrue.{length_of, gone_to}
use Rattle.model_timed.specs.LengthsChange.{Change, step, set_lengths, after_change, after_changes, ArePrompt, gone_by, Told, while_set, told_in, Begun, begun_by, begun_as, last_begun, falls_at, KeepsItsLength, NoneIsPassedOver, IsFallingAt, IsNextOf, TimersKeepLengths}
use Rattle.model_timed.proofs.Orders.{both, same-number, equal, start-moves, stop-moves, now-stays, lengths-stay, in-order, one-each, all-run}

same-length : (lengths : Lengths) (timer : Timer) → duration lengths timer ≡ length_of lengths timer
same-length lengths (T200 service tei) = refl
same-length lengths (T203 service tei) = refl
same-length lengths T201 = refl
same-length lengths T202 = refl

abbrev due_by : Timer → Option Begun → Option ℕ
due_by timer begun = option_map (λ b. falls_at timer b) begun

-- What holds of a clock after what was told, where no timer is passed over by more than so much, and these lengths were set last.
record Goes (late : ℕ) (lengths : Lengths) (tolds : List Told) (c : Clock) : Type 0 where
  moments : (l : ℕ) (t : Timer) → moment_of l t c.running ≡ due_by t (last_begun l t tolds)
  lengths_are : c.lengths ≡ lengths
  in_order : IsInOrder is_before c.running
  one_each : IsOneEach c.running
  passed : AllByRecursion (λ e. c.now ≤ e.moment + late) c.running

-- an order, and orders one after the other
by-start : (lengths : Lengths) (t : Timer) (now : ℕ) (b : Bool) (m : Option Begun) (its : Option ℕ) (ls : Lengths) → ls ≡ lengths → its ≡ due_by t m
    → cond b (Some (now + duration ls t)) its ≡ due_by t (cond b (Some (record { moment = now; lengths = lengths })) m)
by-start lengths t now true m its ls same h = ap (λ x. Some (now + duration x t)) same ∙ ap (λ n. Some (now + n)) (same-length lengths t)
by-start lengths t now false m its ls same h = h

by-stop : (t : Timer) (b : Bool) (m : Option Begun) (its : Option ℕ) → its ≡ due_by t m → cond b None its ≡ due_by t (cond b None m)
by-stop t true m its h = refl
by-stop t false m its h = h

ordered-so : (lengths : Lengths) (line l : ℕ) (t : Timer) (c : Clock) (orders : List Order) (m : Option Begun) → c.lengths ≡ lengths → moment_of l t c.running ≡ due_by t m
    → moment_of l t (obeyed line orders c).running ≡ due_by t (fold (begun_as l t) m (map (while_set lengths) (map (order_at c.now line) orders)))
ordered-so lengths line l t c [] m same h = h
ordered-so lengths line l t c (Start timer ∷ orders) m same h =
    ordered-so lengths line l t (obey line c (Start timer)) orders (begun_by l t m lengths (ordered c.now line (Start timer))) same
    (start-moves line timer c l t ∙ by-start lengths t c.now (line == l && is_same timer t) m (moment_of l t c.running) c.lengths same h)
ordered-so lengths line l t c (Stop timer ∷ orders) m same h =
    ordered-so lengths line l t (obey line c (Stop timer)) orders (begun_by l t m lengths (ordered c.now line (Stop timer))) same
    (stop-moves line timer c l t ∙ by-stop t (line == l && is_same timer t) m (moment_of l t c.running) h)

module _ (late : ℕ) (lengths : Lengths) where
  orders-go : (tolds : List Told) (c : Clock) (line : ℕ) (orders : List Order) → Goes late lengths tolds c
      → Goes late lengths (tolds ++ map (while_set lengths) (map (order_at c.now line) orders)) (obeyed line orders c)
  orders-go tolds c line orders g = record {
    moments = λ l t. ordered-so lengths line l t c orders (last_begun l t tolds) g.lengths_are (g.moments l t)
        ∙ ap (due_by t) (sym (fold-append (begun_as l t) None tolds (map (while_set lengths) (map (order_at c.now line) orders))));
    lengths_are = lengths-stay line c orders ∙ g.lengths_are;
    in_order = in-order line c orders g.in_order;
    one_each = one-each line c orders g.one_each;
    passed = subst (λ n. AllByRecursion (λ e. n ≤ e.moment + late) (obeyed line orders c).running) (sym (now-stays line c orders))
        (all-run (λ e. c.now ≤ e.moment + late) line c orders (λ timer. omega arith) g.passed);
  }

  time-goes : (tolds : List Told) (c : Clock) (moment : ℕ) → Goes late lengths tolds c → All (IsInTime late moment) c.running → Goes late lengths tolds (at_moment moment c)
  time-goes tolds c moment g prompt = record {
    moments = g.moments;
    lengths_are = g.lengths_are;
    in_order = g.in_order;
    one_each = g.one_each;
    passed = recursion_from_All (IsInTime late moment) c.running prompt;
  }

  -- other lengths move no timer
  lengths-go : (new : Lengths) (tolds : List Told) (c : Clock) → Goes late lengths tolds c → Goes late new tolds (with_lengths new c)
  lengths-go new tolds c g = record { moments = g.moments; lengths_are = refl; in_order = g.in_order; one_each = g.one_each; passed = g.passed }

  -- what is taken out has no moment any more
  left : (l : ℕ) (t : Timer) (x : Expiry) (es : List Expiry) (m : Option Begun) → AllByRecursion (λ other. is_of x.line x.timer other ≡ false) es
      → moment_of l t (x ∷ es) ≡ due_by t m → moment_of l t es ≡ due_by t (cond (x.line == l && is_same x.timer t) None m)
  left l t x es m alone h =
      (elim (x.line == l && is_same x.timer t) as (λ b. (x.line == l && is_same x.timer t) ≡ b → cond b (Some x.moment) (moment_of l t es) ≡ due_by t m
      → moment_of l t es ≡ due_by t (cond b None m)) [
        | true ↦ λ own was. let split = both (x.line == l) (is_same x.timer t) own in
            moment_of-none l t es
            (subst (λ n. AllByRecursion (λ other. is_of n t other ≡ false) es) (same-number x.line l split.0)
            (subst (λ y. AllByRecursion (λ other. is_of x.line y other ≡ false) es) (equal x.timer t split.1) alone))
        | false ↦ λ own was. was
      ]) refl h

  first-goes : (tolds : List Told) (ls : Lengths) (running : List Expiry) (now : ℕ) (x : Expiry)
      → Goes late lengths tolds (record { lengths = ls; running = running; now = now }) → first_due running now ≡ Some x
      → Goes late lengths (tolds ++ while_set lengths (expired now x.line x.timer) ∷ []) (without_first (record { lengths = ls; running = running; now = now }))
  first-goes tolds ls [] now x g is = absurd (none-some x is)
  first-goes tolds ls (e ∷ es) now x g is =
      subst (λ (y : Expiry). Goes late lengths (tolds ++ while_set lengths (expired now y.line y.timer) ∷ []) (record { lengths = ls; running = es; now = now })) (first-is e x (nat_le e.moment now) is)
      (record {
        moments = λ l t. left l t e es (last_begun l t tolds) g.one_each.0 (g.moments l t)
            ∙ ap (due_by t) (sym (fold-append (begun_as l t) None tolds (while_set lengths (expired now e.line e.timer) ∷ [])));
        lengths_are = g.lengths_are;
        in_order = g.in_order.1;
        one_each = g.one_each.1;
        passed = g.passed.1;
      })
    where
      first-is : (e x : Expiry) (b : Bool) → cond b (Some e) None ≡ Some x → e ≡ x
      first-is e x b is = grind arith

  -- each step
  module _ {Card Event : Type 0} (k : Kind Card Event) where
    falls : (tolds : List Told) (t : Timed Card) → Goes late lengths tolds t.clock → (o : Option Expiry) → due t.clock ≡ o
        → Goes late lengths (tolds ++ map (while_set lengths) (said_by_expiry k t o)) (option_map_or (with_expiry k t) o t).clock
    falls tolds t g None is = subst (λ ts. Goes late lengths ts t.clock) (sym (append-nil tolds)) g
    falls tolds t g (Some x) is =
        let then = record t { clock = without_first t.clock } in
        subst (λ ts. Goes late lengths ts (with_expiry k t x).clock)
        (append_assoc tolds (while_set lengths (expired t.clock.now x.line x.timer) ∷ []) (map (while_set lengths) (said_by_event k (expiry_at k x) then)))
        (orders-go (tolds ++ while_set lengths (expired t.clock.now x.line x.timer) ∷ []) then.clock (k.line (expiry_at k x)) (k.orders (expiry_at k x) t.card)
        (first-goes tolds t.clock.lengths t.clock.running t.clock.now x g is))

    step-goes : (tolds : List Told) (t : Timed Card) (s : Step Event) → Goes late lengths tolds t.clock → IsPrompt k late s t
        → Goes late lengths (tolds ++ map (while_set lengths) (said k s t)) (after k s t).clock
    step-goes tolds t (happens e) g prompt = orders-go tolds t.clock (k.line e) (k.orders e t.card) g
    step-goes tolds t (time moment) g prompt =
        subst (λ ts. Goes late lengths ts (at_moment moment t.clock)) (sym (append-nil tolds)) (time-goes tolds t.clock moment g prompt.1)
    step-goes tolds t falls_due g prompt = falls tolds t g (due t.clock) refl

  begins : Goes late lengths [] (stopped lengths)
  begins = record { moments = λ l t. refl; lengths_are = refl; in_order = tt; one_each = tt; passed = tt }

  -- what that says of what is due
  own-moment : (x : Expiry) (es : List Expiry) → moment_of x.line x.timer (x ∷ es) ≡ Some x.moment
  own-moment x es = ap (λ b. cond b (Some x.moment) (moment_of x.line x.timer es)) (of_itself x.line x.timer)

  is-true : (x : Expiry) (now : ℕ) (tolds : List Told) (m : Option Begun) → last_begun x.line x.timer tolds ≡ m → Some x.moment ≡ due_by x.timer m → x.moment ≤ now → now ≤ x.moment + late
      → KeepsItsLength late now tolds x
  is-true x now tolds None at is come passed = absurd (none-some x.moment (sym is))
  is-true x now tolds (Some b) at is come passed =
      let same = same_Some x.moment (falls_at x.timer b) is in
      (b, at, omega (arith, same, come), omega (arith, same, passed))

  first-true : (tolds : List Told) (ls : Lengths) (running : List Expiry) (now : ℕ) → Goes late lengths tolds (record { lengths = ls; running = running; now = now })
      → IfSome (first_due running now) (KeepsItsLength late now tolds)
  first-true tolds ls [] now g = tt
  first-true tolds ls (e ∷ es) now g =
      (elim (nat_le e.moment now) as (λ b. nat_le e.moment now ≡ b → IfSome (cond b (Some e) None) (KeepsItsLength late now tolds)) [
        | true ↦ λ come. is-true e now tolds (last_begun e.line e.timer tolds) refl (sym (own-moment e es) ∙ g.moments e.line e.timer) (come-is come) g.passed.0
        | false ↦ λ _. tt
      ]) refl
    where
      come-is : nat_le e.moment now ≡ true → e.moment ≤ now
      come-is h = grind (arith, nat_tests)

  -- and of what is not
  held-so : (P : ℕ → Type 0) (line : ℕ) (timer : Timer) (es : List Expiry) (m : ℕ) → AllByRecursion (λ e. P e.moment) es → moment_of line timer es ≡ Some m → P m
  held-so P line timer [] m all is = absurd (none-some m is)
  held-so P line timer (e ∷ es) m all is =
      (elim (is_of line timer e) as (λ b. cond b (Some e.moment) (moment_of line timer es) ≡ Some m → P m) [
        | true ↦ λ own. subst P (same_Some e.moment m own) all.0
        | false ↦ λ rest. held-so P line timer es m all.1 rest
      ]) is

  later : (e : Expiry) (es : List Expiry) (now : ℕ) → now < e.moment → AllByRecursion (λ x. is_before x e ≡ false) es → AllByRecursion (λ x. now < x.moment) es
  later e [] now h all = tt
  later e (x ∷ xs) now h all = (omega (arith, h, no_earlier x e all.0), later e xs now h all.1)

  none-due : (es : List Expiry) (now : ℕ) → IsInOrder is_before es → first_due es now ≡ None → AllByRecursion (λ x. now < x.moment) es
  none-due [] now sorted is = tt
  none-due (e ∷ es) now sorted is =
      (elim (nat_le e.moment now) as (λ b. nat_le e.moment now ≡ b → cond b (Some e) None ≡ None → AllByRecursion (λ x. now < x.moment) (e ∷ es)) [
        | true ↦ λ _ some. absurd (none-some e (sym some))
        | false ↦ λ h _. (not-yet h, later e es now (not-yet h) sorted.0)
      ]) refl is
    where
      not-yet : nat_le e.moment now ≡ false → now < e.moment
      not-yet h = grind (arith, nat_tests)

  not-passed : (tolds : List Told) (c : Clock) → Goes late lengths tolds c → NoneIsPassedOver late c.now (due c) tolds
  not-passed tolds c g line timer = go (last_begun line timer tolds) (g.moments line timer)
    where
      go : (m : Option Begun) → moment_of line timer c.running ≡ due_by timer m → IfSome m (λ b. (c.now ≤ falls_at timer b + late) × (due c ≡ None → c.now < falls_at timer b))
      go None is = tt
      go (Some b) is = (
        held-so (λ n. c.now ≤ n + late) line timer c.running (falls_at timer b) g.passed is,
        λ none. held-so (λ n. c.now < n) line timer c.running (falls_at timer b) (none-due c.running c.now g.in_order none) is,
      )

  -- and of the moment that is next
  not-sooner : (e : Expiry) (es : List Expiry) → AllByRecursion (λ x. is_before x e ≡ false) es → AllByRecursion (λ x. e.moment ≤ x.moment) es
  not-sooner e [] all = tt
  not-sooner e (x ∷ xs) all = (no_earlier x e all.0, not-sooner e xs all.1)

  not-begun : (timer : Timer) (m : Option Begun) → None ≡ due_by timer m → m ≡ None
  not-begun timer None is = refl
  not-begun timer (Some b) is = absurd (none-some (falls_at timer b) is)

  falls-due : (tolds : List Told) (e : Expiry) (m : Option Begun) → last_begun e.line e.timer tolds ≡ m → Some e.moment ≡ due_by e.timer m → IsFallingAt e.moment tolds
  falls-due tolds e None begun is = absurd (none-some e.moment (sym is))
  falls-due tolds e (Some b) begun is = (e.line, e.timer, b, begun, same_Some e.moment (falls_at e.timer b) is)

  first-next : (tolds : List Told) (ls : Lengths) (running : List Expiry) (now : ℕ) → Goes late lengths tolds (record { lengths = ls; running = running; now = now })
      → IsNextOf (first_moment running) tolds
  first-next tolds ls [] now g = λ line timer. not-begun timer (last_begun line timer tolds) (g.moments line timer)
  first-next tolds ls (e ∷ es) now g = (
    falls-due tolds e (last_begun e.line e.timer tolds) refl (sym (own-moment e es) ∙ g.moments e.line e.timer),
    λ line timer. least line timer (last_begun line timer tolds) (g.moments line timer),
  )
    where
      least : (line : ℕ) (timer : Timer) (m : Option Begun) → moment_of line timer (e ∷ es) ≡ due_by timer m → IfSome m (λ b. e.moment ≤ falls_at timer b)
      least line timer None is = tt
      least line timer (Some b) is = held-so (λ n. e.moment ≤ n) line timer (e ∷ es) (falls_at timer b) (omega arith, not-sooner e es g.in_order.0) is

-- A list of steps, among which lengths are set.
module _ {Card Event : Type 0} (k : Kind Card Event) where
  lengths_last : Lengths → List (Change Event) → Lengths
  lengths_last lengths [] = lengths
  lengths_last lengths (step s ∷ changes) = lengths_last lengths changes
  lengths_last lengths (set_lengths new ∷ changes) = lengths_last new changes

  all-go : (late : ℕ) (lengths : Lengths) (tolds : List Told) (t : Timed Card) (changes : List (Change Event)) → Goes late lengths tolds t.clock → ArePrompt k late changes t
      → Goes late (lengths_last lengths changes) (tolds ++ told_in k lengths changes t) (after_changes k changes t).clock
  unfolding after_changes told_in ArePrompt lengths_last
  all-go late lengths tolds t [] g prompt = subst (λ ts. Goes late lengths ts t.clock) (sym (append-nil tolds)) g
  all-go late lengths tolds t (step s ∷ changes) g prompt =
      subst (λ ts. Goes late (lengths_last lengths changes) ts (after_changes k changes (after k s t)).clock)
      (append_assoc tolds (map (while_set lengths) (said k s t)) (told_in k lengths changes (after k s t)))
      (all-go late lengths (tolds ++ map (while_set lengths) (said k s t)) (after k s t) changes (step-goes late lengths k tolds t s g prompt.0) prompt.1)
  all-go late lengths tolds t (set_lengths new ∷ changes) g prompt =
      all-go late new tolds (after_change k (set_lengths new) t) changes (lengths-go late lengths new tolds t.clock g) prompt.1

  -- The clock is where time went to last.
  fallen-on-time : (t : Timed Card) (o : Option Expiry) → (option_map_or (with_expiry k t) o t).clock.now ≡ t.clock.now
  fallen-on-time t None = refl
  fallen-on-time t (Some x) =
      let then = record t { clock = without_first t.clock } in now-stays (k.line (expiry_at k x)) then.clock (k.orders (expiry_at k x) then.card)

  step-on-time : (t : Timed Card) (s : Step Event) → (after k s t).clock.now ≡ gone_to t.clock.now s
  step-on-time t (happens e) = now-stays (k.line e) t.clock (k.orders e t.card)
  step-on-time t (time moment) = refl
  step-on-time t falls_due = fallen-on-time t (due t.clock)

  all-on-time : (changes : List (Change Event)) (t : Timed Card) → (after_changes k changes t).clock.now ≡ fold gone_by t.clock.now changes
  unfolding after_changes
  all-on-time [] t = refl
  all-on-time (step s ∷ changes) t = all-on-time changes (after k s t) ∙ ap (λ n. fold gone_by n changes) (step-on-time t s)
  all-on-time (set_lengths new ∷ changes) t = all-on-time changes (after_change k (set_lengths new) t)

  abbrev begun : Card → Lengths → Timed Card
  begun card lengths = record { card = card; clock = stopped lengths }

  all-went : (late : ℕ) (card : Card) (lengths : Lengths) (changes : List (Change Event)) → ArePrompt k late changes (begun card lengths)
      → Goes late (lengths_last lengths changes) (told_in k lengths changes (begun card lengths)) (after_changes k changes (begun card lengths)).clock
  all-went late card lengths changes prompt = all-go late lengths [] (begun card lengths) changes (begins late lengths) prompt

pub timers_keep_lengths : {Card Event : Type 0} (k : Kind Card Event) → TimersKeepLengths k
timers_keep_lengths k = record {
  moment = λ card lengths changes. all-on-time k changes (begun k card lengths);
  kept = λ card lengths late changes prompt.
      let u = after_changes k changes (begun k card lengths) in
      first-true late (lengths_last k lengths changes) (told_in k lengths changes (begun k card lengths)) u.clock.lengths u.clock.running u.clock.now (all-went k late card lengths changes prompt);
  none_late = λ card lengths late changes prompt.
      let u = after_changes k changes (begun k card lengths) in
      not-passed late (lengths_last k lengths changes) (told_in k lengths changes (begun k card lengths)) u.clock (all-went k late card lengths changes prompt);
  first = λ card lengths late changes prompt.
      let u = after_changes k changes (begun k card lengths) in
      first-next late (lengths_last k lengths changes) (told_in k lengths changes (begun k card lengths)) u.clock.lengths u.clock.running u.clock.now (all-went k late card lengths changes prompt);
}
