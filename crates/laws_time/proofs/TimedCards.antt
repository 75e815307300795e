-- A card that keeps its own timers is a card at which the same happens.
use Rattle.laws_time.proofs.Vocabulary.{All, All-from_recursion, AllByRecursion, ArePrompt, Bool, CallersClocksAreClocks, Clock, Expiry, IfSome, IsAsLarge, IsInOrder, IsNoExpiry, IsNoOctetsExpiry, Kind, Lengths, List, None, Option, Order, Ordering, Some, Start, Step, Stop, Timed, Timers, [], after_all, ap, arith, before_itself, clock_of, cond, count_by, count_by-put_in_order, drop, due, duration}
use Rattle.laws_time.proofs.Vocabulary.{expiry_at, expiry_of, falls_due, false, finds_place, first_due, fold, frames, in-order, is_before, is_lt, is_of, length, lengths-stay, nat_cmp, nat_le, nat_lt, nat_tests, no_earlier, none-some, not, now-stays, obey, obeyed, octets, option_map, option_map_or, option_to_list, ordering_then, refl, replicate, step_happens as happens, stopped, subst, suc}
use Rattle.laws_time.proofs.Vocabulary.{sum_by-cons, sum_by-filter_both, sym, time, timed_events_of as events_of, timer_cmp, true, with_expiry, with_order, without, without_first, zero, ℕ, ◌&&◌, ◌++◌, ◌+◌, ◌<◌, ◌==◌, ◌||◌, ◌∙◌, ◌∷◌, ◌≡◌, ◌≤◌}
use Rattle.model_line.specs.Event as line
use Rattle.model_card.specs.ports.Port as port
use Rattle.lapd_clock.specs.Timers as callers
use Rattle.model_timed.specs.Clock as own
use Rattle.model_timed.specs.Timed.{after}
use Rattle.lapd_clock.proofs.Vocabulary.{Timer}
use Rattle.model_timed.specs.TimersAreTrue.{length_of}
use Rattle.laws_time.specs.Cards.{IsACard, ServesAll, TimedCardsAreCards, MayHappen, MayHappenToOctets, is_expiry, is_octets_expiry, led_by, happened, MayGoOn}
use Rattle.laws_time.specs.DueFirst.{TheFirstFallsDue, by_timer, in_turn, is_lower}
use Rattle.laws_time.specs.FallingDue.{count_due, EachRuns, FallingDueEnds}

module _ {Card Event : Type 0} (k : Kind Card Event) where
  -- Before some steps a timer falls due, or none does.
  fallen : (steps : List (Step Event)) (t : Timed Card) → ((u : Timed Card) → ((after_all k steps u).card ≡ fold (led_by k.after) u.card (happened k k.expiry steps u))) → (d : Option Expiry)
      → let u = option_map_or (with_expiry k t) d t in (after_all k steps u).card
      ≡ fold (led_by k.after) t.card (option_to_list (option_map (λ (x : Expiry). k.expiry x.line x.timer) d) ++ happened k k.expiry steps u)
  fallen h t all h' = grind arith

  a-card : IsACard k k.after k.expiry
  unfolding after_all happened
  a-card [] t = refl
  a-card (happens e ∷ steps) t = a-card steps (after k (happens e) t)
  a-card (time moment ∷ steps) t = a-card steps (after k (time moment) t)
  a-card (falls_due ∷ steps) t = fallen steps t (λ u. a-card steps u) (due t.clock)

  -- Where what may happen, may happen by the kind.
  all-served : (May : Event → Card → Type 0) → ((e : Event) (card : Card) → May e card → k.MayHappen e card) → ServesAll k May
  unfolding after_all ArePrompt MayGoOn
  all-served May may late [] t go = tt
  all-served May may late (happens e ∷ steps) t go = (may e t.card go.0, all-served May may late steps (after k (happens e) t) go.1)
  all-served May may late (time moment ∷ steps) t go = ((go.0, go.1), all-served May may late steps (after k (time moment) t) go.2)
  all-served May may late (falls_due ∷ steps) t go = (tt, all-served May may late steps (after k falls_due t) go)

not-expired : (what : line.Event) → is_expiry what ≡ false → IsNoExpiry what
not-expired h is = grind arith

no-octets-expiry : (what : port.Event) → is_octets_expiry what ≡ false → IsNoOctetsExpiry what
no-octets-expiry h is = grind arith

pub timed-cards-are-cards : TimedCardsAreCards
timed-cards-are-cards = record {
  of_frames = a-card frames;
  of_octets = a-card octets;
  frames_go_on = all-served frames MayHappen (λ e card may. (may.0, not-expired e.what may.1));
  octets_go_on = all-served octets MayHappenToOctets (λ e m may. (may.0, no-octets-expiry e.what may.1));
  orders_of_frames = λ e card. refl;
  orders_of_octets = λ e m. refl;
  orders = λ t. refl;
  orders_pulled = λ value begun orders. refl;
  lengths = λ lengths c. refl;
  usual = refl;
  ranges = λ l. refl;
}

-- ---- a clock that a caller keeps is as that of a card: the law

module _ (c : Timers) (now : ℕ) where
  obeys : (line : ℕ) (order : Order) → clock_of (with_order c line order now) now ≡ cond (finds_place c line order) (obey line (clock_of c now) order) (clock_of c now)
  unfolding with_order finds_place
  obeys line h = grind arith

  -- its size stays
  as_large : (line : ℕ) (order : Order) → IsAsLarge c (with_order c line order now)
  unfolding with_order
  as_large line h = grind arith

  -- by what runs, the first of which is due or not
  due-is : (es : List Expiry) → callers.first_due es now ≡ option_map (λ (x : Expiry). (x.line, x.timer)) (own.first_due es now)
  due-is h = grind arith

  abbrev at : List Expiry → Clock
  at es = record { lengths = c.lengths; running = es; now = now }

  taken-is : (es : List Expiry) → at (callers.after_first_due es now) ≡ option_map_or (λ (x : Expiry). without_first (at es)) (own.first_due es now) (at es)
  taken-is h = grind arith

next-is : (es : List Expiry) → callers.first_moment es ≡ own.first_moment es
next-is h = grind arith

pub callers-clocks-are-clocks : CallersClocksAreClocks
unfolding finds_place
callers-clocks-are-clocks = record {
  begins = λ lengths lines terminals. refl;
  lines = λ lengths lines terminals. refl;
  places = λ lengths lines terminals. refl;
  usual = λ lines terminals. refl;
  found = λ c line timer. refl;
  stops = λ c line timer. refl;
  obeys = λ c line order now. obeys c now line order;
  due = λ c now. due-is c now c.running;
  taken = λ c now. taken-is c now c.running;
  next = λ c now. next-is c.running;
  lengths = λ c lengths now. refl;
  as_large_ordered = λ c line order now. as_large c now line order;
  as_large_taken = λ c now. (refl, refl);
  as_large_set = λ c new. (refl, refl);
}

-- ---- which timer falls due first: the law

-- A comparison of two numbers, alone or with another after it.
then-lower : (a b : ℕ) (o : Ordering) (rest : Bool) → is_lt o ≡ rest → is_lt (ordering_then (nat_cmp a b) o) ≡ (nat_lt a b || (a == b && rest))
then-lower a b o rest same = grind (arith, nat_tests)

timer-lower : (s t : Timer) → is_lt (timer_cmp s t) ≡ is_lower (by_timer s) (by_timer t)
timer-lower s t = grind arith

all-in-turn : (x : Expiry) (ys : List Expiry) → AllByRecursion (λ y. is_before y x ≡ false) ys → AllByRecursion (λ y. is_lower (in_turn y) (in_turn x) ≡ false) ys
all-in-turn x [] h = tt
all-in-turn x (y ∷ ys) h = (sym ((then-lower y.moment x.moment _ _ (then-lower y.line x.line (timer_cmp y.timer x.timer) _ (timer-lower y.timer x.timer)))) ∙ h.0, all-in-turn x ys h.1)

-- Those that run are always in order.
pub without-here : (es : List Expiry) → IsInOrder is_before es → IsInOrder is_before (drop 1 es)
without-here h h' = grind arith

module _ {Card Event : Type 0} (k : Kind Card Event) where
  fallen-here : (t : Timed Card) (d : Option Expiry) → IsInOrder is_before t.clock.running → IsInOrder is_before (option_map_or (with_expiry k t) d t).clock.running
  fallen-here t h h' = grind (arith, in-order, expiry_at, without_first, without-here)

  one-step : (t : Timed Card) (s : Step Event) → IsInOrder is_before t.clock.running → IsInOrder is_before (after k s t).clock.running
  one-step t h h' = grind (arith, in-order, fallen-here, due)

  pub all-steps : (steps : List (Step Event)) (t : Timed Card) → IsInOrder is_before t.clock.running → IsInOrder is_before (after_all k steps t).clock.running
  unfolding after_all
  all-steps [] t h = h
  all-steps (s ∷ steps) t h = all-steps steps (after k s t) (one-step t s h)

-- The first of them goes before all others.
first-of-all : (es : List Expiry) (now : ℕ) → IsInOrder is_before es → IfSome (first_due es now) (λ x. All (λ y. is_lower (in_turn y) (in_turn x) ≡ false) es)
first-of-all [] now h = tt
first-of-all (e ∷ es) now h = (elim (nat_le e.moment now) as (λ b. IfSome (cond b (Some e) None) (λ x. All (λ y. is_lower (in_turn y) (in_turn x) ≡ false) (e ∷ es))) [
  | true ↦ All-from_recursion (λ y. is_lower (in_turn y) (in_turn e) ≡ false) (e ∷ es) (all-in-turn e (e ∷ es) (before_itself e, h.0))
  | false ↦ tt
])

pub the-first-falls-due : {Card Event : Type 0} (k : Kind Card Event) → TheFirstFallsDue k
the-first-falls-due k card lengths steps =
    let u = after_all k steps (record { card = card; clock = stopped lengths }) in first-of-all u.clock.running u.clock.now (all-steps k steps (record { card = card; clock = stopped lengths }) tt)

-- ---- falling due ends: the law

abbrev pub come_by : ℕ → Expiry → Bool
come_by now x = nat_le x.moment now

abbrev pub counted : ℕ → List Expiry → ℕ
counted now es = count_by (come_by now) es

-- Orders make no more timers due.
pub same-length : (lengths : Lengths) (timer : Timer) → duration lengths timer ≡ length_of lengths timer
same-length lengths timer = grind arith

fewer-without : (now line : ℕ) (timer : Timer) (es : List Expiry) → counted now (without line timer es) ≤ counted now es
fewer-without now line timer es = omega (arith, sum_by-filter_both (λ x. not (is_of line timer x)) (λ x. not (not (is_of line timer x))) (λ _. refl) (λ x. cond (come_by now x) 1 0) es)

is-later : (now moment : ℕ) → now < moment → nat_le moment now ≡ false
is-later now moment later = grind (arith, nat_tests)

by-start : (line : ℕ) (c : Clock) (timer : Timer) → EachRuns c.lengths → counted c.now (obey line c (Start timer)).running ≤ counted c.now c.running
by-start line c timer runs =
    let long : 1 ≤ duration c.lengths timer = subst (λ n. 1 ≤ n) (sym (same-length c.lengths timer)) (runs timer) in
    omega (
      arith,
      count_by-put_in_order is_before (come_by c.now) (expiry_of line timer c) (without line timer c.running)
          ∙ ap (λ b. cond b 1 0 + counted c.now (without line timer c.running)) (is-later c.now (c.now + duration c.lengths timer) (omega (arith, long))),
      fewer-without c.now line timer c.running,
    )

pub by-orders : (line : ℕ) (c : Clock) (orders : List Order) → EachRuns c.lengths → counted c.now (obeyed line orders c).running ≤ counted c.now c.running
by-orders line c [] runs = omega arith
by-orders line c (Start timer ∷ orders) runs = omega (arith, by-orders line (obey line c (Start timer)) orders runs, by-start line c timer runs)
by-orders line c (Stop timer ∷ orders) runs = omega (arith, by-orders line (obey line c (Stop timer)) orders runs, fewer-without c.now line timer c.running)

-- What falls due was due, and is so no more.
pub first-counts : (es : List Expiry) (now : ℕ) (x : Expiry) → first_due es now ≡ Some x → counted now (drop 1 es) + 1 ≡ counted now es
first-counts [] now x is = absurd (none-some x is)
first-counts (e ∷ es) now x is =
    (elim (come_by now e) as (λ b. come_by now e ≡ b → cond b (Some e) None ≡ Some x → counted now es + 1 ≡ counted now (e ∷ es)) [
      | true ↦ λ come _. omega (arith, sum_by-cons (λ y. cond (come_by now y) 1 0) e es ∙ ap (λ b. cond b 1 0 + counted now es) come)
      | false ↦ λ _ none. absurd (none-some x none)
    ]) refl is

none-first : (es : List Expiry) (now : ℕ) → counted now es ≤ 0 → first_due es now ≡ None
none-first [] now none = refl
none-first (e ∷ es) now none =
    (elim (come_by now e) as (λ b. come_by now e ≡ b → cond b (Some e) None ≡ None) [
      | true ↦ λ come. absurd (omega (arith, none, sum_by-cons (λ y. cond (come_by now y) 1 0) e es ∙ ap (λ b. cond b 1 0 + counted now es) come))
      | false ↦ λ _. refl
    ]) refl

-- If none is due of timers in order, all are later.
all-later : (e : Expiry) (es : List Expiry) (now : ℕ) → now < e.moment → AllByRecursion (λ x. is_before x e ≡ false) es → AllByRecursion (λ x. now < x.moment) es
all-later e [] now after all = tt
all-later e (x ∷ xs) now after all = (omega (arith, after, no_earlier x e all.0), all-later e xs now after all.1)

pub none-come : (es : List Expiry) (now : ℕ) → IsInOrder is_before es → first_due es now ≡ None → AllByRecursion (λ x. now < x.moment) es
none-come [] now sorted none = tt
none-come (e ∷ es) now sorted none =
    (elim (come_by now e) as (λ b. come_by now e ≡ b → cond b (Some e) None ≡ None → AllByRecursion (λ x. now < x.moment) (e ∷ es)) [
      | true ↦ λ _ some. absurd (none-some e (sym some))
      | false ↦ λ not_yet _. (not-yet not_yet, all-later e es now (not-yet not_yet) sorted.0)
    ]) refl none
  where
    not-yet : come_by now e ≡ false → now < e.moment
    not-yet h = grind (arith, nat_tests)

pub none-counted : (es : List Expiry) (now : ℕ) → IsInOrder is_before es → counted now es ≤ 0 → AllByRecursion (λ x. now < x.moment) es
none-counted es now sorted none = none-come es now sorted (none-first es now none)

-- Of timers that are later none is due.
pub later-none : (es : List Expiry) (now : ℕ) → AllByRecursion (λ x. now < x.moment) es → counted now es ≡ 0
later-none [] now all = refl
later-none (e ∷ es) now all = omega (arith, sum_by-cons (λ y. cond (come_by now y) 1 0) e es ∙ ap (λ b. cond b 1 0 + counted now es) (is-later now e.moment all.0), later-none es now all.1)

module _ {Card Event : Type 0} (k : Kind Card Event) where
  -- An expiry leaves the moment and the lengths, and fewer timers due.
  expired-now : (t : Timed Card) (x : Expiry) → (with_expiry k t x).clock.now ≡ t.clock.now
  expired-now t x = now-stays (k.line (expiry_at k x)) (without_first t.clock) (k.orders (expiry_at k x) t.card)

  still-runs : (t : Timed Card) (x : Expiry) → EachRuns t.clock.lengths → EachRuns (with_expiry k t x).clock.lengths
  still-runs t x runs = subst EachRuns (sym (lengths-stay (k.line (expiry_at k x)) (without_first t.clock) (k.orders (expiry_at k x) t.card))) runs

  expired-fewer : (t : Timed Card) (x : Expiry) → EachRuns t.clock.lengths → due t.clock ≡ Some x → count_due (with_expiry k t x).clock < count_due t.clock
  expired-fewer t x runs is = grind (arith, expired-now, by-orders, first-counts)

  fewer : (t : Timed Card) → EachRuns t.clock.lengths → IfSome (due t.clock) (λ x. count_due (after k falls_due t).clock < count_due t.clock)
  fewer t runs =
      (elim (due t.clock) as (λ d. due t.clock ≡ d → IfSome d (λ x. count_due (option_map_or (with_expiry k t) d t).clock < count_due t.clock)) [
        | None ↦ λ _. tt
        | Some x ↦ λ is. expired-fewer t x runs is
      ]) refl

  -- However often what is due falls due.
  bounded : (n : ℕ) (t : Timed Card) → EachRuns t.clock.lengths → length (events_of k (replicate n falls_due) t) ≤ count_due t.clock
  unfolding events_of
  bounded zero t runs = omega arith
  bounded (suc n) t runs =
      (elim (due t.clock) as (λ d. due t.clock ≡ d
      → length (option_to_list (option_map (expiry_at k) d) ++ events_of k (replicate n falls_due) (option_map_or (with_expiry k t) d t)) ≤ count_due t.clock) [
        | None ↦ λ _. bounded n t runs
        | Some x ↦ λ is. omega (arith, bounded n (with_expiry k t x) (still-runs t x runs), expired-fewer t x runs is)
      ]) refl

  -- Once none is due, nothing happens.
  stays : (n : ℕ) (t : Timed Card) → due t.clock ≡ None → after_all k (replicate n falls_due) t ≡ t
  unfolding after_all
  stays zero t none = refl
  stays (suc n) t none = ap (λ d. after_all k (replicate n falls_due) (option_map_or (with_expiry k t) d t)) none ∙ stays n t none

  none-due : (n : ℕ) (t : Timed Card) → EachRuns t.clock.lengths → count_due t.clock ≤ n → due (after_all k (replicate n falls_due) t).clock ≡ None
  unfolding after_all
  none-due zero t runs few = none-first t.clock.running t.clock.now few
  none-due (suc n) t runs few =
      (elim (due t.clock) as (λ d. due t.clock ≡ d → due (after_all k (replicate n falls_due) (option_map_or (with_expiry k t) d t)).clock ≡ None) [
        | None ↦ λ none. ap (λ u. due u.clock) (stays n t none) ∙ none
        | Some x ↦ λ is. none-due n (with_expiry k t x) (still-runs t x runs) (omega (arith, few, expired-fewer t x runs is))
      ]) refl

  -- The moment stays where it was.
  fallen-now : (t : Timed Card) (d : Option Expiry) → (option_map_or (with_expiry k t) d t).clock.now ≡ t.clock.now
  fallen-now t d = grind (arith, expired-now)

  same-now : (n : ℕ) (t : Timed Card) → (after_all k (replicate n falls_due) t).clock.now ≡ t.clock.now
  unfolding after_all
  same-now zero t = refl
  same-now (suc n) t = same-now n (after k falls_due t) ∙ fallen-now t (due t.clock)

  later : (u : Timed Card) (n : ℕ) → IsInOrder is_before u.clock.running → EachRuns u.clock.lengths → count_due u.clock ≤ n
      → AllByRecursion (λ (x : Expiry). u.clock.now < x.moment) (after_all k (replicate n falls_due) u).clock.running
  later u n sorted runs few = grind (arith, same-now, none-come, all-steps, none-due)

pub falling-due-ends : {Card Event : Type 0} (k : Kind Card Event) → FallingDueEnds k
falling-due-ends k n t runs = record {
  fewer = fewer k t runs;
  bounded = bounded k n t runs;
  none_due = none-due k n t runs;
  later = λ card lengths steps from few.
      All-from_recursion (λ x. t.clock.now < x.moment) (after_all k (replicate n falls_due) t).clock.running
      (later k t n (subst (λ u. IsInOrder is_before u.clock.running) (sym from) (all-steps k steps (record { card = card; clock = stopped lengths }) tt)) runs few);
}
