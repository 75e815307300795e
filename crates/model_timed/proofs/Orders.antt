-- What orders make of the moments of a clock.
use Rattle.lapd_clock.proofs.Vocabulary.{◌≡◌, ℕ, ◌+◌, ◌==◌, ◌&&◌, ◌||◌, not, Bool, true, false, cond, List, [], ◌∷◌, Some, None, refl, sym, ap, ◌∙◌, subst, arith, nat_tests, AllByRecursion, Timer, Order, Start, Stop, is_same, duration, Expiry, Timers, is_before, is_of, is_held, without, count_on, IsInOrder, IsOneEach, moment_of, eq_by_cmp_equiv}
use Rattle.std.specs.Prelude.{is_some}
use Rattle.lapd_clock.specs.Timers.{with_expiry, with_order, finds_place}
use Rattle.lapd_clock.proofs.OneMoved.{start_moves_one, stop_moves_one}
use Rattle.lapd_clock.proofs.Ordered.{All-filter, All-put_in_order, IsInOrder-filter, IsInOrder-put_in_order}
use Rattle.lapd_clock.proofs.Running.{IsOneEach-filter, IsOneEach-put_in_order, none_of-without}
use Rattle.lapd_clock.proofs.TimerOrder.{before_order, same_timer, timer_total}
use Rattle.model_timed.specs.Clock.{Clock, expiry_of, obey, obeyed}

-- A clock of lapd_clock that has a place left.
abbrev roomy : ℕ → Clock → Timers
roomy line c = record { lines = 0; places = count_on line c.running + 1; lengths = c.lengths; running = c.running }

place : (line : ℕ) (timer : Timer) (c : Clock) → finds_place (roomy line c) line (Start timer) ≡ true
unfolding finds_place
place line timer c = grind arith

same-list : (line : ℕ) (timer : Timer) (c : Clock) → (with_order (roomy line c) line (Start timer) c.now).running ≡ (obey line c (Start timer)).running
unfolding with_order
same-list line timer c =
    ap (λ b. (cond {A = Timers} b (record (roomy line c) { running = with_expiry (expiry_of line timer c) (without line timer c.running) }) (roomy line c)).running) (place line timer c)

started : (line : ℕ) (timer : Timer) (c : Clock) → moment_of line timer (obey line c (Start timer)).running ≡ Some (c.now + duration c.lengths timer)
started line timer c = ap (moment_of line timer) (sym (same-list line timer c)) ∙ (start_moves_one (roomy line c) line timer c.now (place line timer c)).own

started-others : (line : ℕ) (timer : Timer) (c : Clock) (l : ℕ) (t : Timer) → (line == l && is_same timer t) ≡ false
    → moment_of l t (obey line c (Start timer)).running ≡ moment_of l t c.running
started-others line timer c l t apart =
    ap (moment_of l t) (sym (same-list line timer c)) ∙ (start_moves_one (roomy line c) line timer c.now (place line timer c)).others l t apart

ended : (line : ℕ) (timer : Timer) (c : Clock) → moment_of line timer (obey line c (Stop timer)).running ≡ None
unfolding with_order
ended line timer c = (stop_moves_one (roomy line c) line timer c.now).own

ended-others : (line : ℕ) (timer : Timer) (c : Clock) (l : ℕ) (t : Timer) → (line == l && is_same timer t) ≡ false
    → moment_of l t (obey line c (Stop timer)).running ≡ moment_of l t c.running
unfolding with_order
ended-others line timer c l t apart = (stop_moves_one (roomy line c) line timer c.now).others l t apart

-- equal lines and timers
pub both : (a b : Bool) → (a && b) ≡ true → (a ≡ true) × (b ≡ true)
both a b e = grind arith

pub same-number : (k l : ℕ) → (k == l) ≡ true → k ≡ l
same-number k l e = grind (arith, nat_tests)

pub equal : (a b : Timer) → is_same a b ≡ true → a ≡ b
equal a b e = grind (arith, same_timer)

pub itself : (a : Timer) → is_same a a ≡ true
itself a = (eq_by_cmp_equiv timer_total).refl a

-- A timer that is started has one moment, one that is stopped none, and each other the one that it had.
pub start-moves : (line : ℕ) (timer : Timer) (c : Clock) (l : ℕ) (t : Timer)
    → moment_of l t (obey line c (Start timer)).running ≡ cond (line == l && is_same timer t) (Some (c.now + duration c.lengths t)) (moment_of l t c.running)
start-moves line timer c l t =
    (elim (line == l && is_same timer t) as (λ b. (line == l && is_same timer t) ≡ b
    → moment_of l t (obey line c (Start timer)).running ≡ cond b (Some (c.now + duration c.lengths t)) (moment_of l t c.running)) [
      | true ↦ λ h. let split = both (line == l) (is_same timer t) h in
          subst (λ n. moment_of n t (obey line c (Start timer)).running ≡ Some (c.now + duration c.lengths t)) (same-number line l split.0)
          (subst (λ x. moment_of line x (obey line c (Start timer)).running ≡ Some (c.now + duration c.lengths x)) (equal timer t split.1) (started line timer c))
      | false ↦ λ h. started-others line timer c l t h
    ]) refl

pub stop-moves : (line : ℕ) (timer : Timer) (c : Clock) (l : ℕ) (t : Timer)
    → moment_of l t (obey line c (Stop timer)).running ≡ cond (line == l && is_same timer t) None (moment_of l t c.running)
stop-moves line timer c l t =
    (elim (line == l && is_same timer t) as (λ b. (line == l && is_same timer t) ≡ b
    → moment_of l t (obey line c (Stop timer)).running ≡ cond b None (moment_of l t c.running)) [
      | true ↦ λ h. let split = both (line == l) (is_same timer t) h in
          subst (λ n. moment_of n t (obey line c (Stop timer)).running ≡ None) (same-number line l split.0)
          (subst (λ x. moment_of line x (obey line c (Stop timer)).running ≡ None) (equal timer t split.1) (ended line timer c))
      | false ↦ λ h. ended-others line timer c l t h
    ]) refl

-- What orders leave: the moment and the lengths, the order of the timers, and each timer once.
pub now-stays : (line : ℕ) (c : Clock) (orders : List Order) → (obeyed line orders c).now ≡ c.now
now-stays line c [] = refl
now-stays line c (Start timer ∷ orders) = now-stays line (obey line c (Start timer)) orders
now-stays line c (Stop timer ∷ orders) = now-stays line (obey line c (Stop timer)) orders

pub lengths-stay : (line : ℕ) (c : Clock) (orders : List Order) → (obeyed line orders c).lengths ≡ c.lengths
lengths-stay line c [] = refl
lengths-stay line c (Start timer ∷ orders) = lengths-stay line (obey line c (Start timer)) orders
lengths-stay line c (Stop timer ∷ orders) = lengths-stay line (obey line c (Stop timer)) orders

pub in-order : (line : ℕ) (c : Clock) (orders : List Order) → IsInOrder is_before c.running → IsInOrder is_before (obeyed line orders c).running
in-order line c [] h = h
in-order line c (Start timer ∷ orders) h =
    in-order line (obey line c (Start timer)) orders
    (IsInOrder-put_in_order is_before before_order (expiry_of line timer c) (without line timer c.running) (IsInOrder-filter is_before before_order (λ e. not (is_of line timer e)) c.running h))
in-order line c (Stop timer ∷ orders) h =
    in-order line (obey line c (Stop timer)) orders (IsInOrder-filter is_before before_order (λ e. not (is_of line timer e)) c.running h)

pub one-each : (line : ℕ) (c : Clock) (orders : List Order) → IsOneEach c.running → IsOneEach (obeyed line orders c).running
one-each line c [] h = h
one-each line c (Start timer ∷ orders) h =
    one-each line (obey line c (Start timer)) orders
    (IsOneEach-put_in_order (expiry_of line timer c) (without line timer c.running) (none_of-without line timer c.running) (IsOneEach-filter (λ e. not (is_of line timer e)) c.running h))
one-each line c (Stop timer ∷ orders) h =
    one-each line (obey line c (Stop timer)) orders (IsOneEach-filter (λ e. not (is_of line timer e)) c.running h)

-- What holds of all that run, and of what falls due from now on, holds of all that run after orders.
pub all-run : (P : Expiry → Type 0) (line : ℕ) (c : Clock) (orders : List Order) → ((timer : Timer) → P (record { moment = c.now + duration c.lengths timer; line = line; timer = timer }))
    → AllByRecursion P c.running → AllByRecursion P (obeyed line orders c).running
all-run P line c [] new h = h
all-run P line c (Start timer ∷ orders) new h =
    all-run P line (obey line c (Start timer)) orders new
    (All-put_in_order is_before P (expiry_of line timer c) (without line timer c.running) (new timer) (All-filter P (λ e. not (is_of line timer e)) c.running h))
all-run P line c (Stop timer ∷ orders) new h =
    all-run P line (obey line c (Stop timer)) orders new (All-filter P (λ e. not (is_of line timer e)) c.running h)

-- Which timers run: those that have a moment.
pub held-is : (line : ℕ) (timer : Timer) (es : List Expiry) → is_held line timer es ≡ is_some (moment_of line timer es)
held-is line timer [] = refl
held-is line timer (e ∷ es) =
    (elim (is_of line timer e) as (λ b. (b || is_held line timer es) ≡ is_some (cond b (Some e.moment) (moment_of line timer es))) [
      | true ↦ refl
      | false ↦ held-is line timer es
    ])
