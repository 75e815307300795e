-- What the calls do to a set of running timers.
use Rattle.lapd_clock.proofs.Vocabulary.{◌≡◌, ℕ, ◌+◌, ◌<◌, ◌≤◌, Bool, true, false, cond, not, ◌||◌, ◌==◌, nat_lt, nat_le, List, [], ◌∷◌, filter, refl, sym, ap, ◌∙◌, arith, AllByRecursion, false≢true, nat_tests, All-from_recursion, recursion_from_All, put_in_order, Timer, Lengths, AreInRange, Order, Start, Stop, duration, is_same, Expiry, Timers, is_before, is_of, is_held, without, count_on}
use Rattle.lapd_clock.proofs.Vocabulary.{finds_place, with_order, after_first_due, IsSound, IsOneEach, sum_by-filter_both, All-weaker, filter_passes}
use Rattle.lapd_clock.proofs.Ordered.{by_place, IsInOrder-put_in_order, IsInOrder-filter, All-put_in_order, All-filter, count_by-put_in_order, count_by-cons}
use Rattle.lapd_clock.proofs.TimerOrder.{before_order, is_same_both_ways}

-- taking a timer out frees its place, if it has one
count_on-without : (line : ℕ) (timer : Timer) (l : ℕ) (es : List Expiry) → count_on l (without line timer es) ≤ count_on l es
count_on-without line timer l es =
    omega (arith, sum_by-filter_both (λ e. not (is_of line timer e)) (λ e. not (not (is_of line timer e))) (λ _. refl) (λ e. cond (e.line == l) 1 0) es)

pub count_on-held : (line : ℕ) (timer : Timer) (es : List Expiry) → is_held line timer es ≡ true → count_on line (without line timer es) < count_on line es
count_on-held line timer [] = λ h. absurd (false≢true h)
count_on-held line timer (e ∷ es) =
    (elim (is_of line timer e) as (λ b. is_of line timer e ≡ b → (b || is_held line timer es) ≡ true → count_on line (cond (not b) (e ∷ without line timer es) (without line timer es)) < count_on line (e ∷ es)) [
      | true ↦ λ of _. let on : (e.line == line) ≡ true = grind (arith, nat_tests) in
          let counted : count_on line (e ∷ es) ≡ 1 + count_on line es = count_by-cons (λ x. x.line == line) e es ∙ ap (λ b. cond b 1 0 + count_on line es) on in
          omega (arith, counted, count_on-without line timer line es)
      | false ↦ λ _ h. omega (arith, count_by-cons (λ x. x.line == line) e es, count_by-cons (λ x. x.line == line) e (without line timer es), count_on-held line timer es h)
    ]) refl

pub without-not_held : (line : ℕ) (timer : Timer) (es : List Expiry) → is_held line timer es ≡ false → without line timer es ≡ es
without-not_held line timer [] = λ _. refl
without-not_held line timer (e ∷ es) =
    (elim (is_of line timer e) as (λ b. (b || is_held line timer es) ≡ false → cond (not b) (e ∷ without line timer es) (without line timer es) ≡ e ∷ es) [
      | true ↦ λ h. absurd (false≢true (sym h))
      | false ↦ λ h. ap (λ l. e ∷ l) (without-not_held line timer es h)
    ])

-- a timer finds its place exactly where the line is not full without it
pub finds_place-without : (c : Timers) (line : ℕ) (timer : Timer) → count_on line c.running ≤ c.places → finds_place c line (Start timer) ≡ not (count_on line (without line timer c.running) == c.places)
unfolding finds_place
finds_place-without c line timer o = grind (arith, nat_lt, count_on-held, nat_tests, without-not_held)

-- ---- what holds of every clock

pub IsOneEach-filter : (p : Expiry → Bool) (es : List Expiry) → IsOneEach es → IsOneEach (filter p es)
IsOneEach-filter p [] h = tt
IsOneEach-filter p (e ∷ es) h = grind (arith, All-filter, (IsOneEach-filter p es h.1))

pub other_way : (a b : Expiry) → is_of a.line a.timer b ≡ false → is_of b.line b.timer a ≡ false
other_way a b h = grind (arith, is_same_both_ways, is_same, nat_tests)

pub IsOneEach-put_in_order : (e : Expiry) (es : List Expiry) → AllByRecursion (λ other. is_of e.line e.timer other ≡ false) es → IsOneEach es → IsOneEach (put_in_order is_before e es)
IsOneEach-put_in_order e [] others h = (tt, tt)
IsOneEach-put_in_order e (x ∷ xs) others h =
    by_place is_before e x xs IsOneEach
    (λ _. (All-put_in_order is_before (λ other. is_of x.line x.timer other ≡ false) e xs (other_way e x others.0) h.0, IsOneEach-put_in_order e xs others.1 h.1))
    (λ _. (others, h))

pub none_of-without : (line : ℕ) (timer : Timer) (es : List Expiry) → AllByRecursion (λ other. is_of line timer other ≡ false) (without line timer es)
none_of-without line timer es =
    grind (arith, recursion_from_All, All-weaker, is_false, filter_passes)
  where
    is_false : (b : Bool) → not b ≡ true → b ≡ false
    is_false b h = grind arith

without_sound : (c : Timers) (line : ℕ) (timer : Timer) → IsSound c → IsSound (record c { running = without line timer c.running })
without_sound c line timer h = record {
  in_order = IsInOrder-filter is_before before_order _ c.running h.in_order;
  one_each = IsOneEach-filter _ c.running h.one_each;
  on_lines = All-from_recursion (λ e. e.line < c.lines) _ (All-filter (λ e. e.line < c.lines) _ c.running (recursion_from_All (λ e. e.line < c.lines) c.running h.on_lines));
  in_places = λ l. omega (arith, count_on-without line timer l c.running, h.in_places l);
  lengths = h.lengths;
}

one_more_fits : (line l : ℕ) (f : ℕ → ℕ) (places : ℕ) → f line < places → f l ≤ places → cond (line == l) 1 0 + f l ≤ places
one_more_fits line l f places less o = grind (arith, nat_tests)

room : (n places : ℕ) → n ≤ places → not (n == places) ≡ true → n < places
room n places fits h = grind (arith, nat_tests)

-- one more, which is not held, and has a place
pub one_more_sound : (c : Timers) (e : Expiry) → e.line < c.lines → AllByRecursion (λ other. is_of e.line e.timer other ≡ false) c.running → count_on e.line c.running < c.places
    → IsSound c → IsSound (record c { running = put_in_order is_before e c.running })
one_more_sound c e within others less h = record {
  in_order = IsInOrder-put_in_order is_before before_order e _ h.in_order;
  one_each = IsOneEach-put_in_order e _ others h.one_each;
  on_lines = All-from_recursion (λ x. x.line < c.lines) _ (All-put_in_order is_before (λ x. x.line < c.lines) e _ within (recursion_from_All (λ x. x.line < c.lines) _ h.on_lines));
  in_places = λ l. rw (count_by-put_in_order is_before (λ x. x.line == l) e c.running) (one_more_fits e.line l (λ k. count_on k c.running) c.places less (h.in_places l));
  lengths = h.lengths;
}

pub with_order_sound : (c : Timers) (line : ℕ) (order : Order) (now : ℕ) → line < c.lines → IsSound c → IsSound (with_order c line order now)
unfolding with_order
with_order_sound c line (Stop timer) now within h = without_sound c line timer h
with_order_sound c line (Start timer) now within h =
    let rest = without_sound c line timer h in
    let e : Expiry = record { moment = now + duration c.lengths timer; line = line; timer = timer } in
    (elim (finds_place c line (Start timer)) as (λ b. finds_place c line (Start timer) ≡ b → IsSound (cond b (record c { running = put_in_order is_before e (without line timer c.running) }) c)) [
      | true ↦ λ found.
          one_more_sound (record c { running = without line timer c.running }) e within (none_of-without line timer c.running)
          (room (count_on line (without line timer c.running)) c.places (rest.in_places line) (sym (finds_place-without c line timer (h.in_places line)) ∙ found)) rest
      | false ↦ λ _. h
    ]) refl

pub none_sound : (ls : Lengths) (lines places : ℕ) → AreInRange ls → IsSound (record { lines = lines; places = places; lengths = ls; running = [] })
none_sound ls lines places range = grind arith

rest_sound : (ls : Lengths) (lines places : ℕ) (e : Expiry) (es : List Expiry) → IsSound (record { lines = lines; places = places; lengths = ls; running = e ∷ es }) → IsSound (record { lines = lines; places = places; lengths = ls; running = es })
rest_sound ls lines places e es h = record {
  lengths = h.lengths;
  in_order = h.in_order.1;
  one_each = h.one_each.1;
  on_lines = All-from_recursion (λ x. x.line < lines) es (recursion_from_All (λ x. x.line < lines) (e ∷ es) h.on_lines).1;
  in_places = λ l. omega (arith, h.in_places l, count_by-cons (λ x. x.line == l) e es);
}

pub after_due_sound : (ls : Lengths) (lines places : ℕ) (es : List Expiry) (now : ℕ) → IsSound (record { lines = lines; places = places; lengths = ls; running = es }) → IsSound (record { lines = lines; places = places; lengths = ls; running = after_first_due es now })
after_due_sound ls lines places [] now h = h
after_due_sound ls lines places (e ∷ es) now h =
    elim (nat_le e.moment now) as (λ b. IsSound (record { lines = lines; places = places; lengths = ls; running = cond b es (e ∷ es) })) [
      | true ↦ rest_sound ls lines places e es h
      | false ↦ h
    ]

-- an order that finds no place changes nothing
pub refused_unchanged : (c : Timers) (line : ℕ) (order : Order) (now : ℕ) → finds_place c line order ≡ false → with_order c line order now ≡ c
unfolding with_order finds_place
refused_unchanged c line order now h = grind arith
