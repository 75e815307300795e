-- A clock whose timers run at places: whether a timer finds one, and what an order does.
use Rattle.lapd_clock.proofs.Vocabulary.{◌≡◌, ℕ, zero, suc, ◌+◌, ◌-◌, ◌*◌, ◌/◌, ◌^◌, ◌<◌, ◌≤◌, ◌==◌, ◌||◌, Bool, true, false, cond, min, nat_lt, List, [], ◌∷◌, length, filter, count_by, drop, set, get_or-drop, length-set, length-drop, refl, sym, ap, ◌∙◌, subst, arith, nat_tests, inl, inr, AllByRecursion}
use Rattle.lapd_clock.proofs.Vocabulary.{Timer, Lengths, Order, Start, Stop, duration, Expiry, Timers, after_due, due_at, first_due, is_before, without, count_on, finds_place, with_order, never, put_in_order, IsSound, Held, expiry_on}
use Rattle.std.specs.Prelude.{Option, None, Some, IfSome, IfNone}
use Rattle.std.proofs.Math.Nat.{div-mul-le_self, lt-div-mul-add}
use Rattle.lapd_clock.specs.Kept.{clock_of, IsKept}
use Rattle.lapd_clock.specs.OwnPlaces.{at, is_full, is_nowhere, is_running, timers_in, with_timer, without_timer, IsPlaceFor, IsTaken, RestsAt, RunsAt}
use Rattle.lapd_clock.specs.Restoring.{with_held}
use Rattle.lapd_clock.proofs.Bounds.{before_end, its-line}
use Rattle.lapd_clock.proofs.Calls.{after-last, due-last, left}
use Rattle.lapd_clock.proofs.First.{All-in_order}
use Rattle.lapd_clock.proofs.Ordered.{count_by-cons}
use Rattle.lapd_clock.proofs.OwnPlace.{its-place, none_held, runs-held, started_in_place, stopped_in_place, stopped_nowhere}
use Rattle.lapd_clock.proofs.Running.{after_due_sound, one_more_sound, with_order_sound}
use Rattle.lapd_clock.proofs.Standing.{none_left, rests, runs}
use Rattle.lapd_clock.proofs.StandsFor.{count_by-in_order}

-- ---- how many timers of a line run

count-own : (p : Expiry → Bool) (n : ℕ) (es : List Expiry) → n ≤ length es → ((i : ℕ) → i < n → p (at i es) ≡ true) → count_by p es ≡ n + count_by p (drop n es)
count-own p zero es within own = omega arith
count-own p (suc n) [] within own = absurd (omega (arith, within))
count-own p (suc n) (e ∷ es) within own =
    count_by-cons p e es ∙ ap (λ b. cond b 1 0 + count_by p es) (own 0 (omega arith)) ∙ omega (arith, count-own p n es (omega (arith, within)) (λ i less. own (suc i) (omega (arith, less))))

count-others : (p : Expiry → Bool) (n : ℕ) (es : List Expiry) → n ≤ length es → ((i : ℕ) → i < n → p (at i es) ≡ false) → count_by p es ≡ count_by p (drop n es)
count-others p zero es within others = refl
count-others p (suc n) [] within others = absurd (omega (arith, within))
count-others p (suc n) (e ∷ es) within others =
    count_by-cons p e es ∙ ap (λ b. cond b 1 0 + count_by p es) (others 0 (omega arith)) ∙ omega (arith, count-others p n es (omega (arith, within)) (λ i less. others (suc i) (omega (arith, less))))

count-none : (p : Expiry → Bool) (es : List Expiry) → ((i : ℕ) → i < length es → p (at i es) ≡ false) → count_by p es ≡ 0
count-none p [] others = refl
count-none p (e ∷ es) others =
    count_by-cons p e es ∙ ap (λ b. cond b 1 0 + count_by p es) (others 0 (omega arith)) ∙ omega (arith, count-none p es (λ i less. others (suc i) (omega (arith, less))))

-- of those that a filter leaves
left-most : (p r : Expiry → Bool) (es : List Expiry) → count_by p (filter r es) ≤ count_by p es
left-most p r [] = omega arith
left-most p r (e ∷ es) =
    elim (r e) as (λ b. count_by p (cond b (e ∷ filter r es) (filter r es)) ≤ count_by p (e ∷ es)) [
      | true ↦ omega (arith, count_by-cons p e es, count_by-cons p e (filter r es), left-most p r es)
      | false ↦ omega (arith, count_by-cons p e es, left-most p r es)
    ]

left-less : (p r : Expiry → Bool) (es : List Expiry) (i : ℕ) → i < length es → p (at i es) ≡ true → r (at i es) ≡ false → count_by p (filter r es) < count_by p es
left-less p r [] i within own out = absurd (omega (arith, within))
left-less p r (e ∷ es) zero within own out =
    let counted : count_by p (e ∷ es) ≡ 1 + count_by p es = count_by-cons p e es ∙ ap (λ b. cond b 1 0 + count_by p es) own in
    subst (λ b. count_by p (cond b (e ∷ filter r es) (filter r es)) < count_by p (e ∷ es)) (sym out) (omega (arith, counted, left-most p r es))
left-less p r (e ∷ es) (suc i) within own out =
    elim (r e) as (λ b. count_by p (cond b (e ∷ filter r es) (filter r es)) < count_by p (e ∷ es)) [
      | true ↦ omega (arith, count_by-cons p e es, count_by-cons p e (filter r es), left-less p r es i (omega (arith, within)) own out)
      | false ↦ omega (arith, count_by-cons p e es, left-less p r es i (omega (arith, within)) own out)
    ]

left-all : (p r : Expiry → Bool) (es : List Expiry) → ((i : ℕ) → i < length es → p (at i es) ≡ true → r (at i es) ≡ true) → count_by p (filter r es) ≡ count_by p es
left-all p r [] all = refl
left-all p r (e ∷ es) all =
    let rest = left-all p r es (λ i less. all (suc i) (omega (arith, less))) in
    (elim (p e) as (λ b. p e ≡ b → count_by p (filter r (e ∷ es)) ≡ count_by p (e ∷ es)) [
      | true ↦ λ own. ap (λ b. count_by p (cond b (e ∷ filter r es) (filter r es))) (all 0 (omega arith) own) ∙ count_by-cons p e (filter r es) ∙ ap (λ n. cond (p e) 1 0 + n) rest ∙ sym (count_by-cons p e es)
      | false ↦ λ own.
          let out : count_by p (e ∷ es) ≡ count_by p es = not-counted e es own in
          (elim (r e) as (λ b. count_by p (cond b (e ∷ filter r es) (filter r es)) ≡ count_by p (e ∷ es)) [
            | true ↦ not-counted e (filter r es) own ∙ rest ∙ sym out
            | false ↦ rest ∙ sym out
          ])
    ]) refl
  where
    not-counted : (x : Expiry) (xs : List Expiry) → p x ≡ false → count_by p (x ∷ xs) ≡ count_by p xs
    not-counted x xs own = count_by-cons p x xs ∙ ap (λ b. cond b 1 0 + count_by p xs) own ∙ omega arith

equals : (a b : ℕ) → a ≡ b → (a == b) ≡ true
equals a b is = grind (arith, nat_tests)

differs : (a b : ℕ) → (a ≡ b → ⊥) → (a == b) ≡ false
differs a b apart = grind (arith, nat_tests)

module _ (lines places line : ℕ) (es : List Expiry) (some : 1 ≤ places) (size : length es ≡ lines * places) (of_line : (i : ℕ) → i < length es → (at i es).line ≡ i / places)
    (to-end : line * places + places ≤ length es) where
  abbrev on : Expiry → Bool
  on e = e.line == line

  is-on : (i : ℕ) → line * places ≤ i → i < line * places + places → i < length es → on (at i es) ≡ true
  is-on i low high within = equals (at i es).line line (of_line i within ∙ its-line places line i (record { low = low; high = high }))

  is-off : (i : ℕ) → i < length es → (line * places ≤ i → i < line * places + places → ⊥) → on (at i es) ≡ false
  is-off i within out = differs (at i es).line line (λ own.
      let is : i / places ≡ line = sym (of_line i within) ∙ own in
      out (subst (λ n. n * places ≤ i) is (div-mul-le_self i places)) (subst (λ n. i < n * places + places) is (lt-div-mul-add (omega (arith, some)))))

  shifted : (n i : ℕ) (xs : List Expiry) → at i (drop n xs) ≡ at (n + i) xs
  shifted n i xs = get_or-drop n xs i _

  all-places : count_by on es ≡ places
  all-places =
      let rest = drop (line * places) es in
      let long : length rest ≡ length es - line * places = length-drop (line * places) es in
      let short : length (drop places rest) ≡ length rest - places = length-drop places rest in
      count-others on (line * places) es (omega (arith, to-end)) (λ i less. is-off i (omega (arith, less, to-end)) (λ low. absurd (omega (arith, low, less))))
      ∙ count-own on places rest (omega (arith, long, to-end)) (λ i less. ap on (shifted (line * places) i es) ∙ is-on (line * places + i) (omega arith) (omega (arith, less)) (omega (arith, less, to-end)))
      ∙ ap (λ n. places + n) (count-none on (drop places rest) (λ i less.
      ap on (shifted places i rest ∙ shifted (line * places) (places + i) es)
      ∙ is-off (line * places + (places + i)) (omega (arith, less, short, long)) (λ low high. absurd (omega (arith, high)))))
      ∙ omega arith

  counted : count_on line (timers_in es) ≡ count_by on (filter is_running es)
  counted = count_by-in_order on (filter is_running es)

  pub has-room : (i : ℕ) → RestsAt i line es → count_on line (timers_in es) < places
  has-room i h = omega (arith, counted, all-places, left-less on is_running es i h.within (equals (at i es).line line h.its_line) (rests (at i es) (omega (arith, h.rests))))

  pub no-room : is_full line es → count_on line (timers_in es) ≡ places
  no-room full = counted ∙ left-all on is_running es (λ i within own. runs (at i es) (full i within (same (at i es).line line own))) ∙ all-places
    where
      same : (a b : ℕ) → (a == b) ≡ true → a ≡ b
      same a b h = grind (arith, nat_tests)

-- ---- one place changes

lines-stay : (es : List Expiry) (i k : ℕ) (z : Expiry) → z.line ≡ (at i es).line → (at k (set es i z)).line ≡ (at k es).line
lines-stay [] i k z own = refl
lines-stay (x ∷ xs) zero zero z own = own
lines-stay (x ∷ xs) zero (suc k) z own = refl
lines-stay (x ∷ xs) (suc i) zero z own = refl
lines-stay (x ∷ xs) (suc i) (suc k) z own = lines-stay xs i k z own

module _ (ls : Lengths) (lines places : ℕ) (es : List Expiry) (t : Timers) (view : clock_of ls lines places es ≡ t) (kept : IsKept ls lines places es) (line : ℕ) (there : line < t.lines) where
  in-lines : line < lines
  in-lines = omega (arith, there, ap (λ (c : Timers). c.lines) view)

  to-end : line * places + places ≤ length es
  to-end = omega (arith, kept.count, before_end line lines places (places - 1) in-lines (omega (arith, kept.of_card.places_are)), kept.of_card.places_are)

  some : 1 ≤ places
  some = omega (arith, kept.of_card.places_are)

  seen : (order : Order) → finds_place (clock_of ls lines places es) line order ≡ finds_place t line order
  seen order = ap (λ c. finds_place c line order) view

  found-here : (timer : Timer) (i : ℕ) → IsPlaceFor i line timer es → finds_place (clock_of ls lines places es) line (Start timer) ≡ true
  unfolding finds_place
  found-here timer i (inl here) = ap (λ b. b || nat_lt (count_on line (timers_in es)) places) (runs-held line timer es i here)
  found-here timer i (inr (here, nowhere)) =
      ap (λ b. b || nat_lt (count_on line (timers_in es)) places) nowhere ∙ less (count_on line (timers_in es)) places (has-room lines places line es some kept.count kept.of_line to-end i here)
    where
      less : (a b : ℕ) → a < b → nat_lt a b ≡ true
      less a b h = grind (arith, nat_lt, nat_tests)

  pub found : (timer : Timer) (i : ℕ) → IsPlaceFor i line timer es → true ≡ finds_place t line (Start timer)
  found timer i h = sym (sym (seen (Start timer)) ∙ found-here timer i h)

  pub not_found : (timer : Timer) → is_nowhere line timer es → is_full line es → false ≡ finds_place t line (Start timer)
  unfolding finds_place
  not_found timer nowhere full =
      sym (sym (seen (Start timer)) ∙ ap (λ b. b || nat_lt (count_on line (timers_in es)) places) nowhere ∙ not-less (count_on line (timers_in es)) places (no-room lines places line es some kept.count kept.of_line to-end full))
    where
      not-less : (a b : ℕ) → a ≡ b → nat_lt a b ≡ false
      not-less a b is = grind (arith, nat_lt, nat_tests)

  -- what is kept, with another timer at a place of the line
  abbrev c : Timers
  c = clock_of ls lines places es

  changed : (i : ℕ) (z : Expiry) → z.line ≡ (at i es).line → IsSound (clock_of ls lines places (set es i z)) → IsKept ls lines places (set es i z)
  changed i z own sound = record {
    count = length-set es i z ∙ kept.count;
    of_line = λ k within. lines-stay es i k z own ∙ kept.of_line k (omega (arith, within, length-set es i z));
    sound = sound;
    of_card = kept.of_card;
  }

  -- What an order leaves.
  pub record Obeys (new : List Expiry) (order : Order) (now : ℕ) : Type 0 where
    pub kept_after : IsKept ls lines places new
    pub after : clock_of ls lines places new ≡ with_order t line order now

  obeys : (i : ℕ) (z : Expiry) (order : Order) (now : ℕ) → z.line ≡ (at i es).line → clock_of ls lines places (set es i z) ≡ with_order c line order now → Obeys (set es i z) order now
  obeys i z order now own is = record {
    kept_after = changed i z own (subst IsSound (sym is) (with_order_sound c line order now in-lines kept.sound));
    after = is ∙ ap (λ x. with_order x line order now) view;
  }

  pub started : (timer : Timer) (i moment now : ℕ) → IsPlaceFor i line timer es → moment ≡ now + duration ls timer → now ≤ 2 ^ 63 → duration ls timer ≤ 3600000 → Obeys (with_timer i timer moment es) (Start timer) now
  unfolding with_order
  started timer i moment now h is early short =
      obeys i (record (at i es) { moment = moment; timer = timer }) (Start timer) now refl
      (ap (λ rs. record c { running = rs })
      (sym (ap (λ m. put_in_order is_before (record { moment = m; line = line; timer = timer }) (without line timer (timers_in es))) (sym is)
      ∙ started_in_place es i line timer moment (its-place es i line timer h kept.sound.one_each) (omega (arith, is, early, short))))
      ∙ sym (ap (λ b. cond b (record c { running = put_in_order is_before (record { moment = now + duration ls timer; line = line; timer = timer }) (without line timer (timers_in es)) }) c) (found-here timer i h)))

  pub stopped : (timer : Timer) (i now : ℕ) → RunsAt i line timer es → Obeys (without_timer i es) (Stop timer) now
  unfolding with_order
  stopped timer i now h =
      obeys i (record (at i es) { moment = never }) (Stop timer) now refl
      (ap (λ rs. record c { running = rs }) (sym (stopped_in_place es i line timer (its-place es i line timer (inl h) kept.sound.one_each))))

  pub unmoved : (timer : Timer) (now : ℕ) → is_nowhere line timer es → c ≡ with_order t line (Stop timer) now
  unfolding with_order
  unmoved timer now nowhere = ap (λ rs. record c { running = rs }) (sym (stopped_nowhere es line timer nowhere)) ∙ ap (λ x. with_order x line (Stop timer) now) view

  -- one more that runs nowhere, at a place that rests
  pub held : (h : Held) (i : ℕ) → RestsAt i line es → is_nowhere line h.timer es → h.moment < never
      → IsKept ls lines places (with_timer i h.timer h.moment es) × (clock_of ls lines places (with_timer i h.timer h.moment es) ≡ with_held t line h)
  held h i here nowhere soon =
      let is : clock_of ls lines places (with_timer i h.timer h.moment es) ≡ with_held c line h =
      ap (λ rs. record c { running = rs })
      (sym (started_in_place es i line h.timer h.moment (its-place es i line h.timer (inr (here, nowhere)) kept.sound.one_each) soon)
      ∙ ap (put_in_order is_before (expiry_on line h)) (stopped_nowhere es line h.timer nowhere ∙ refl)) in (
        changed i (record (at i es) { moment = h.moment; timer = h.timer }) refl
            (subst IsSound (sym is) (one_more_sound c (expiry_on line h) in-lines (none_held line h.timer (timers_in es) nowhere) (has-room lines places line es some kept.count kept.of_line to-end i here) kept.sound)),
        is ∙ ap (λ x. with_held x line h) view,
      )

  pub room-at : (i : ℕ) → RestsAt i line es → count_on line t.running < t.places
  room-at i here = subst (λ (x : Timers). count_on line x.running < x.places) view (has-room lines places line es some kept.count kept.of_line to-end i here)

  pub no-room-there : is_full line es → count_on line t.running ≡ t.places
  no-room-there full = subst (λ (x : Timers). count_on line x.running ≡ x.places) view (no-room lines places line es some kept.count kept.of_line to-end full)

-- ---- none runs at the start

late : (es : List Expiry) → AllByRecursion (λ e. e.moment ≡ never) es → AllByRecursion (λ e. never ≤ e.moment) es
late [] h = tt
late (e ∷ es) h = (omega (arith, h.0), late es h.1)

pub idle-none : (es : List Expiry) → AllByRecursion (λ e. e.moment ≡ never) es → timers_in es ≡ []
idle-none es h = none_left never es (omega arith) (late es h)

-- ---- what is due

soon : (es : List Expiry) → AllByRecursion (λ e. e.moment < never) (timers_in es)
soon es = All-in_order (λ e. e.moment < never) (filter is_running es) (each es)
  where
    before : (e : Expiry) → is_running e ≡ true → e.moment < never
    before e h = grind (arith, nat_tests)

    each : (es : List Expiry) → AllByRecursion (λ e. e.moment < never) (filter is_running es)
    each [] = tt
    each (e ∷ es) =
        (elim (is_running e) as (λ b. is_running e ≡ b → AllByRecursion (λ e. e.moment < never) (cond b (e ∷ filter is_running es) (filter is_running es))) [
          | true ↦ λ run. (before e run, each es)
          | false ↦ λ _. each es
        ]) refl

-- the places are where they were
pub record SamePlaces (old new : List Expiry) : Type 0 where
  pub count : length new ≡ length old
  pub lines : (i : ℕ) → (at i new).line ≡ (at i old).line

same-places : (n : ℕ) (o : Option (ℕ × Timer)) (old new : List Expiry) → IfSome o (λ _. IsTaken n old new) → IfNone o (new ≡ old) → SamePlaces old new
same-places n None old new taken same = record { count = ap length same; lines = λ i. ap (λ es. (at i es).line) same }
same-places n (Some due) old new taken same =
    let z : Expiry = record (at taken.place old) { moment = never } in
    record { count = ap length taken.is ∙ length-set old taken.place z; lines = λ i. ap (λ es. (at i es).line) taken.is ∙ lines-stay old taken.place i z refl }

module _ (ls : Lengths) (lines places : ℕ) (old new : List Expiry) (t : Timers) (view : clock_of ls lines places old ≡ t) (kept : IsKept ls lines places old) (now n : ℕ) (n_is : n ≡ min now (never - 1))
    (o : Option (ℕ × Timer)) (is : o ≡ first_due (timers_in old) n) (taken : IfSome o (λ _. IsTaken n old new)) (same : IfNone o (new ≡ old)) where
  left-is : clock_of ls lines places new ≡ after_due (clock_of ls lines places old) now
  left-is = ap (λ rs. record (clock_of ls lines places old) { running = rs }) (left o old new n is taken same ∙ after-last (timers_in old) now n n_is (soon old))

  pub due_is : o ≡ due_at t now
  due_is = is ∙ due-last (timers_in old) now n n_is (soon old) ∙ ap (λ (c : Timers). first_due c.running now) view

  pub after_is : clock_of ls lines places new ≡ after_due t now
  after_is = left-is ∙ ap (λ c. after_due c now) view

  pub sound_then : IsSound t
  sound_then = subst IsSound view kept.sound

  pub kept_then : IsKept ls lines places new
  kept_then =
      let both = same-places n o old new taken same in
      record {
        count = both.count ∙ kept.count;
        of_line = λ i within. both.lines i ∙ kept.of_line i (omega (arith, within, both.count));
        sound = subst IsSound (sym left-is) (after_due_sound ls lines places (timers_in old) now kept.sound);
        of_card = kept.of_card;
      }
