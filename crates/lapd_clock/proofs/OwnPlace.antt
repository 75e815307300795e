-- A timer in its place, and in the set.
use Rattle.lapd_clock.proofs.Vocabulary.{◌≡◌, ℕ, zero, suc, ◌<◌, ◌≤◌, Bool, true, false, cond, not, ◌&&◌, ◌||◌, ◌==◌, List, [], ◌∷◌, length, filter, get_or, get_or-map, set, refl, sym, ap, ◌∙◌, subst, arith, All, AllByRecursion, HoldsAt, nat_tests, Timer, Expiry, is_before, is_of, is_held, is_same, without, IsOneEach, never, put_in_order, in_order, cases_lt, inl, inr}
use Rattle.std.proofs.lemmas.Bool.{and_parts, false≢true}
use Rattle.std.proofs.lemmas.List.Elements.{All-head, All-tail}
use Rattle.lapd_clock.proofs.Ordered.{filter-put_in_order}
use Rattle.lapd_clock.proofs.TimerOrder.{before_order}
use Rattle.lapd_clock.proofs.StandsFor.{IsInOrder-in_order}
use Rattle.lapd_clock.specs.OwnPlaces.{is_running, timers_in, nothing, at, with_timer, without_timer, runs_as, place_runs, expiry_of, expiries_of, is_nowhere, IsItsPlace, IsPlaceFor, RunsAt}
use Rattle.lapd_clock.specs.declared.moments.place.Place.{Place}
use Rattle.lapd_clock.proofs.First.{All-in_order}
use Rattle.lapd_clock.proofs.Standing.{there, parted, rests, runs, All-map}
use Rattle.lapd_clock.proofs.Once.{from_put, All-from_in_order}
use Rattle.lapd_clock.proofs.Again.{equal}

-- what stands at a place that rests is nothing to the set
pub resting : (es : List Expiry) (i : ℕ) (z w : Expiry) → never ≤ z.moment → never ≤ w.moment → filter is_running (set es i z) ≡ filter is_running (set es i w)
resting [] i z w zr wr = refl
resting (x ∷ xs) zero z w zr wr =
    ap (λ b. cond b (z ∷ filter is_running xs) (filter is_running xs)) (rests z zr) ∙ sym (ap (λ b. cond b (w ∷ filter is_running xs) (filter is_running xs)) (rests w wr))
resting (x ∷ xs) (suc i) z w zr wr = ap (λ ys. cond (is_running x) (x ∷ ys) ys) (resting xs i z w zr wr)

pub set_own : (es : List Expiry) (i : ℕ) → set es i (at i es) ≡ es
set_own [] i = refl
set_own (x ∷ xs) zero = refl
set_own (x ∷ xs) (suc i) = ap (λ ys. x ∷ ys) (set_own xs i)

rests-same : (es : List Expiry) (i : ℕ) → (at i es).moment ≡ never → es ≡ without_timer i es
rests-same es i rests = sym (ap (λ m. set es i (record (at i es) { moment = m })) (sym rests) ∙ set_own es i)

-- a stop at a place that rests
pub stops_nothing : (ps : List Place) (es : List Expiry) (i : ℕ) (u : Place) → expiries_of ps ≡ es → i < length es → u ≡ get_or ps i u → u.moment ≡ never → es ≡ without_timer i es
stops_nothing ps es i u is within at_it rests =
    rests-same es i (ap (λ (e : Expiry). e.moment) (ap (at i) (sym is) ∙ get_or-map expiry_of ps i u nothing (there i ps es is within) ∙ ap expiry_of (sym at_it)) ∙ rests)

set_twice : (es : List Expiry) (i : ℕ) (z w : Expiry) → set (set es i z) i w ≡ set es i w
set_twice [] i z w = refl
set_twice (x ∷ xs) zero z w = refl
set_twice (x ∷ xs) (suc i) z w = ap (λ ys. x ∷ ys) (set_twice xs i z w)

at_set : (es : List Expiry) (i : ℕ) (z : Expiry) → i < length es → at i (set es i z) ≡ z
at_set [] i z within = absurd (omega (arith, within))
at_set (x ∷ xs) zero z within = refl
at_set (x ∷ xs) (suc i) z within = at_set xs i z (omega (arith, within))

length_set : (es : List Expiry) (i : ℕ) (z : Expiry) → length (set es i z) ≡ length es
length_set [] i z = refl
length_set (x ∷ xs) zero z = refl
length_set (x ∷ xs) (suc i) z = ap suc (length_set xs i z)

-- without a timer that is not there
none_out : (line : ℕ) (timer : Timer) (es : List Expiry) → AllByRecursion (λ e. is_of line timer e ≡ false) es → without line timer es ≡ es
none_out line timer [] h = refl
none_out line timer (e ∷ es) h = ap (λ b. cond (not b) (e ∷ without line timer es) (without line timer es)) h.0 ∙ ap (λ ys. e ∷ ys) (none_out line timer es h.1)

pub stopped_in_place : (es : List Expiry) (i line : ℕ) (timer : Timer) → IsItsPlace i line timer es → without line timer (timers_in es) ≡ timers_in (without_timer i es)
unfolding in_order
stopped_in_place es i line timer its =
    let e = at i es in
    let rest = timers_in (without_timer i es) in
    elim (cases_lt e.moment never) [
      | inl soon ↦
          ap (without line timer) (parted es i (record e { moment = never }) its.within (omega arith) soon)
          ∙ filter-put_in_order is_before before_order (λ x. not (is_of line timer x)) e rest (IsInOrder-in_order (filter is_running (without_timer i es)))
          ∙ ap (λ b. cond (not b) (put_in_order is_before e (without line timer rest)) (without line timer rest)) (its.its soon)
          ∙ none_out line timer rest its.only
      | inr late ↦
          ap (without line timer) (ap in_order (ap (filter is_running) (sym (set_own es i)) ∙ resting es i e (record e { moment = never }) (omega (arith, late)) (omega arith)))
          ∙ none_out line timer rest its.only
    ]

pub started_in_place : (es : List Expiry) (i line : ℕ) (timer : Timer) (moment : ℕ) → IsItsPlace i line timer es → moment < never
    → put_in_order is_before (record { moment = moment; line = line; timer = timer }) (without line timer (timers_in es)) ≡ timers_in (with_timer i timer moment es)
unfolding in_order
started_in_place es i line timer moment its soon =
    let new : Expiry = record (at i es) { moment = moment; timer = timer } in
    let after = with_timer i timer moment es in
    let is : at i after ≡ new = at_set es i new its.within in
    ap (put_in_order is_before (record { moment = moment; line = line; timer = timer })) (stopped_in_place es i line timer its)
    ∙ ap (λ (l : ℕ). put_in_order is_before (record { moment = moment; line = l; timer = timer }) (timers_in (without_timer i es))) (sym its.line_is)
    ∙ ap (λ fs. put_in_order is_before new (in_order fs))
    (resting es i (record (at i es) { moment = never }) (record new { moment = never }) (omega arith) (omega arith)
    ∙ sym (ap (filter is_running) (set_twice es i new (record new { moment = never }))))
    ∙ ap (λ (x : Expiry). put_in_order is_before x (timers_in (set after i (record new { moment = never })))) (sym is)
    ∙ sym (parted after i (record new { moment = never }) (omega (arith, its.within, length_set es i new)) (omega arith) (subst (λ (x : Expiry). x.moment < never) (sym is) soon))

-- what is at no place is not in the set, and without it the set is as it was
pub none_held : (line : ℕ) (timer : Timer) (es : List Expiry) → is_held line timer es ≡ false → AllByRecursion (λ e. is_of line timer e ≡ false) es
none_held line timer [] h = tt
none_held line timer (e ∷ es) h = let split = neither (is_of line timer e) (is_held line timer es) h in (split.0, none_held line timer es split.1)
  where
    neither : (a b : Bool) → (a || b) ≡ false → (a ≡ false) × (b ≡ false)
    neither a b e = grind arith

pub stopped_nowhere : (es : List Expiry) (line : ℕ) (timer : Timer) → is_nowhere line timer es → without line timer (timers_in es) ≡ timers_in es
stopped_nowhere es line timer h = none_out line timer (timers_in es) (none_held line timer (timers_in es) h)

-- what runs at a place is in the set
falsely : (line : ℕ) (timer : Timer) (es : List Expiry) (i : ℕ) → AllByRecursion (λ e. is_of line timer e ≡ false) (filter is_running es) → (at i es).moment < never → i < length es
    → is_of line timer (at i es) ≡ false
falsely line timer [] i all soon within = absurd (omega (arith, within))
falsely line timer (e ∷ es) zero all soon within =
    (subst (λ b. AllByRecursion (λ e. is_of line timer e ≡ false) (cond b (e ∷ filter is_running es) (filter is_running es))) (runs e soon) all).0
falsely line timer (e ∷ es) (suc i) all soon within = falsely line timer es i (rest (is_running e) all) soon (omega (arith, within))
  where
    rest : (b : Bool) → AllByRecursion (λ e. is_of line timer e ≡ false) (cond b (e ∷ filter is_running es) (filter is_running es)) → AllByRecursion (λ e. is_of line timer e ≡ false) (filter is_running es)
    rest true all = all.1
    rest false all = all

pub runs-held : (line : ℕ) (timer : Timer) (es : List Expiry) (i : ℕ) → RunsAt i line timer es → is_held line timer (timers_in es) ≡ true
runs-held line timer es i found = go (is_held line timer (timers_in es)) refl
  where
    go : (b : Bool) → is_held line timer (timers_in es) ≡ b → is_held line timer (timers_in es) ≡ true
    go true e = e
    go false e = absurd (false≢true
        (sym (falsely line timer es i (All-from_in_order (λ e. is_of line timer e ≡ false) (filter is_running es) (none_held line timer (timers_in es) e)) found.runs found.within) ∙ found.its))

same_number : (a b : ℕ) → (a == b) ≡ true → a ≡ b
same_number a b h = grind (arith, nat_tests)

-- a timer that runs at a place, or one that runs nowhere, at a place that rests: no other of its kind runs
pub its-place : (es : List Expiry) (i line : ℕ) (timer : Timer) → IsPlaceFor i line timer es → IsOneEach (timers_in es) → IsItsPlace i line timer es
its-place es i line timer (inl here) once =
    let e = at i es in
    let rest = timers_in (without_timer i es) in
    let parts = and_parts (e.line == line) (is_same e.timer timer) here.its in
    let line_is : e.line ≡ line = same_number e.line line parts.0 in
    let others : AllByRecursion (λ other. is_of e.line e.timer other ≡ false) rest =
    (from_put e rest (subst IsOneEach (parted es i (record e { moment = never }) here.within (omega arith) here.runs) once)).0 in
    record {
      within = here.within;
      line_is = line_is;
      only = subst (λ t. AllByRecursion (λ other. is_of line t other ≡ false) rest) (equal e.timer timer parts.1) (subst (λ l. AllByRecursion (λ other. is_of l e.timer other ≡ false) rest) line_is others);
      its = λ _. here.its;
    }
its-place es i line timer (inr (here, nowhere)) once = record {
  within = here.within;
  line_is = here.its_line;
  only = subst (λ xs. AllByRecursion (λ other. is_of line timer other ≡ false) (timers_in xs)) (rests-same es i here.rests) (none_held line timer (timers_in es) nowhere);
  its = λ soon. absurd (omega (arith, soon, here.rests));
}

-- A look through all places finds where a timer runs.
pub runs_at : (ps : List Place) (i line : ℕ) (timer : Timer) → i < length ps → HoldsAt (λ p. place_runs line timer p ≡ true) ps i → RunsAt i line timer (expiries_of ps)
runs_at [] i line timer within h = absurd (omega (arith, within))
runs_at (p ∷ ps) zero line timer within h = let split = and_parts (is_running (expiry_of p)) (is_of line timer (expiry_of p)) (h p) in
    record { within = omega arith; runs = soon (expiry_of p) split.0; its = split.1 }
  where
    soon : (e : Expiry) → is_running e ≡ true → e.moment < never
    soon e h = grind (arith, nat_tests)
runs_at (p ∷ ps) (suc i) line timer within h = let later = runs_at ps i line timer (omega (arith, within)) h in
    record { within = omega (arith, later.within); runs = later.runs; its = later.its }

not_there : (line : ℕ) (timer : Timer) (es : List Expiry) → AllByRecursion (λ e. runs_as line timer e ≡ false) es → AllByRecursion (λ e. is_of line timer e ≡ false) (filter is_running es)
not_there line timer [] h = tt
not_there line timer (e ∷ es) h =
    (elim (is_running e) as (λ b. (b && is_of line timer e) ≡ false → AllByRecursion (λ e. is_of line timer e ≡ false) (cond b (e ∷ filter is_running es) (filter is_running es))) [
      | true ↦ λ own. (own, not_there line timer es h.1)
      | false ↦ λ own. not_there line timer es h.1
    ]) h.0

pub held_none : (line : ℕ) (timer : Timer) (es : List Expiry) → AllByRecursion (λ e. is_of line timer e ≡ false) es → is_held line timer es ≡ false
held_none line timer [] h = refl
held_none line timer (e ∷ es) h = ap (λ b. b || is_held line timer es) h.0 ∙ held_none line timer es h.1

recursion_of : {X : Type 0} (P : X → Type 0) (xs : List X) → All P xs → AllByRecursion P xs
recursion_of P [] all = tt
recursion_of P (x ∷ xs) all = (All-head P x xs all, recursion_of P xs (All-tail P x xs all))

pub nowhere : (ps : List Place) (line : ℕ) (timer : Timer) → All (λ p. place_runs line timer p ≡ false) ps → is_nowhere line timer (expiries_of ps)
nowhere ps line timer all =
    held_none line timer (timers_in (expiries_of ps))
    (All-in_order (λ e. is_of line timer e ≡ false) (filter is_running (expiries_of ps))
    (not_there line timer (expiries_of ps) (All-map (λ e. runs_as line timer e ≡ false) ps (recursion_of (λ p. place_runs line timer p ≡ false) ps all))))
