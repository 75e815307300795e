-- The set that the places stand for, when one of them changes.
use Rattle.lapd_clock.proofs.Vocabulary.{◌≡◌, ℕ, zero, suc, ◌+◌, ◌<◌, ◌≤◌, true, false, cond, nat_lt, nat_le, List, [], ◌∷◌, ◌++◌, length, filter, get_or, set, None, Some, refl, sym, ap, ◌∙◌, subst, arith, nat_tests, AllByRecursion, recursion_from_All, IsStrictWeakOrder, IsFirstBest, IsFirstBest-takes, IsFirstBest-keeps, ranks_by, cases_lt, inl, inr}
use Rattle.lapd_clock.proofs.Vocabulary.{◌*◌, ◌/◌, get_or_default, get_or-map, map-set, Timer, Expiry, is_before, first_due, after_first_due, first_moment, never, put_in_order, in_order}
use Rattle.std.proofs.lemmas.Nat.{div-mul-add}
use Rattle.lapd_clock.proofs.First.{All-in_order}
use Rattle.lapd_clock.proofs.Ordered.{put_in_order-first, All-filter}
use Rattle.lapd_clock.proofs.StandsFor.{swap}
use Rattle.lapd_clock.proofs.TimerOrder.{expiry_total}
use Rattle.lapd_clock.specs.OwnPlaces.{expiry_of, expiries_of, place_before, is_running, timers_in, AreNotBefore, nothing, at, with_timer, without_timer, IsFirst, IsFirstUntil, IsTaken, AreOfLines}
use Rattle.lapd_clock.specs.Bounds.{IsFoundFirst}
use Rattle.lapd_clock.specs.declared.moments.place.Place.{Place}

-- ---- the places themselves

place_order : IsStrictWeakOrder place_before
place_order = ranks_by expiry_total (λ (p : Place). expiry_of p)

pub first_takes : (ps : List Place) (i b : ℕ) (c d : Place) → IsFirstBest place_before ps i b → i < length ps → place_before (get_or ps i c) (get_or ps b d) ≡ true → IsFirstBest place_before ps (i + 1) i
first_takes ps i b c d so within test =
    let there : b < length ps = omega (arith, so.0, within) in
    IsFirstBest-takes place_order ps i b (get_or ps i c) (get_or ps b d) so within (get_or_default ps i c (get_or ps i c) within) (get_or_default ps b d (get_or ps b d) there) test

pub first_keeps : (ps : List Place) (i b : ℕ) (c d : Place) → IsFirstBest place_before ps i b → i < length ps → place_before (get_or ps i c) (get_or ps b d) ≡ false → IsFirstBest place_before ps (i + 1) b
first_keeps ps i b c d so within test =
    let there : b < length ps = omega (arith, so.0, within) in
    IsFirstBest-keeps place_order ps i b (get_or ps i c) (get_or ps b d) so within (get_or_default ps i c (get_or ps i c) within) (get_or_default ps b d (get_or ps b d) there) test

pub same_count : (ps : List Place) → length (expiries_of ps) ≡ length ps
same_count [] = refl
same_count (p ∷ ps) = ap suc (same_count ps)

pub there : (i : ℕ) (ps : List Place) (es : List Expiry) → expiries_of ps ≡ es → i < length es → i < length ps
there i ps es is within = omega (arith, within, same_count ps, ap length is)

-- a place that changes is one of the set
pub changed_is : (ps : List Place) (i : ℕ) (u : Place) (timer : Timer) (moment : ℕ) → i < length ps → u ≡ get_or ps i u
    → expiries_of (set ps i (record { moment = moment; line = u.line; timer = timer })) ≡ with_timer i timer moment (expiries_of ps)
changed_is ps i u timer moment within at_it =
    map-set expiry_of ps i (record { moment = moment; line = u.line; timer = timer })
    ∙ ap (λ l. set (expiries_of ps) i (record { moment = moment; line = l; timer = timer }))
    (ap (λ (p : Place). p.line) at_it ∙ ap (λ (e : Expiry). e.line) (sym (get_or-map expiry_of ps i u nothing within)))

pub stopped_is : (ps : List Place) (i : ℕ) (u : Place) → i < length ps → u ≡ get_or ps i u
    → expiries_of (set ps i (record u { moment = never })) ≡ without_timer i (expiries_of ps)
stopped_is ps i u within at_it =
    map-set expiry_of ps i (record u { moment = never })
    ∙ ap (λ (e : Expiry). set (expiries_of ps) i (record e { moment = never }))
    (ap expiry_of at_it ∙ sym (get_or-map expiry_of ps i u nothing within))

-- ---- no timer falls due before

pub sooner : (m n : ℕ) (es : List Expiry) → m ≤ n → AreNotBefore n es → AreNotBefore m es
sooner m n [] less h = tt
sooner m n (e ∷ es) less h = (omega (arith, less, h.0), sooner m n es less h.1)

pub no_sooner : (m : ℕ) (ps : List Place) (i : ℕ) (d : Place) → i < length ps → AreNotBefore m (expiries_of ps) → m ≤ (get_or ps i d).moment
no_sooner m [] i d within h = absurd (omega (arith, within))
no_sooner m (p ∷ ps) zero d within h = h.0
no_sooner m (p ∷ ps) (suc i) d within h = no_sooner m ps i d (omega (arith, within)) h.1

pub set_later : (m n : ℕ) (ps : List Place) (i : ℕ) (p : Place) → m ≤ n → m ≤ p.moment → AreNotBefore n (expiries_of ps) → AreNotBefore m (expiries_of (set ps i p))
set_later m n [] i p less own h = tt
set_later m n (q ∷ qs) zero p less own h = (own, sooner m n (expiries_of qs) less h.1)
set_later m n (q ∷ qs) (suc i) p less own h = (omega (arith, less, h.0), set_later m n qs i p less own h.1)

pub All-timers : (P : Expiry → Type 0) (es : List Expiry) → AllByRecursion P es → AllByRecursion P (timers_in es)
All-timers P es h = All-in_order P (filter is_running es) (All-filter P is_running es h)

-- where none falls due before a later moment, none is due
pub record NoneDue (es : List Expiry) (now : ℕ) : Type 0 where
  pub none : first_due es now ≡ None
  pub same : after_first_due es now ≡ es

all_later : (es : List Expiry) (now moment : ℕ) → now < moment → AreNotBefore moment es → NoneDue es now
all_later [] now moment later h = record { none = refl; same = refl }
all_later (e ∷ es) now moment later h =
    let test : nat_le e.moment now ≡ false = grind (arith, nat_tests, h.0) in
    record { none = ap (λ b. cond b (Some (e.line, e.timer)) None) test; same = ap (λ b. cond b es (e ∷ es)) test }

pub none_due : (es : List Expiry) (now moment : ℕ) → now < moment → AreNotBefore moment es → NoneDue (timers_in es) now
none_due es now moment later h = all_later (timers_in es) now moment later (All-timers (λ e. moment ≤ e.moment) es h)

-- ---- the first of the places is the first of the set

pub runs : (e : Expiry) → e.moment < never → is_running e ≡ true
runs e h = grind (arith, nat_tests)

pub rests : (e : Expiry) → never ≤ e.moment → is_running e ≡ false
rests e h = grind (arith, nat_tests)

-- one that runs is in the set beside those of the other places
pub parted : (es : List Expiry) (i : ℕ) (z : Expiry) → i < length es → never ≤ z.moment → (at i es).moment < never
    → timers_in es ≡ put_in_order is_before (at i es) (timers_in (set es i z))
unfolding in_order
parted [] i z within rest soon = absurd (omega (arith, within))
parted (x ∷ xs) zero z within rest soon =
    ap (λ b. in_order (cond b (x ∷ filter is_running xs) (filter is_running xs))) (runs x soon)
    ∙ ap (λ b. put_in_order is_before x (in_order (cond b (z ∷ filter is_running xs) (filter is_running xs)))) (sym (rests z rest))
parted (x ∷ xs) (suc i) z within rest soon =
    let later = parted xs i z (omega (arith, within)) rest soon in
    (elim (is_running x) as (λ b. in_order (cond b (x ∷ filter is_running xs) (filter is_running xs))
    ≡ put_in_order is_before (at i xs) (in_order (cond b (x ∷ filter is_running (set xs i z)) (filter is_running (set xs i z))))) [
      | true ↦ ap (put_in_order is_before x) later ∙ swap x (at i xs) (timers_in (set xs i z))
      | false ↦ later
    ])

pub All-set : (P : Expiry → Type 0) (es : List Expiry) (i : ℕ) (z : Expiry) → P z → AllByRecursion P es → AllByRecursion P (set es i z)
All-set P [] i z own h = tt
All-set P (x ∷ xs) zero z own h = (own, h.1)
All-set P (x ∷ xs) (suc i) z own h = (h.0, All-set P xs i z own h.1)

-- so where none goes before it, it is the first
pub leads : (es : List Expiry) (i : ℕ) (z : Expiry) → i < length es → never ≤ z.moment → (at i es).moment < never
    → AllByRecursion (λ e. is_before e (at i es) ≡ false) es → is_before z (at i es) ≡ false → timers_in es ≡ at i es ∷ timers_in (set es i z)
leads es i z within rest soon first own =
    parted es i z within rest soon
    ∙ put_in_order-first is_before (at i es) (timers_in (set es i z))
    (All-timers (λ e. is_before e (at i es) ≡ false) (set es i z) (All-set (λ e. is_before e (at i es) ≡ false) es i z own first))

-- ---- what a look through all places finds

pub All-map : (P : Expiry → Type 0) (ps : List Place) → AllByRecursion (λ p. P (expiry_of p)) ps → AllByRecursion P (expiries_of ps)
All-map P [] h = tt
All-map P (p ∷ ps) h = (h.0, All-map P ps h.1)

none_runs : (es : List Expiry) → AllByRecursion (λ e. never ≤ e.moment) es → filter is_running es ≡ []
none_runs [] h = refl
none_runs (e ∷ es) h = ap (λ b. cond b (e ∷ filter is_running es) (filter is_running es)) (rests e h.0) ∙ none_runs es h.1

-- what rests does not go before what runs
pub rest_behind : (e z : Expiry) → e.moment < z.moment → is_before z e ≡ false
rest_behind e z h = grind (arith, nat_lt, nat_tests)

module _ (ps : List Place) (b : ℕ) (so : IsFoundFirst b ps) (d : Place) where
  abbrev u : Place
  u = get_or ps b d

  it : at b (expiries_of ps) ≡ expiry_of u
  it = get_or-map expiry_of ps b d nothing so.within

  none_before : AllByRecursion (λ e. is_before e (expiry_of u) ≡ false) (expiries_of ps)
  none_before =
      All-map (λ e. is_before e (expiry_of u) ≡ false) ps
      (recursion_from_All (λ p. place_before p u ≡ false) ps
      (λ k other within. subst (λ p. place_before (get_or ps k other) p ≡ false) (get_or_default ps b other d so.within) (so.none_before k other within)))

  pub found_first : u.moment < never → IsFirst b (expiries_of ps)
  found_first soon =
      let run : (at b (expiries_of ps)).moment < never = subst (λ (e : Expiry). e.moment < never) (sym it) soon in
      record {
        within = omega (arith, so.within, same_count ps);
        runs = run;
        leads = leads (expiries_of ps) b _ (omega (arith, so.within, same_count ps)) (omega arith) run
            (subst (λ (x : Expiry). AllByRecursion (λ e. is_before e x ≡ false) (expiries_of ps)) (sym it) none_before)
            (rest_behind (at b (expiries_of ps)) _ run);
      }

-- where none falls due at all, none runs
pub none_left : (end : ℕ) (es : List Expiry) → never ≤ end → AreNotBefore end es → timers_in es ≡ []
unfolding in_order
none_left end es late h = ap in_order (none_runs es (sooner never end es late h))

-- the first is due, or is not
pub record FirstDue (place now : ℕ) (es : List Expiry) : Type 0 where
  pub due : first_due (timers_in es) now ≡ Some ((at place es).line, (at place es).timer)
  pub after : timers_in (without_timer place es) ≡ after_first_due (timers_in es) now

pub due_now : (place now : ℕ) (es : List Expiry) → IsFirst place es → (at place es).moment ≤ now → FirstDue place now es
due_now place now es first due =
    let test : nat_le (at place es).moment now ≡ true = grind (arith, nat_tests) in
    let e = at place es in
    let rest = timers_in (without_timer place es) in
    record {
      due = ap (λ xs. first_due xs now) first.leads ∙ ap (λ b. cond b (Some (e.line, e.timer)) None) test;
      after = sym (ap (λ xs. after_first_due xs now) first.leads ∙ ap (λ b. cond b rest (e ∷ rest)) test);
    }

-- what is answered, and left, where the first is taken out
pub due_is : (ps : List Place) (es : List Expiry) (b now : ℕ) (u : Place) → expiries_of ps ≡ es → IsFirstUntil now b es → u ≡ get_or ps b u → Some (u.line, u.timer) ≡ first_due (timers_in es) now
due_is ps es b now u is first at_it =
    let it : at b es ≡ expiry_of u = ap (at b) (sym is) ∙ get_or-map expiry_of ps b u nothing (there b ps es is first.first.within) ∙ ap expiry_of (sym at_it) in
    sym ((due_now b now es first.first first.soon).due ∙ ap (λ (e : Expiry). Some (e.line, e.timer)) it)

pub next_is : (ps : List Place) (es : List Expiry) (b end : ℕ) (u : Place) → expiries_of ps ≡ es → IsFirstUntil end b es → u ≡ get_or ps b u → Some u.moment ≡ first_moment (timers_in es)
next_is ps es b end u is first at_it =
    let it : at b es ≡ expiry_of u = ap (at b) (sym is) ∙ get_or-map expiry_of ps b u nothing (there b ps es is first.first.within) ∙ ap expiry_of (sym at_it) in
    sym (ap first_moment first.first.leads ∙ ap (λ (e : Expiry). Some e.moment) it)

pub taken : (ps : List Place) (es : List Expiry) (b now : ℕ) (w : Place) → expiries_of ps ≡ es → IsFirstUntil now b es → w ≡ get_or ps b w → IsTaken now es (expiries_of (set ps b (record w { moment = never })))
taken ps es b now w is first w_at =
    record { place = b; first = first.first; due = first.soon; is = stopped_is ps b w (there b ps es is first.first.within) w_at ∙ ap (without_timer b) is }

pub resting_late : (ps : List Place) → AllByRecursion (λ p. p.moment ≡ never) ps → AreNotBefore never (expiries_of ps)
resting_late [] h = tt
resting_late (p ∷ ps) h = (omega (arith, h.0), resting_late ps h.1)

pub all_rest : (ps : List Place) → AllByRecursion (λ p. p.moment ≡ never) ps → AllByRecursion (λ e. e.moment ≡ never) (expiries_of ps)
all_rest [] h = tt
all_rest (p ∷ ps) h = (h.0, all_rest ps h.1)

-- one more place, of the line that is its turn
pub one_more : (each line counter : ℕ) (ps : List Place) (p : Place) → AreOfLines each ps → length ps ≡ line * each + counter → counter < each → p.line ≡ line → AreOfLines each (ps ++ p ∷ [])
one_more each line counter ps p h count less own i within =
    elim (cases_lt i (length ps)) [
      | inl before ↦ before_is ps p i before ∙ h i before
      | inr last ↦ last_is ps p i (omega (arith, last, within, more ps p)) ∙ own ∙ sym (its_line each line counter i (omega (arith, last, within, more ps p, count)) less)
    ]
  where
    more : (ps : List Place) (p : Place) → length (ps ++ p ∷ []) ≡ length ps + 1
    more [] p = refl
    more (q ∷ qs) p = omega (arith, more qs p)

    before_is : (ps : List Place) (p : Place) (i : ℕ) → i < length ps → (at i (expiries_of (ps ++ p ∷ []))).line ≡ (at i (expiries_of ps)).line
    before_is [] p i before = absurd (omega (arith, before))
    before_is (q ∷ qs) p zero before = refl
    before_is (q ∷ qs) p (suc i) before = before_is qs p i (omega (arith, before))

    last_is : (ps : List Place) (p : Place) (i : ℕ) → i ≡ length ps → (at i (expiries_of (ps ++ p ∷ []))).line ≡ p.line
    last_is [] p zero e = refl
    last_is [] p (suc i) e = absurd (omega (arith, e))
    last_is (q ∷ qs) p zero e = absurd (omega (arith, e))
    last_is (q ∷ qs) p (suc i) e = last_is qs p i (omega (arith, e))

    its_line : (each line counter i : ℕ) → i ≡ line * each + counter → counter < each → i / each ≡ line
    its_line each line counter i is less = ap (λ n. n / each) is ∙ div-mul-add line each counter less

pub rests_too : (ps : List Place) (p : Place) → AllByRecursion (λ q. q.moment ≡ never) ps → p.moment ≡ never → AllByRecursion (λ q. q.moment ≡ never) (ps ++ p ∷ [])
rests_too [] p h own = (own, tt)
rests_too (q ∷ qs) p h own = (h.0, rests_too qs p h.1 own)

pub one_longer : (ps : List Place) (p : Place) (n : ℕ) → length ps ≡ n → length (ps ++ p ∷ []) ≡ n + 1
one_longer [] p n e = omega (arith, e)
one_longer (q ∷ qs) p n e = omega (arith, one_longer qs p (length qs) refl, e)
