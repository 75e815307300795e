-- What falls due of a set of timers, and what is left of it.
use Rattle.lapd_clock.proofs.Vocabulary.{◌≡◌, ℕ, ◌-◌, ◌<◌, ◌≤◌, true, false, cond, min, List, [], ◌∷◌, get_or, length, set, Some, None, All, Contains, refl, sym, ap, ◌∙◌, subst, arith, none-some, same_Some, AllByRecursion, nat_tests, nat_le, All-from_recursion, IsInOrder, Timer, Expiry, Timers}
use Rattle.lapd_clock.proofs.Vocabulary.{is_before, first_due, after_first_due, first_moment, never, put_in_order, IsSound, IsLeastDue}
use Rattle.std.specs.Prelude.{Option, IfSome, IfNone}
use Rattle.lapd_clock.specs.OwnPlaces.{timers_in, at, IsTaken, AreNotBefore}
use Rattle.lapd_clock.proofs.First.{before_itself, none_earlier}
use Rattle.lapd_clock.proofs.Ordered.{by_place}
use Rattle.lapd_clock.proofs.Standing.{due_now, parted, All-set, All-timers}

-- where the first falls due later, all do
pub all_later : (e : Expiry) (es : List Expiry) (now : ℕ) → IsInOrder is_before (e ∷ es) → now < e.moment → All (λ held. now < held.moment) (e ∷ es)
all_later e es now h k i d within =
    let from : e.moment ≤ (get_or (e ∷ es) i d).moment = All-from_recursion (λ (held : Expiry). e.moment ≤ held.moment) (e ∷ es) (omega arith, none_earlier e es h.0) i d within in
    omega (arith, from, k)

-- ---- what is due until the last moment at which a timer may fall due is what is due until any later one

last : (m now : ℕ) → m < never → nat_le m (min now (never - 1)) ≡ nat_le m now
last m now h = grind (arith, nat_tests)

pub due-last : (es : List Expiry) (now n : ℕ) → n ≡ min now (never - 1) → AllByRecursion (λ e. e.moment < never) es → first_due es n ≡ first_due es now
due-last [] now n is h = refl
due-last (e ∷ es) now n is h = ap (λ b. cond {A = Option (ℕ × Timer)} b (Some (e.line, e.timer)) None) (ap (nat_le e.moment) is ∙ last e.moment now h.0)

pub after-last : (es : List Expiry) (now n : ℕ) → n ≡ min now (never - 1) → AllByRecursion (λ e. e.moment < never) es → after_first_due es n ≡ after_first_due es now
after-last [] now n is h = refl
after-last (e ∷ es) now n is h = ap (λ b. cond b es (e ∷ es)) (ap (nat_le e.moment) is ∙ last e.moment now h.0)

-- ---- what was answered, and what is left

none_taken : (es : List Expiry) (now : ℕ) → first_due es now ≡ None → after_first_due es now ≡ es
none_taken [] now h = refl
none_taken (e ∷ es) now h =
    (elim (nat_le e.moment now) as (λ b. cond {A = Option (ℕ × Timer)} b (Some (e.line, e.timer)) None ≡ None → cond b es (e ∷ es) ≡ e ∷ es) [
      | true ↦ λ h. absurd (none-some {A = ℕ × Timer} (e.line, e.timer) (sym h))
      | false ↦ λ _. refl
    ]) h

pub left : (o : Option (ℕ × Timer)) (old new : List Expiry) (now : ℕ) → o ≡ first_due (timers_in old) now → IfSome o (λ _. IsTaken now old new) → IfNone o (new ≡ old) → timers_in new ≡ after_first_due (timers_in old) now
left None old new now is taken same = ap timers_in same ∙ sym (none_taken (timers_in old) now (sym is))
left (Some due) old new now is taken same = ap timers_in taken.is ∙ (due_now taken.place now old taken.first taken.due).after

module _ (c : Timers) (now : ℕ) (sound : IsSound c) where
  -- none is due, so all are later
  pub none : (es : List Expiry) → IsInOrder is_before es → (o : Option (ℕ × Timer)) → o ≡ first_due es now → IfNone o (All (λ held. now < held.moment) es)
  none es ordered (Some due) is = tt
  none [] ordered None is = λ i d within. absurd (omega (arith, within))
  none (e ∷ es) ordered None is = all_later e es now ordered (later (sym is))
    where
      later : cond {A = Option (ℕ × Timer)} (nat_le e.moment now) (Some (e.line, e.timer)) None ≡ None → now < e.moment
      later h = grind (arith, nat_tests, none-some)

  -- one is due, so it is the least
  pub least : (es : List Expiry) → es ≡ c.running → (o : Option (ℕ × Timer)) → o ≡ first_due es now → IfSome o (λ due. IsLeastDue c now due.0 due.1)
  least es of None is = tt
  least [] of (Some due) is = absurd (none-some due (sym is))
  least (e ∷ es) of (Some due) is =
      let soon = in_time (sym is) in
      let ordered : IsInOrder is_before (e ∷ es) = subst (IsInOrder is_before) (sym of) sound.in_order in
      subst (λ (d : ℕ × Timer). IsLeastDue c now d.0 d.1) soon.1 (record {
        moment = e.moment;
        held = subst (λ xs. Contains xs e) of (0, omega arith, refl);
        due = soon.0;
        least = subst (All (λ other. is_before other e ≡ false)) of (All-from_recursion (λ other. is_before other e ≡ false) (e ∷ es) (before_itself e, ordered.0));
      })
    where
      at_most : (a b : ℕ) → nat_le a b ≡ true → a ≤ b
      at_most a b h = grind (arith, nat_tests)

      in_time : cond {A = Option (ℕ × Timer)} (nat_le e.moment now) (Some (e.line, e.timer)) None ≡ Some due → (e.moment ≤ now) × ((e.line, e.timer) ≡ due)
      in_time =
          (elim (nat_le e.moment now) as (λ b. nat_le e.moment now ≡ b → cond {A = Option (ℕ × Timer)} b (Some (e.line, e.timer)) None ≡ Some due → (e.moment ≤ now) × ((e.line, e.timer) ≡ due)) [
            | true ↦ λ test h. (at_most e.moment now test, same_Some {A = ℕ × Timer} (e.line, e.timer) due h)
            | false ↦ λ _ h. absurd (none-some due h)
          ]) refl

  -- which is of a line of the clock
  pub of_line : (es : List Expiry) → AllByRecursion (λ e. e.line < c.lines) es → (o : Option (ℕ × Timer)) → o ≡ first_due es now → IfSome o (λ due. due.0 < c.lines)
  of_line es on None is = tt
  of_line [] on (Some due) is = absurd (none-some due (sym is))
  of_line (e ∷ es) on (Some due) is =
      (elim (nat_le e.moment now) as (λ b. cond {A = Option (ℕ × Timer)} b (Some (e.line, e.timer)) None ≡ Some due → due.0 < c.lines) [
        | true ↦ λ h. subst (λ (d : ℕ × Timer). d.0 < c.lines) (same_Some {A = ℕ × Timer} (e.line, e.timer) due h) on.0
        | false ↦ λ h. absurd (none-some due h)
      ]) (sym is)

-- ---- the first of all

-- none is before the moment of one that runs, so the first falls due then
first-put : (e : Expiry) (es : List Expiry) → AllByRecursion (λ x. e.moment ≤ x.moment) es → first_moment (put_in_order is_before e es) ≡ Some e.moment
first-put e [] late = refl
first-put e (x ∷ xs) late = by_place is_before e x xs (λ zs. first_moment zs ≡ Some e.moment) (λ before. ap Some (same late.0 (no_later x e before))) (λ _. refl)
  where
    no_later : (a b : Expiry) → is_before a b ≡ true → a.moment ≤ b.moment
    no_later a b = grind (arith, nat_tests)

    same : {a b : ℕ} → a ≤ b → b ≤ a → b ≡ a
    same low high = omega (arith, low, high)

pub first-at : (es : List Expiry) (i m : ℕ) → i < length es → (at i es).moment ≡ m → m < never → AreNotBefore m es → first_moment (timers_in es) ≡ Some m
first-at es i m within is soon late =
    let e = at i es in
    let z : Expiry = record e { moment = never } in
    ap first_moment (parted es i z within (omega arith) (omega (arith, is, soon)))
    ∙ first-put e (timers_in (set es i z)) (All-timers (λ x. e.moment ≤ x.moment) (set es i z) (All-set (λ x. e.moment ≤ x.moment) es i z (omega (arith, is, soon)) (subst (λ n. AreNotBefore n es) (sym is) late)))
    ∙ ap Some is

-- the least moment of a clock is no later than any
pub least_moment : (es : List Expiry) → IsInOrder is_before es → (o : Option ℕ) → o ≡ first_moment es → IfSome o (λ moment. All (λ held. moment ≤ held.moment) es)
least_moment es ordered None is = tt
least_moment [] ordered (Some m) is = absurd (none-some m (sym is))
least_moment (e ∷ es) ordered (Some m) is =
    subst (λ n. All (λ (held : Expiry). n ≤ held.moment) (e ∷ es)) (same_Some e.moment m (sym is)) (All-from_recursion (λ (held : Expiry). e.moment ≤ held.moment) (e ∷ es) (omega arith, none_earlier e es ordered.0))
