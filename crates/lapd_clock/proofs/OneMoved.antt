-- What an order does to the map from timers to moments.
use Rattle.lapd_clock.proofs.Vocabulary.{arith, ◌≡◌, ℕ, ◌+◌, true, false, cond, not, ◌&&◌, ◌==◌, List, [], ◌∷◌, None, Some, refl, sym, ap, ◌∙◌, AllByRecursion, false≢true, nat_eq_equiv, eq_by_cmp_equiv, put_in_order, Timer, Start, Stop, duration, is_same, Expiry, Timers, is_before, is_of, without, finds_place, with_order, moment_of, MovesOne}
use Rattle.lapd_clock.proofs.Ordered.{by_place}
use Rattle.lapd_clock.proofs.TimerOrder.{timer_total}
use Rattle.lapd_clock.proofs.Running.{none_of-without}

-- an expiry of one timer is one of another exactly where the two are the same
of_same : (line l : ℕ) (timer t : Timer) (e : Expiry) → is_of line timer e ≡ true → is_of l t e ≡ (line == l && is_same timer t)
of_same line l timer t e =
    (elim (e.line == line) as (λ b. (e.line == line) ≡ b → (b && is_same e.timer timer) ≡ true → (e.line == l && is_same e.timer t) ≡ (line == l && is_same timer t)) [
      | true ↦ λ on h. ap (λ b. b && is_same e.timer t) (nat_eq_equiv.congr e.line line l on)
          ∙ ap (λ b. line == l && b) ((eq_by_cmp_equiv timer_total).congr e.timer timer t h)
      | false ↦ λ _ h. absurd (false≢true h)
    ]) refl

-- a timer is the same as itself
pub of_itself : (line : ℕ) (timer : Timer) → (line == line && is_same timer timer) ≡ true
of_itself line timer = ap (λ b. b && is_same timer timer) (nat_eq_equiv.refl line) ∙ (eq_by_cmp_equiv timer_total).refl timer

-- a timer that is taken out has no moment, and the others keep theirs
pub moment_of-none : (line : ℕ) (timer : Timer) (es : List Expiry) → AllByRecursion (λ e. is_of line timer e ≡ false) es → moment_of line timer es ≡ None
moment_of-none line timer [] none = refl
moment_of-none line timer (e ∷ es) none = ap (λ b. cond b (Some e.moment) (moment_of line timer es)) none.0 ∙ moment_of-none line timer es none.1

moment_of-others : (line l : ℕ) (timer t : Timer) (es : List Expiry) → (line == l && is_same timer t) ≡ false → moment_of l t (without line timer es) ≡ moment_of l t es
moment_of-others line l timer t [] apart = refl
moment_of-others line l timer t (e ∷ es) apart =
    (elim (is_of line timer e) as (λ b. is_of line timer e ≡ b → moment_of l t (cond (not b) (e ∷ without line timer es) (without line timer es)) ≡ moment_of l t (e ∷ es)) [
      | true ↦ λ h. moment_of-others line l timer t es apart ∙ sym (ap (λ b. cond b (Some e.moment) (moment_of l t es)) (of_same line l timer t e h ∙ apart))
      | false ↦ λ _. ap (λ m. cond (is_of l t e) (Some e.moment) m) (moment_of-others line l timer t es apart)
    ]) refl

-- a timer that is put in where it was not has that moment, and the others keep theirs
moment_of-put_in : (line : ℕ) (timer : Timer) (e : Expiry) (es : List Expiry) → is_of line timer e ≡ true → AllByRecursion (λ other. is_of line timer other ≡ false) es → moment_of line timer (put_in_order is_before e es) ≡ Some e.moment
moment_of-put_in line timer e [] own none = ap (λ b. cond b (Some e.moment) None) own
moment_of-put_in line timer e (x ∷ xs) own none =
    by_place is_before e x xs (λ es. moment_of line timer es ≡ Some e.moment)
    (λ _. ap (λ b. cond b (Some x.moment) (moment_of line timer (put_in_order is_before e xs))) none.0 ∙ moment_of-put_in line timer e xs own none.1)
    (λ _. ap (λ b. cond b (Some e.moment) (moment_of line timer (x ∷ xs))) own)

moment_of-beside : (l : ℕ) (t : Timer) (e : Expiry) (es : List Expiry) → is_of l t e ≡ false → moment_of l t (put_in_order is_before e es) ≡ moment_of l t es
moment_of-beside l t e [] apart = ap (λ b. cond b (Some e.moment) None) apart
moment_of-beside l t e (x ∷ xs) apart =
    by_place is_before e x xs (λ es. moment_of l t es ≡ moment_of l t (x ∷ xs))
    (λ _. ap (λ m. cond (is_of l t x) (Some x.moment) m) (moment_of-beside l t e xs apart))
    (λ _. ap (λ b. cond b (Some e.moment) (moment_of l t (x ∷ xs))) apart)

-- the two orders
pub start_moves_one : (c : Timers) (line : ℕ) (timer : Timer) (now : ℕ) → finds_place c line (Start timer) ≡ true → MovesOne line timer (Some (now + duration c.lengths timer)) c (with_order c line (Start timer) now)
unfolding with_order
start_moves_one c line timer now found = grind (arith, moment_of-put_in, of_itself, none_of-without, moment_of-beside, moment_of-others)

pub stop_moves_one : (c : Timers) (line : ℕ) (timer : Timer) (now : ℕ) → MovesOne line timer None c (with_order c line (Stop timer) now)
unfolding with_order
stop_moves_one c line timer now = grind (arith, moment_of-none, none_of-without, moment_of-others)
