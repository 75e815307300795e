-- The measure by which it ends to wait for the timers that fall due until a moment.
use Rattle.lapd_clock.proofs.Vocabulary.{ℕ, ◌+◌, ◌-◌, ◌≤◌, not, List, refl, arith, sum_by, sum_by-filter_both, Timer, Stop, Expiry, Timers, is_of, without, with_order, time_until}

-- what the timers of a list count until a moment
abbrev left : ℕ → List Expiry → ℕ
left end es = sum_by (λ e. end + 1 - e.moment) es

-- what is taken out of the set adds nothing to what is left
left-without : (line : ℕ) (timer : Timer) (end : ℕ) (es : List Expiry) → left end (without line timer es) ≤ left end es
left-without line timer end es =
    omega (arith, sum_by-filter_both (λ x. not (is_of line timer x)) (λ x. not (not (is_of line timer x))) (λ _. refl) (λ (x : Expiry). end + 1 - x.moment) es)

-- a timer that is stopped adds nothing
pub time_until-stop : (c : Timers) (line : ℕ) (timer : Timer) (now end : ℕ) → time_until end (with_order c line (Stop timer) now) ≤ time_until end c
unfolding with_order
time_until-stop c line timer now end = left-without line timer end c.running
