-- A clock that a caller keeps beside a card is as the clock of a card that keeps its own timers.
use Rattle.std.specs.Prelude.{◌≡◌, ℕ, ◌+◌, ◌*◌, ◌==◌, ◌&&◌, ◌||◌, nat_lt, true, count_by, option_map, if◌then◌else◌}
use Rattle.std.specs.List.{list_any}
use Rattle.std.specs.Option.{option_map_or}
use Rattle.lapd_clock.specs.Timer.{Timer, Order, Start, Stop, Lengths, is_same, standard}
use Rattle.lapd_clock.specs.Timers as callers
use Rattle.lapd_clock.specs.Timers.{Expiry, Timers}
use Rattle.model_timed.specs.Clock as own
use Rattle.model_timed.specs.Clock.{Clock, stopped, obey, without_first}

-- What runs at it, and how long timers run that are started, at a moment.
abbrev pub clock_of : Timers → ℕ → Clock
clock_of c now = record { lengths = c.lengths; running = c.running; now = now }

-- It has as many lines, and places on each, as it had.
abbrev pub IsAsLarge : Timers → Timers → Type 0
IsAsLarge old new = (new.lines ≡ old.lines) × (new.places ≡ old.places)

pub record CallersClocksAreClocks : Type 0 where
  -- It begins so, for so many lines, with a place for T200 and T203 of two links of each terminal of a line, and for one timer of the
  -- line.
  pub begins : (lengths : Lengths) (lines terminals : ℕ) → clock_of (callers.idle_with lengths lines terminals) 0 ≡ stopped lengths
  pub lines : (lengths : Lengths) (lines terminals : ℕ) → (callers.idle_with lengths lines terminals).lines ≡ lines
  pub places : (lengths : Lengths) (lines terminals : ℕ) → (callers.idle_with lengths lines terminals).places ≡ 4 * terminals + 1
  pub usual : (lines terminals : ℕ) → callers.idle lines terminals ≡ callers.idle_with standard lines terminals
  -- An order that finds a place is carried out, and another changes nothing. A timer that runs has a place, and another finds one if fewer
  -- of its line run than there are. (Beside a card each order finds one: `BesideACard`.)
  pub found : (c : Timers) (line : ℕ) (timer : Timer)
      → callers.finds_place c line (Start timer) ≡ (list_any (λ (e : Expiry). e.line == line && is_same e.timer timer) c.running || nat_lt (count_by (λ (e : Expiry). e.line == line) c.running) c.places)
  pub stops : (c : Timers) (line : ℕ) (timer : Timer) → callers.finds_place c line (Stop timer) ≡ true
  pub obeys : (c : Timers) (line : ℕ) (order : Order) (now : ℕ)
      → clock_of (callers.with_order c line order now) now ≡ (if callers.finds_place c line order then obey line (clock_of c now) order else clock_of c now)
  -- The same is due, and taken out; the same falls due next; and new lengths are the same.
  pub due : (c : Timers) (now : ℕ) → callers.due_at c now ≡ option_map (λ (x : Expiry). (x.line, x.timer)) (own.due (clock_of c now))
  pub taken : (c : Timers) (now : ℕ)
      → clock_of (callers.after_due c now) now ≡ option_map_or (λ (x : Expiry). without_first (clock_of c now)) (own.due (clock_of c now)) (clock_of c now)
  pub next : (c : Timers) (now : ℕ) → callers.next_moment c ≡ own.next_moment (clock_of c now)
  pub lengths : (c : Timers) (new : Lengths) (now : ℕ) → clock_of (callers.with_lengths new c) now ≡ own.with_lengths new (clock_of c now)
  -- Its lines and its places stay.
  pub as_large_ordered : (c : Timers) (line : ℕ) (order : Order) (now : ℕ) → IsAsLarge c (callers.with_order c line order now)
  pub as_large_taken : (c : Timers) (now : ℕ) → IsAsLarge c (callers.after_due c now)
  pub as_large_set : (c : Timers) (new : Lengths) → IsAsLarge c (callers.with_lengths new c)
