-- A clock as a set of running timers, and what each call does to it.
use Rattle.std.specs.Prelude.{ℕ, ◌+◌, ◌-◌, ◌*◌, Bool, true, not, ◌&&◌, ◌||◌, ◌==◌, if◌then◌else◌, nat_lt, nat_le, List, [], ◌∷◌, filter, count_by, sum_by, Option, None, Some}
use Rattle.std.specs.List.{list_any}
use Rattle.std.specs.declared.cmp.Ordering.{Ordering}
use Rattle.std.specs.Ordering.{nat_cmp, ordering_then, is_lt}
use Rattle.lapd_clock.specs.InOrder.{put_in_order}
use Rattle.lapd_clock.specs.Timer.{Timer, Order, Start, Stop, Lengths, standard, duration, timer_cmp, is_same}

-- A running timer: the moment at which it falls due, in milliseconds, its line, and which timer of the line it is.
pub record Expiry : Type 0 where
  pub moment : ℕ
  pub line : ℕ
  pub timer : Timer

-- The order in which timers fall due: by moment, at one moment by line, and on one line by the order of its timers.
abbrev pub expiry_cmp : Expiry → Expiry → Ordering
expiry_cmp a b =
    ordering_then (nat_cmp a.moment b.moment) (ordering_then (nat_cmp a.line b.line) (timer_cmp a.timer b.timer))

abbrev pub is_before : Expiry → Expiry → Bool
is_before a b = is_lt (expiry_cmp a b)

-- A clock: its lines, the places of each line, how long timers run that are started, and the finite set of its running
-- timers. The set is written as the list
-- of its members in the order in which they fall due.
pub record Timers : Type 0 where
  pub lines : ℕ
  pub places : ℕ
  pub lengths : Lengths
  pub running : List Expiry

-- a clock at its start: for each terminal T200 and T203 of two links, and for each line T201 or T202
abbrev pub idle_with : Lengths → ℕ → ℕ → Timers
idle_with lengths lines terminals = record { lines = lines; places = 4 * terminals + 1; lengths = lengths; running = [] }

abbrev pub idle : ℕ → ℕ → Timers
idle lines terminals = idle_with standard lines terminals

-- The clock with other lengths: timers that run keep their moments.
abbrev pub with_lengths : Lengths → Timers → Timers
with_lengths lengths c = record c { lengths = lengths }

-- the set with one more member
abbrev pub with_expiry : Expiry → List Expiry → List Expiry
with_expiry e es = put_in_order is_before e es

-- this timer of this line
abbrev pub is_of : ℕ → Timer → Expiry → Bool
is_of line timer e = e.line == line && is_same e.timer timer

-- the set without it
abbrev pub without : ℕ → Timer → List Expiry → List Expiry
without line timer es = filter (λ e. not (is_of line timer e)) es

-- whether it runs
abbrev pub is_held : ℕ → Timer → List Expiry → Bool
is_held line timer es = list_any (is_of line timer) es

-- how many timers of the line run
abbrev pub count_on : ℕ → List Expiry → ℕ
count_on line es = count_by (λ e. e.line == line) es

-- Whether an order finds its place: a timer that runs keeps its place, and a timer that is started needs a free one.
unfoldable pub finds_place : Timers → ℕ → Order → Bool
finds_place c line (Start timer) = is_held line timer c.running || nat_lt (count_on line c.running) c.places
finds_place c line (Stop timer) = true

-- The clock after an order at the moment now: a timer that is started has one moment, also where it ran before.
unfoldable pub with_order : Timers → ℕ → Order → ℕ → Timers
with_order c line (Start timer) now =
    if finds_place c line (Start timer)
    then record c { running = with_expiry (record { moment = now + duration c.lengths timer; line = line; timer = timer }) (without line timer c.running) }
    else c
with_order c line (Stop timer) now = record c { running = without line timer c.running }

-- What is due at the moment now: the first, where its moment is not later; else none.
abbrev pub first_due : List Expiry → ℕ → Option (ℕ × Timer)
first_due [] now = None
first_due (e ∷ es) now = if nat_le e.moment now then Some (e.line, e.timer) else None

-- the set after it is taken out
abbrev pub after_first_due : List Expiry → ℕ → List Expiry
after_first_due [] now = []
after_first_due (e ∷ es) now = if nat_le e.moment now then es else e ∷ es

abbrev pub due_at : Timers → ℕ → Option (ℕ × Timer)
due_at c now = first_due c.running now

abbrev pub after_due : Timers → ℕ → Timers
after_due c now = record c { running = after_first_due c.running now }

-- the moment of the first, due or not
abbrev pub first_moment : List Expiry → Option ℕ
first_moment [] = None
first_moment (e ∷ es) = Some e.moment

abbrev pub next_moment : Timers → Option ℕ
next_moment c = first_moment c.running

-- how long the running timers still run until a moment, all together; one that falls due later counts nothing
abbrev pub time_until : ℕ → Timers → ℕ
time_until end c = sum_by (λ e. end + 1 - e.moment) c.running
