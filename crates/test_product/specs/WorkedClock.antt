-- The definitions on worked values: each fact holds by computing.
use Rattle.std.specs.Prelude.{◌≡◌, ℕ, false, List, [], ◌∷◌, Some, None, refl}
use Rattle.lapd_clock.specs.Timer.{Timer, Order, Start, Stop, T200, T203, T201, Call, Packet}
use Rattle.lapd_clock.specs.Timers.{Expiry, Timers, idle, with_lengths, finds_place, with_order, due_at, after_due, next_moment, time_until}

abbrev at : ℕ → ℕ → Timer → Expiry
at moment line timer = record { moment = moment; line = line; timer = timer }

-- what is ordered of the timers of a line, at its moments
abbrev ordered : ℕ → List (ℕ × Order) → Timers → Timers
ordered line [] c = c
ordered line (o ∷ os) c = ordered line os (with_order c line o.1 o.0)

-- a clock of two lines with one terminal each, and five timers on line 1 that fall due at 10,000
abbrev busy : Timers
busy =
    ordered 1 ((9000, Start T201) ∷ (0, Start (T203 Packet 64)) ∷ (9000, Start (T200 Packet 64)) ∷ (0, Start (T203 Call 64)) ∷ (9000, Start (T200 Call 64)) ∷ [])
    (idle 2 1)

busy_in_order : busy.running ≡ at 10000 1 (T200 Call 64) ∷ at 10000 1 (T200 Packet 64) ∷ at 10000 1 (T203 Call 64) ∷ at 10000 1 (T203 Packet 64) ∷ at 10000 1 T201 ∷ []
unfolding with_order finds_place
busy_in_order = refl

-- the line is full: it takes no sixth timer, and takes again one that runs
full : finds_place busy 1 (Start (T200 Call 65)) ≡ false
unfolding with_order finds_place
full = refl

full_unchanged : with_order busy 1 (Start (T200 Call 65)) 0 ≡ busy
unfolding with_order finds_place
full_unchanged = refl

held_again : (with_order busy 1 (Start (T200 Packet 64)) 9500).running ≡ at 10000 1 (T200 Call 64) ∷ at 10000 1 (T203 Call 64) ∷ at 10000 1 (T203 Packet 64) ∷ at 10000 1 T201 ∷ at 10500 1 (T200 Packet 64) ∷ []
unfolding with_order finds_place
held_again = refl

-- the other line has its own places, and goes first at one moment
other_line : due_at (with_order busy 0 (Start T201) 9000) 10000 ≡ Some (0, T201)
unfolding with_order finds_place
other_line = refl

stopped : (with_order (with_order busy 1 (Stop (T203 Call 64)) 0) 1 (Stop T201) 0).running ≡ at 10000 1 (T200 Call 64) ∷ at 10000 1 (T200 Packet 64) ∷ at 10000 1 (T203 Packet 64) ∷ []
unfolding with_order finds_place
stopped = refl

stopped_nothing : with_order busy 1 (Stop (T200 Call 65)) 0 ≡ busy
unfolding with_order finds_place
stopped_nothing = refl

-- none is due before its moment, and at its moment the first is taken out
not_yet : due_at busy 9999 ≡ None
unfolding with_order finds_place
not_yet = refl

now : due_at busy 10000 ≡ Some (1, T200 Call 64)
unfolding with_order finds_place
now = refl

next_one : due_at (after_due busy 10000) 10000 ≡ Some (1, T200 Packet 64)
unfolding with_order finds_place
next_one = refl

moments : next_moment busy ≡ Some 10000
unfolding with_order finds_place
moments = refl

none_running : next_moment (idle 64 8) ≡ None
none_running = refl

-- with other lengths what runs keeps its moments, and what is started then runs as long as they say
abbrev slow : Timers
slow = with_lengths (record { t200 = 12000; t203 = 60000; t201 = 2000; t202 = 4000 }) busy

kept : slow.running ≡ busy.running
unfolding with_order finds_place
kept = refl

runs_longer : (with_order slow 1 (Start (T200 Call 64)) 9500).running ≡ at 10000 1 (T200 Packet 64) ∷ at 10000 1 (T203 Call 64) ∷ at 10000 1 (T203 Packet 64) ∷ at 10000 1 T201 ∷ at 21500 1 (T200 Call 64) ∷ []
unfolding with_order finds_place
runs_longer = refl

-- what falls due at the end still counts, and what falls due later does not
counted : time_until 10001 busy ≡ 10
unfolding with_order finds_place
counted = refl

counted_at_the_end : time_until 10000 (after_due busy 10000) ≡ 4
unfolding with_order finds_place
counted_at_the_end = refl

later_not_counted : time_until 9999 busy ≡ 0
unfolding with_order finds_place
later_not_counted = refl
