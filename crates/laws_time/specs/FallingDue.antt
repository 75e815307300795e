-- Falling due ends: while the clock stays at one moment, no more timers expire than were due, and then none is due.
use Rattle.std.specs.Prelude.{◌≡◌, ℕ, ◌≤◌, ◌<◌, List, All, length, replicate, count_by, nat_le, None, IfSome}
use Rattle.lapd_clock.specs.Timer.{Timer, Lengths}
use Rattle.lapd_clock.specs.Timers.{Expiry}
use Rattle.model_timed.specs.Clock.{Clock, stopped, due}
use Rattle.model_timed.specs.Timed.{Kind, Timed, Step, falls_due, after, after_all, events_of}
use Rattle.model_timed.specs.TimersAreTrue.{length_of}

-- How many of the timers that run are due; and that each timer runs for a millisecond at least, whichever it is.
abbrev pub count_due : Clock → ℕ
count_due c = count_by (λ (x : Expiry). nat_le x.moment c.now) c.running

abbrev pub EachRuns : Lengths → Type 0
EachRuns lengths = (timer : Timer) → 1 ≤ length_of lengths timer

-- What is due falls due so often, and nothing else happens.
pub record EndsIn {Card Event : Type 0} (k : Kind Card Event) (n : ℕ) (t : Timed Card) : Type 0 where
  -- An expiry leaves fewer timers due than there were. So however often what is due falls due, no more timers expire than were due;
  -- and after as many times none is due.
  pub fewer : IfSome (due t.clock) (λ x. count_due (after k falls_due t).clock < count_due t.clock)
  pub bounded : length (events_of k (replicate n falls_due) t) ≤ count_due t.clock
  pub none_due : count_due t.clock ≤ n → due (after_all k (replicate n falls_due) t).clock ≡ None
  -- From the start of a card on, each timer that runs then falls due later than this moment.
  pub later : (card : Card) (lengths : Lengths) (steps : List (Step Event)) → t ≡ after_all k steps (record { card = card; clock = stopped lengths })
      → count_due t.clock ≤ n → All (λ x. t.clock.now < x.moment) (after_all k (replicate n falls_due) t).clock.running

-- So it is at any clock, also one that was given new lengths.
abbrev pub FallingDueEnds : {Card Event : Type 0} → Kind Card Event → Type 0
FallingDueEnds {Card} k = (n : ℕ) (t : Timed Card) → EachRuns t.clock.lengths → EndsIn k n t
