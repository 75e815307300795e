-- Timers are true: each expiry comes as long after the last start of its timer as the timer runs.
use Rattle.std.specs.Prelude.{◌≡◌, ℕ, ◌+◌, ◌≤◌, ◌<◌, List, fold, Option, None, Some, IfSome}
use Rattle.lapd_clock.specs.Timer.{Timer, T200, T203, T201, T202, Lengths}
use Rattle.lapd_clock.specs.Timers.{Expiry}
use Rattle.model_timed.specs.Clock.{stopped, due, next_moment}
use Rattle.model_timed.specs.Timed.{Kind, Timed, Step, time, after_all, ArePrompt}
use Rattle.model_timed.specs.Sayings.{Saying, said_in, last_start}

-- How long a timer runs (Q.921 clauses 5.9.1 and 5.9.6 to 5.9.8).
abbrev pub length_of : Lengths → Timer → ℕ
length_of lengths (T200 service tei) = lengths.t200
length_of lengths (T203 service tei) = lengths.t203
length_of lengths T201 = lengths.t201
length_of lengths T202 = lengths.t202

-- The moment to which time went on last in some steps; 0 where it did not.
abbrev pub gone_to : {Event : Type 0} → ℕ → Step Event → ℕ
gone_to before (time moment) = moment
gone_to before other = before

abbrev pub moment_after : {Event : Type 0} → List (Step Event) → ℕ
moment_after steps = fold gone_to 0 steps

-- A timer that is due was started, and neither stopped nor expired since; its length has passed since then, and at most so
-- many milliseconds more.
abbrev pub IsTrue : ℕ → Lengths → ℕ → List Saying → Expiry → Type 0
IsTrue late lengths now sayings x =
    (start : ℕ) × (last_start x.line x.timer sayings ≡ Some start)
    × (start + length_of lengths x.timer ≤ now) × (now ≤ start + length_of lengths x.timer + late)

-- No timer is passed over: of each that was started so, the length and so many milliseconds more have not passed; and where
-- nothing is due, not even the length.
abbrev pub NoneIsPassed : ℕ → Lengths → ℕ → Option Expiry → List Saying → Type 0
NoneIsPassed late lengths now due sayings =
    (line : ℕ) (timer : Timer) → IfSome (last_start line timer sayings) (λ start.
    (now ≤ start + length_of lengths timer + late) × (due ≡ None → now < start + length_of lengths timer))

-- The next moment at which a timer falls due is the first of those at which a timer that was started so does; and there is none
-- where no timer was.
abbrev pub FallsDueAt : Lengths → ℕ → List Saying → Type 0
FallsDueAt lengths moment sayings =
    (line : ℕ) × (timer : Timer) × (start : ℕ) × (last_start line timer sayings ≡ Some start) × (moment ≡ start + length_of lengths timer)

abbrev pub IsNext : Lengths → Option ℕ → List Saying → Type 0
IsNext lengths None sayings = (line : ℕ) (timer : Timer) → last_start line timer sayings ≡ None
IsNext lengths (Some moment) sayings =
    FallsDueAt lengths moment sayings
    × ((line : ℕ) (timer : Timer) → IfSome (last_start line timer sayings) (λ start. moment ≤ start + length_of lengths timer))

-- After any list of steps that is prompt, from a card at whose clock no timer runs. If it is prompt to the millisecond, each
-- expiry comes exactly so long after the last start of its timer.
pub record TimersAreTrue {Card Event : Type 0} (k : Kind Card Event) : Type 0 where
  -- The clock is at the moment to which time went on, whoever is prompt.
  pub on_time : (card : Card) (lengths : Lengths) (steps : List (Step Event))
      → let t : Timed Card = record { card = card; clock = stopped lengths } in (after_all k steps t).clock.now ≡ moment_after steps
  pub expiries : (card : Card) (lengths : Lengths) (late : ℕ) (steps : List (Step Event))
      → let t : Timed Card = record { card = card; clock = stopped lengths } in let u = after_all k steps t in ArePrompt k late steps t
      → IfSome (due u.clock) (IsTrue late lengths u.clock.now (said_in k steps t))
  pub none_passed : (card : Card) (lengths : Lengths) (late : ℕ) (steps : List (Step Event))
      → let t : Timed Card = record { card = card; clock = stopped lengths } in let u = after_all k steps t in ArePrompt k late steps t
      → NoneIsPassed late lengths u.clock.now (due u.clock) (said_in k steps t)
  pub next : (card : Card) (lengths : Lengths) (late : ℕ) (steps : List (Step Event))
      → let t : Timed Card = record { card = card; clock = stopped lengths } in let u = after_all k steps t in ArePrompt k late steps t
      → IsNext lengths (next_moment u.clock) (said_in k steps t)
