-- Timers keep their lengths: how long timers run that are started from then on may be changed at any time, and a timer that runs
-- keeps the length that it was started with.
use Rattle.std.specs.Prelude.{◌≡◌, ℕ, ◌+◌, ◌≤◌, ◌<◌, List, [], ◌∷◌, ◌++◌, map, fold, Option, None, Some, IfSome, if◌then◌else◌}
use Rattle.lapd_clock.specs.Timer.{Timer, Lengths, Start, Stop}
use Rattle.lapd_clock.specs.Timers.{Expiry}
use Rattle.model_timed.specs.Clock.{stopped, due, next_moment, with_lengths}
use Rattle.model_timed.specs.Timed.{Kind, Timed, Step, after, IsPrompt}
use Rattle.model_timed.specs.Sayings.{Saying, ordered, expired, said, is_of}
use Rattle.model_timed.specs.TimersAreTrue.{length_of, gone_to}

-- A step as before, or other lengths.
pub data Change (Event : Type 0) : Type 0 where
  step : Step Event → Change Event
  set_lengths : Lengths → Change Event

abbrev pub after_change : {Card Event : Type 0} → Kind Card Event → Change Event → Timed Card → Timed Card
after_change k (step s) t = after k s t
after_change k (set_lengths lengths) t = record t { clock = with_lengths lengths t.clock }

unfoldable pub after_changes : {Card Event : Type 0} → Kind Card Event → List (Change Event) → Timed Card → Timed Card
after_changes k [] t = t
after_changes k (c ∷ changes) t = after_changes k changes (after_change k c t)

-- They are prompt where the steps are.
abbrev pub IsPromptChange : {Card Event : Type 0} → Kind Card Event → ℕ → Change Event → Timed Card → Type 0
IsPromptChange k late (step s) t = IsPrompt k late s t
IsPromptChange k late (set_lengths lengths) t = Unit {0}

unfoldable pub ArePrompt : {Card Event : Type 0} → Kind Card Event → ℕ → List (Change Event) → Timed Card → Type 0
ArePrompt k late [] t = Unit {0}
ArePrompt k late (c ∷ changes) t = IsPromptChange k late c t × ArePrompt k late changes (after_change k c t)

-- The moment to which time went on last.
abbrev pub gone_by : {Event : Type 0} → ℕ → Change Event → ℕ
gone_by before (step s) = gone_to before s
gone_by before (set_lengths lengths) = before

-- What is said, and which lengths were set last when it is said.
pub record Told : Type 0 where
  pub saying : Saying
  pub lengths : Lengths

abbrev pub while_set : Lengths → Saying → Told
while_set lengths saying = record { saying = saying; lengths = lengths }

unfoldable pub told_in : {Card Event : Type 0} → Kind Card Event → Lengths → List (Change Event) → Timed Card → List Told
told_in k lengths [] t = []
told_in k lengths (step s ∷ changes) t = map (while_set lengths) (said k s t) ++ told_in k lengths changes (after k s t)
told_in k lengths (set_lengths new ∷ changes) t = told_in k new changes (after_change k (set_lengths new) t)

-- When a timer of a line was started last, and with which lengths, if it was neither stopped nor expired since; and when a
-- timer that was started so falls due.
pub record Begun : Type 0 where
  pub moment : ℕ
  pub lengths : Lengths

abbrev pub begun_by : ℕ → Timer → Option Begun → Lengths → Saying → Option Begun
begun_by line timer before lengths (ordered now other (Start its)) = if is_of line timer other its then Some (record { moment = now; lengths = lengths }) else before
begun_by line timer before lengths (ordered now other (Stop its)) = if is_of line timer other its then None else before
begun_by line timer before lengths (expired now other its) = if is_of line timer other its then None else before

abbrev pub begun_as : ℕ → Timer → Option Begun → Told → Option Begun
begun_as line timer before told = begun_by line timer before told.lengths told.saying

abbrev pub last_begun : ℕ → Timer → List Told → Option Begun
last_begun line timer tolds = fold (begun_as line timer) None tolds

abbrev pub falls_at : Timer → Begun → ℕ
falls_at timer b = b.moment + length_of b.lengths timer

-- A timer that is due was started, and neither stopped nor expired since; its length as it was then has passed since, and at
-- most so many milliseconds more.
abbrev pub KeepsItsLength : ℕ → ℕ → List Told → Expiry → Type 0
KeepsItsLength late now tolds x =
    (b : Begun) × (last_begun x.line x.timer tolds ≡ Some b) × (falls_at x.timer b ≤ now) × (now ≤ falls_at x.timer b + late)

-- No timer is passed over; and where nothing is due, of none has even the length passed.
abbrev pub NoneIsPassedOver : ℕ → ℕ → Option Expiry → List Told → Type 0
NoneIsPassedOver late now due tolds =
    (line : ℕ) (timer : Timer) → IfSome (last_begun line timer tolds) (λ b. (now ≤ falls_at timer b + late) × (due ≡ None → now < falls_at timer b))

-- The next moment at which a timer falls due is the first of those at which a timer that was started so does; and there is none
-- where no timer was.
abbrev pub IsFallingAt : ℕ → List Told → Type 0
IsFallingAt moment tolds = (line : ℕ) × (timer : Timer) × (b : Begun) × (last_begun line timer tolds ≡ Some b) × (moment ≡ falls_at timer b)

abbrev pub IsNextOf : Option ℕ → List Told → Type 0
IsNextOf None tolds = (line : ℕ) (timer : Timer) → last_begun line timer tolds ≡ None
IsNextOf (Some moment) tolds = IsFallingAt moment tolds × ((line : ℕ) (timer : Timer) → IfSome (last_begun line timer tolds) (λ b. moment ≤ falls_at timer b))

-- After any list of steps, other lengths among them, that is prompt, from a card at whose clock no timer runs.
pub record TimersKeepLengths {Card Event : Type 0} (k : Kind Card Event) : Type 0 where
  pub moment : (card : Card) (lengths : Lengths) (steps : List (Change Event))
      → let t : Timed Card = record { card = card; clock = stopped lengths } in (after_changes k steps t).clock.now ≡ fold gone_by 0 steps
  pub kept : (card : Card) (lengths : Lengths) (late : ℕ) (steps : List (Change Event))
      → let t : Timed Card = record { card = card; clock = stopped lengths } in let u = after_changes k steps t in ArePrompt k late steps t
      → IfSome (due u.clock) (KeepsItsLength late u.clock.now (told_in k lengths steps t))
  pub none_late : (card : Card) (lengths : Lengths) (late : ℕ) (steps : List (Change Event))
      → let t : Timed Card = record { card = card; clock = stopped lengths } in let u = after_changes k steps t in ArePrompt k late steps t
      → NoneIsPassedOver late u.clock.now (due u.clock) (told_in k lengths steps t)
  pub first : (card : Card) (lengths : Lengths) (late : ℕ) (steps : List (Change Event))
      → let t : Timed Card = record { card = card; clock = stopped lengths } in let u = after_changes k steps t in ArePrompt k late steps t
      → IsNextOf (next_moment u.clock) (told_in k lengths steps t)
