-- A clock that a caller keeps beside a card without timers of its own: each order of the card finds a place there. So the clock is as
-- that of a card that keeps its own timers.
use Rattle.std.specs.Prelude.{◌≡◌, ◌<◌, ℕ, ◌+◌, ◌*◌, ◌==◌, List, [], ◌∷◌, IfSome, count_by}
use Rattle.std.specs.Option.{option_map_or}
use Rattle.lapd_clock.specs.Timer.{Timer, Order, Start, Stop, Lengths}
use Rattle.lapd_clock.specs.Timers as callers
use Rattle.lapd_clock.specs.Timers.{Expiry, Timers}
use Rattle.model_line.specs.Sound.{IsInRange}
use Rattle.model_line.specs.declared.config.Config.{Config}
use Rattle.model_timed.specs.Clock.{stopped}
use Rattle.model_timed.specs.Timed as timed
use Rattle.model_timed.specs.Timed.{Kind, Timed, Step, happens, time, falls_due, ArePrompt}
use Rattle.laws_time.specs.CallersClocks.{clock_of}

-- The card, the clock, and the moment.
pub record Beside (Card : Type 0) : Type 0 where
  pub card : Card
  pub clock : Timers
  pub now : ℕ

-- The caller carries out the orders of an answer, one after the other.
abbrev pub carried_out : ℕ → ℕ → List Order → Timers → Timers
carried_out line now [] clock = clock
carried_out line now (order ∷ orders) clock = carried_out line now orders (callers.with_order clock line order now)

abbrev pub with_event : {Card Event : Type 0} → Kind Card Event → Event → Beside Card → Beside Card
with_event k e b = record b { card = k.after e b.card; clock = carried_out (k.line e) b.now (k.orders e b.card) b.clock }

-- What is due is taken out, and its expiry is handed to the card.
abbrev pub taken_out : {Card : Type 0} → Beside Card → Beside Card
taken_out b = record b { clock = callers.after_due b.clock b.now }

abbrev pub with_expiry : {Card Event : Type 0} → Kind Card Event → Beside Card → ℕ × Timer → Beside Card
with_expiry k b x = with_event k (k.expiry x.0 x.1) (taken_out b)

abbrev pub after : {Card Event : Type 0} → Kind Card Event → Step Event → Beside Card → Beside Card
after k (happens e) b = with_event k e b
after k (time moment) b = record b { now = moment }
after k falls_due b = option_map_or (with_expiry k b) (callers.due_at b.clock b.now) b

unfoldable pub after_all : {Card Event : Type 0} → Kind Card Event → List (Step Event) → Beside Card → Beside Card
after_all k [] b = b
after_all k (s ∷ steps) b = after_all k steps (after k s b)

-- Whenever orders start a timer, fewer timers of their line run than there are places.
abbrev pub FindPlaces : ℕ → ℕ → ℕ → List Order → Timers → Type 0
FindPlaces places line now [] clock = Unit {0}
FindPlaces places line now (Start timer ∷ orders) clock =
    (count_by (λ (e : Expiry). e.line == line) clock.running < places) × FindPlaces places line now orders (callers.with_order clock line (Start timer) now)
FindPlaces places line now (Stop timer ∷ orders) clock = FindPlaces places line now orders (callers.with_order clock line (Stop timer) now)

abbrev pub EventFinds : {Card Event : Type 0} → Kind Card Event → ℕ → Event → Beside Card → Type 0
EventFinds k places e b = FindPlaces places (k.line e) b.now (k.orders e b.card) b.clock

abbrev pub StepFinds : {Card Event : Type 0} → Kind Card Event → ℕ → Step Event → Beside Card → Type 0
StepFinds k places (happens e) b = EventFinds k places e b
StepFinds k places (time moment) b = Unit {0}
StepFinds k places falls_due b = IfSome (callers.due_at b.clock b.now) (λ x. EventFinds k places (k.expiry x.0 x.1) (taken_out b))

unfoldable pub AllFind : {Card Event : Type 0} → Kind Card Event → ℕ → List (Step Event) → Beside Card → Type 0
AllFind k places [] b = Unit {0}
AllFind k places (s ∷ steps) b = StepFinds k places s b × AllFind k places steps (after k s b)

-- After some steps the card is that which keeps its own timers, and the clock is as its clock.
pub record KeepsUp {Card Event : Type 0} (k : Kind Card Event) (places : ℕ) (steps : List (Step Event)) (b : Beside Card) (t : Timed Card) : Type 0 where
  pub find : AllFind k places steps b
  pub card : (after_all k steps b).card ≡ (timed.after_all k steps t).card
  pub clock : let u = after_all k steps b in clock_of u.clock u.now ≡ (timed.after_all k steps t).clock

-- A clock begins with the lines and terminals of the card, and steps are prompt to some number of milliseconds. Then each start meets
-- fewer timers of its line than four a terminal and one.
abbrev pub ClocksKeepUp : {Card Event : Type 0} → Kind Card Event → (Config → Card) → Type 0
ClocksKeepUp {Card} {Event} k fresh =
    (c : Config) (lengths : Lengths) (late : ℕ) (steps : List (Step Event)) → IsInRange c
    → let t : Timed Card = record { card = fresh c; clock = stopped lengths } in ArePrompt k late steps t
    → KeepsUp k (4 * c.terminals + 1) steps (record { card = fresh c; clock = callers.idle_with lengths c.lines c.terminals; now = 0 }) t
