-- A card that keeps its own timers, of whichever kind: the card, and the clock of its timers.
use Rattle.std.specs.Prelude.{ℕ, ◌+◌, ◌≤◌, List, [], ◌∷◌, ◌++◌, All, Option, None, Some, option_map, option_to_list}
use Rattle.std.specs.Option.{option_map_or}
use Rattle.lapd_clock.specs.Timer.{Timer, Order}
use Rattle.lapd_clock.specs.Timers.{Expiry}
use Rattle.model_timed.specs.Clock.{Clock, obeyed, due, without_first, at_moment}

-- What has to be known of the card: at which line an event happens, which event it is that a timer of a line expires, what
-- each event makes of the card, and what its answer orders of the timers of the line. And which events a caller may hand it:
-- those at its lines, but no expiry, as expiries are the clock's.
pub record Kind (Card Event : Type 0) : Type 1 where
  pub line : Event → ℕ
  pub expiry : ℕ → Timer → Event
  pub after : Event → Card → Card
  pub orders : Event → Card → List Order
  pub MayHappen : Event → Card → Type 0

pub record Timed (Card : Type 0) : Type 0 where
  pub card : Card
  pub clock : Clock

-- A step: something happens at a line; the time is now; or what is due falls due, first what was due first.
pub data Step (Event : Type 0) : Type 0 where
  happens : Event → Step Event
  time : ℕ → Step Event
  falls_due : Step Event

-- The orders of the answer to an event are carried out at once.
abbrev pub with_event : {Card Event : Type 0} → Kind Card Event → Event → Timed Card → Timed Card
with_event k e t = record { card = k.after e t.card; clock = obeyed (k.line e) (k.orders e t.card) t.clock }

-- A timer that falls due runs no more, and its expiry happens.
abbrev pub expiry_at : {Card Event : Type 0} → Kind Card Event → Expiry → Event
expiry_at k x = k.expiry x.line x.timer

abbrev pub with_expiry : {Card Event : Type 0} → Kind Card Event → Timed Card → Expiry → Timed Card
with_expiry k t x = with_event k (expiry_at k x) (record t { clock = without_first t.clock })

abbrev pub after : {Card Event : Type 0} → Kind Card Event → Step Event → Timed Card → Timed Card
after k (happens e) t = with_event k e t
after k (time moment) t = record t { clock = at_moment moment t.clock }
after k falls_due t = option_map_or (with_expiry k t) (due t.clock) t

unfoldable pub after_all : {Card Event : Type 0} → Kind Card Event → List (Step Event) → Timed Card → Timed Card
after_all k [] t = t
after_all k (s ∷ steps) t = after_all k steps (after k s t)

-- The event of the card that a step is, if it is one, and those of a list of steps.
abbrev pub event_of : {Card Event : Type 0} → Kind Card Event → Step Event → Timed Card → Option Event
event_of k (happens e) t = Some e
event_of k (time moment) t = None
event_of k falls_due t = option_map (expiry_at k) (due t.clock)

unfoldable pub events_of : {Card Event : Type 0} → Kind Card Event → List (Step Event) → Timed Card → List Event
events_of k [] t = []
events_of k (s ∷ steps) t = option_to_list (event_of k s t) ++ events_of k steps (after k s t)

-- Steps are prompt, up to so many milliseconds, where time goes on, but over no moment of a timer that runs and so many more;
-- and what happens beside is what may happen.
abbrev pub IsInTime : ℕ → ℕ → Expiry → Type 0
IsInTime late moment x = moment ≤ x.moment + late

abbrev pub IsPrompt : {Card Event : Type 0} → Kind Card Event → ℕ → Step Event → Timed Card → Type 0
IsPrompt k late (happens e) t = k.MayHappen e t.card
IsPrompt k late (time moment) t = (t.clock.now ≤ moment) × All (IsInTime late moment) t.clock.running
IsPrompt k late falls_due t = Unit {0}

unfoldable pub ArePrompt : {Card Event : Type 0} → Kind Card Event → ℕ → List (Step Event) → Timed Card → Type 0
ArePrompt k late [] t = Unit {0}
ArePrompt k late (s ∷ steps) t = IsPrompt k late s t × ArePrompt k late steps (after k s t)
