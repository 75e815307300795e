-- What is said of timers in the course of steps: which were started and stopped, and which expired, each at its moment.
use Rattle.std.specs.Prelude.{ℕ, List, [], ◌∷◌, ◌++◌, ◌==◌, ◌&&◌, Bool, map, fold, Option, None, Some, if◌then◌else◌}
use Rattle.lapd_clock.specs.Timer.{Timer, Order, Start, Stop, is_same}
use Rattle.lapd_clock.specs.Timers.{Expiry}
use Rattle.model_timed.specs.Clock.{due}
use Rattle.model_timed.specs.Timed.{Kind, Timed, Step, happens, time, falls_due, after, expiry_at}

-- At a moment a timer of a line is started or stopped, or it expires.
pub data Saying : Type 0 where
  ordered : ℕ → ℕ → Order → Saying
  expired : ℕ → ℕ → Timer → Saying

-- What an event says is what its answer orders; of a timer that falls due it is said first that it expires.
abbrev pub order_at : ℕ → ℕ → Order → Saying
order_at now line order = ordered now line order

abbrev pub said_by_event : {Card Event : Type 0} → Kind Card Event → Event → Timed Card → List Saying
said_by_event k e t = map (order_at t.clock.now (k.line e)) (k.orders e t.card)

abbrev pub said_by_expiry : {Card Event : Type 0} → Kind Card Event → Timed Card → Option Expiry → List Saying
said_by_expiry k t None = []
said_by_expiry k t (Some x) = expired t.clock.now x.line x.timer ∷ said_by_event k (expiry_at k x) t

abbrev pub said : {Card Event : Type 0} → Kind Card Event → Step Event → Timed Card → List Saying
said k (happens e) t = said_by_event k e t
said k (time moment) t = []
said k falls_due t = said_by_expiry k t (due t.clock)

unfoldable pub said_in : {Card Event : Type 0} → Kind Card Event → List (Step Event) → Timed Card → List Saying
said_in k [] t = []
said_in k (s ∷ steps) t = said k s t ++ said_in k steps (after k s t)

-- When a timer of a line was started last, if it was neither stopped nor expired since.
abbrev pub is_of : ℕ → Timer → ℕ → Timer → Bool
is_of line timer other its = other == line && is_same its timer

abbrev pub started_by : ℕ → Timer → Option ℕ → Saying → Option ℕ
started_by line timer before (ordered now other (Start its)) = if is_of line timer other its then Some now else before
started_by line timer before (ordered now other (Stop its)) = if is_of line timer other its then None else before
started_by line timer before (expired now other its) = if is_of line timer other its then None else before

abbrev pub last_start : ℕ → Timer → List Saying → Option ℕ
last_start line timer sayings = fold (started_by line timer) None sayings
