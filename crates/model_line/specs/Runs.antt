-- Which timers of a line run at a caller's that obeys the orders in the answers, and which are started.
use Rattle.std.specs.Prelude.{Bool, false, List, IsSome, if◌then◌else◌}
use Rattle.std.specs.List.{AllByRecursion}
use Rattle.lapd_frame.specs.declared.timers.Order.{Order}
use Rattle.lapd_frame.specs.declared.timers.Order.TheVariants.{Start}
use Rattle.lapd_frame.specs.declared.timers.Timer.{Timer}
use Rattle.lapd_frame.specs.declared.timers.Timer.TheVariants.{T200, T203}
use Rattle.model_link.specs.Timed.{is_same, obeyed}
use Rattle.model_line.specs.Event.{Event, expiry, Answer}
use Rattle.model_line.specs.Laws.{orders_in}
use Rattle.model_line.specs.Line.{Line, place_in}

-- At a caller's, a timer that has expired runs no more when it hands the expiry to the line;
abbrev pub left_by : Event → Timer → Bool → Bool
left_by (expiry expired) timer running = if is_same expired timer then false else running
left_by other timer running = running

-- and then it obeys the orders of the answer, one after the other.
abbrev pub runs_then : Timer → Bool → Event → Answer → Bool
runs_then timer running event answer = obeyed timer (left_by event timer running) (orders_in answer)

-- A timer of a link is started only where its TEI is on the line.
abbrev pub IsPlaced : Line → Order → Type 0
IsPlaced l (Start (T200 service tei)) = IsSome (place_in l tei)
IsPlaced l (Start (T203 service tei)) = IsSome (place_in l tei)
IsPlaced l other = Unit {0}

abbrev pub ArePlaced : Line → List Order → Type 0
ArePlaced l orders = AllByRecursion (IsPlaced l) orders
