-- One order of a report: what `orders_status` is then.
use Rattle.std.specs.Prelude.{◌≡◌, ℕ, Bool, true, cond, [], ◌&&◌, ◌<◌, ◌≤◌, List, ◌∷◌, length, get_or, Some, None}
use Rattle.std.specs.Option.{unwrap_or}
use Rattle.lapd_c.proofs.Vocabulary.{arith}
use Rattle.lapd_clock.specs.Timers.{Timers}
use Rattle.lapd_c.specs.declared.plain.timers.PlainOrder.{PlainOrder}
use Rattle.lapd_c.specs.Clocks.{order_status}
use Rattle.lapd_c.specs.Orders.{orders_status}
use Rattle.lapd_c.specs.Statuses.{ok, wrong_time, no_place}
use Rattle.lapd_c.specs.Timers.{order_in}

found_by : (late placed : Bool)
    → cond late wrong_time (cond placed ok no_place)
    ≡ unwrap_or (cond late (Some wrong_time) None) (cond (placed && true) ok no_place)
found_by late placed = grind arith

-- The only one of a list.
pub alone_status : (c : Timers) (line now : ℕ) (other : PlainOrder) (orders : List PlainOrder) → 1 ≤ length orders → length orders < 2
    → order_status c line (order_in (get_or orders 0 other)) now ≡ orders_status c line orders now
alone_status c line now other [] some few = absurd (omega arith)
alone_status c line now other (p ∷ []) some few = grind (arith, found_by)
alone_status c line now other (p ∷ q ∷ more) some few = absurd (omega arith)
