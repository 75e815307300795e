-- Each timer that runs falls due within an hour, whatever becomes of the timers.
use Rattle.std.proofs.Common.{arith, ℕ, ◌+◌, ◌≤◌, not}
use Rattle.std.specs.Prelude.{All}
use Rattle.std.proofs.lemmas.List.Elements.{All-drop, All-from_recursion, recursion_from_All}
use Rattle.lapd_clock.proofs.Ordered.{All-filter, All-put_in_order}
use Rattle.lapd_clock.specs.Given.{lengths_of}
use Rattle.lapd_clock.specs.Timer.{duration, AreInRange, Order, Start, Stop, Timer, T200, T203, T201, T202}
use Rattle.lapd_clock.specs.Timer as clock
use Rattle.lapd_clock.specs.Timers.{is_before, is_of, without, Expiry}
use Rattle.lapd_clock.specs.declared.lengths.Lengths.{Lengths}
use Rattle.model_timed.specs.Clock.{obey, without_first, Clock}
use Rattle.lapd_timed.specs.Stands.{FallsWithinHour}

pub in-range : (l : Lengths) → AreInRange (lengths_of l)
in-range l = record {
  t200 = l.least.0;
  t203 = l.least.1;
  t201 = l.least.2;
  t202 = l.least.3;
  t200_most = l.most.0;
  t203_most = l.most.1;
  t201_most = l.most.2;
  t202_most = l.most.3;
}

at-most : (l : clock.Lengths) (timer : Timer) → AreInRange l → duration l timer ≤ 3600000
at-most l (T200 service tei) range = range.t200_most
at-most l (T203 service tei) range = range.t203_most
at-most l T201 range = range.t201_most
at-most l T202 range = range.t202_most

abbrev IsSoon : ℕ → Expiry → Type 0
IsSoon now e = e.moment ≤ now + 3600000

stopped-soon : (line : ℕ) (timer : Timer) (c : Clock) → FallsWithinHour c → All (IsSoon c.now) (without line timer c.running)
stopped-soon line timer c within =
    All-from_recursion (IsSoon c.now) (without line timer c.running)
    (All-filter (IsSoon c.now) (λ e. not (is_of line timer e)) c.running (recursion_from_All (IsSoon c.now) c.running within.moments))

-- an order that is carried out
pub hour-obeyed : (line : ℕ) (order : Order) (c : Clock) → FallsWithinHour c → FallsWithinHour (obey line c order)
hour-obeyed line (Start timer) c within = record {
  lengths = within.lengths;
  moments = All-from_recursion (IsSoon c.now) _
      (All-put_in_order is_before (IsSoon c.now) (record { moment = c.now + duration c.lengths timer; line = line; timer = timer }) (without line timer c.running)
      (omega (arith, at-most c.lengths timer within.lengths))
      (recursion_from_All (IsSoon c.now) (without line timer c.running) (stopped-soon line timer c within)));
}
hour-obeyed line (Stop timer) c within = record { lengths = within.lengths; moments = stopped-soon line timer c within }

-- and what falls due
pub hour-first : (c : Clock) → FallsWithinHour c → FallsWithinHour (without_first c)
hour-first c within = record { lengths = within.lengths; moments = All-drop (IsSoon c.now) 1 c.running within.moments }
