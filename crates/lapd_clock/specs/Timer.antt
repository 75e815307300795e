-- The timers of a line: how long each runs, and which goes first among those that fall due at one moment.
use Rattle.std.specs.Prelude.{ℕ, ◌≤◌, ◌&&◌, Bool, not, nat_le, if◌then◌else◌, Option, None, Some}
use Rattle.std.specs.declared.cmp.Ordering.{Ordering}
use Rattle.std.specs.Ordering.{nat_cmp, ordering_then, is_eq}
use Rattle.lapd_clock.specs.declared.fault.LengthFault.{LengthFault}
use Rattle.lapd_clock.specs.declared.fault.LengthFault.TheVariants as fault
pub use Rattle.lapd_frame.specs.declared.timers.Timer.{Timer}
pub use Rattle.lapd_frame.specs.declared.timers.Timer.TheVariants.{T200, T203, T201, T202}
pub use Rattle.lapd_frame.specs.declared.timers.Order.{Order}
pub use Rattle.lapd_frame.specs.declared.timers.Order.TheVariants.{Start, Stop}
pub use Rattle.lapd_frame.specs.declared.services.Service.{Service}
pub use Rattle.lapd_frame.specs.declared.services.Service.TheVariants.{Call, Packet}

-- How long the timers run, in milliseconds: T200 and T203 of each link, and of each line T201 or, at a terminal, T202.
pub record Lengths : Type 0 where
  pub t200 : ℕ
  pub t203 : ℕ
  pub t201 : ℕ
  pub t202 : ℕ

-- The default values of Q.921 (09/97): clauses 5.9.1 (T200), 5.9.8 (T203), 5.9.6 (T201, the same as T200) and 5.9.7 (T202).
abbrev pub standard : Lengths
standard = record { t200 = 1000; t203 = 10000; t201 = 1000; t202 = 2000 }

-- Each runs a millisecond at least, and an hour at most (profile).
abbrev pub is_length : ℕ → Bool
is_length milliseconds = nat_le 1 milliseconds && nat_le milliseconds 3600000

-- The first of the four that is out of this range.
abbrev pub first_out_of_range : Lengths → Option LengthFault
first_out_of_range lengths =
    if not (is_length lengths.t200) then Some fault.T200
    else if not (is_length lengths.t203) then Some fault.T203
    else if not (is_length lengths.t201) then Some fault.T201
    else if not (is_length lengths.t202) then Some fault.T202
    else None

pub record AreInRange (lengths : Lengths) : Type 0 where
  pub t200 : 1 ≤ lengths.t200
  pub t203 : 1 ≤ lengths.t203
  pub t201 : 1 ≤ lengths.t201
  pub t202 : 1 ≤ lengths.t202
  pub t200_most : lengths.t200 ≤ 3600000
  pub t203_most : lengths.t203 ≤ 3600000
  pub t201_most : lengths.t201 ≤ 3600000
  pub t202_most : lengths.t202 ≤ 3600000

-- How long a timer runs.
abbrev pub duration : Lengths → Timer → ℕ
duration lengths (T200 service tei) = lengths.t200
duration lengths (T203 service tei) = lengths.t203
duration lengths T201 = lengths.t201
duration lengths T202 = lengths.t202

-- The order at one moment on one line (profile): all T200, then all T203, then T201 or T202 (of which a line
-- has one);
abbrev pub kind_rank : Timer → ℕ
kind_rank (T200 service tei) = 0
kind_rank (T203 service tei) = 1
kind_rank T201 = 2
kind_rank T202 = 3

-- among those of one kind, by TEI;
abbrev pub tei_rank : Timer → ℕ
tei_rank (T200 service tei) = tei
tei_rank (T203 service tei) = tei
tei_rank T201 = 0
tei_rank T202 = 0

-- and at one TEI the call link before the packet link.
abbrev pub rank_of_service : Service → ℕ
rank_of_service Call = 0
rank_of_service Packet = 1

abbrev pub service_rank : Timer → ℕ
service_rank (T200 service tei) = rank_of_service service
service_rank (T203 service tei) = rank_of_service service
service_rank T201 = 0
service_rank T202 = 0

abbrev pub timer_cmp : Timer → Timer → Ordering
timer_cmp a b =
    ordering_then (nat_cmp (kind_rank a) (kind_rank b))
    (ordering_then (nat_cmp (tei_rank a) (tei_rank b)) (nat_cmp (service_rank a) (service_rank b)))

-- whether two timers are the same one: neither goes first
abbrev pub is_same : Timer → Timer → Bool
is_same a b = is_eq (timer_cmp a b)
