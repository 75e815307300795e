-- Which handle a call leaves behind.
use Rattle.lapd_c.specs.Clocks as clocks
use Rattle.lapd_c.specs.HandlesLeft.{ClockIsLeft, HandlesAreLeft}
use Rattle.lapd_c.specs.declared.clock.ClockHandle.{ClockHandle}

-- of a clock
pub clock_left : (h : ClockHandle) → clocks.IsHandle h → ClockIsLeft h
clock_left h is = record { started = is.said; lines = is.lines }

pub handles_are_left_by : HandlesAreLeft
handles_are_left_by = record {
  given = λ h left. left;
  clock_given = λ h left. record { said = left.started; lines = left.lines };
  call = λ asked old new result before r called. called.call.handle;
  block = λ cards line result names old new before r called. called.handle;
  moment = λ old new result before r called. called.handle;
  lengths = λ old new result called. called.handle;
  start = λ kind config old new result s. s.handle;
  timed_start = λ kind config lengths old new result s. s.handle;
  card_end = λ old new result freed. freed.handle;
  clock = λ tells leaves old new result called. clock_left new called.handle;
  clock_start = λ config old new result s. clock_left new s.handle;
  clock_end = λ old new result freed. clock_left new freed.handle;
}
