-- The timers that a line itself runs, and the states of the links of a place.
pub use Rattle.lapd_line.specs.Running.{own_timers, states_at}
