-- A card that keeps its own timers.
--
-- Read in this order: Clock, Timed; Frames and Octets, which are the two kinds of cards; Sayings, what is said of timers;
-- TimersAreTrue, LengthsChange and RunTheSame, what is proved; Changes, when the
-- state of a link changed last. Worked, WorkedOctets and WorkedLengths have runs that compute.
pub mod Clock
pub mod Timed
pub mod Frames
pub mod Octets
pub mod LengthsChange
pub mod RunTheSame
pub mod Changes
pub mod Sayings
pub mod TimersAreTrue
pub mod Worked
pub mod WorkedOctets
pub mod WorkedLengths
