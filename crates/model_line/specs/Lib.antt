-- The machine of a line.
--
-- Read in this order: Config, Usual, Event, Request; Line; Effect, whom an event concerns and what comes of it; Sides; Heard,
-- Expiry, Refusal, Requested, Taken; Machine. Came is what a controller's frames and faults are heard as, and Room what a line
-- answers about itself. Stored, Counts, Deliveries and Sound are the words of the laws, Laws their statements. Counted is what
-- its counters count, and Runs which timers run at a caller's. Of an image of a card, Image has the octets of a line, ConfigImage
-- those of the configuration, and Most how many there are at most. Same has when two lines are the same.
pub mod Config
pub mod Usual
pub mod Request
pub mod Event
pub mod Line
pub mod Effect
pub mod Sides
pub mod Heard
pub mod Expiry
pub mod Refusal
pub mod Room
pub mod Requested
pub mod Taken
pub mod Machine
pub mod Stored
pub mod Counts
pub mod Deliveries
pub mod Sound
pub mod Laws
pub mod Came
pub mod Counted
pub mod Runs
pub mod Image
pub mod ConfigImage
pub mod Same
pub mod Most
