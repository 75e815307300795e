-- Octets around the machine of frames.
--
-- Read in this order: Port, what an octet and a pull mean, and what a port makes of what is said to that; Line, a line with a
-- port, and Card, a card with a port for each of its lines; Event, what happens at such a card; Run, whole lists of events;
-- Codec, the law: such a run is, at the card of frames inside, the run of what it means. Stored, Counts, Drops and Isolation
-- are the words of the laws of octets, Promises and Laws their statements. HeardOctets says that what is heard are octets,
-- GoingOut what a receiver hears of a line, Pulls how many pulls bring a frame, AtOnce when a pull takes one. Begun, HeadHeard and
-- FrameHeard are what a card answers about itself, LatestHeard that this is of what it heard. Whole is what a controller's frames
-- and faults would be in octets, WholeLaws what these are heard as, and that a card hears what stands in its octets. Worked and
-- WorkedText have worked values.
pub mod Port
pub mod Line
pub mod Event
pub mod Card
pub mod Run
pub mod Codec
pub mod Reached
pub mod Begun
pub mod HeadHeard
pub mod FrameHeard
pub mod Sound
pub mod Stored
pub mod Counts
pub mod Drops
pub mod Isolation
pub mod Promises
pub mod HeardOctets
pub mod GoingOut
pub mod Pulls
pub mod AtOnce
pub mod Laws
pub mod Whole
pub mod WholeLaws
pub mod LatestHeard
pub mod Worked
pub mod WorkedText
