-- The machine of a data link.
--
-- Read beside docs/MACHINE.md, in this order: Link, Events, Told; Steps and Words, of which rows are made (a test or
-- an N(R) in the middle of a row is read at that moment); the states, one equation a row: TeiAssigned,
-- AwaitingEstablishment, AwaitingRelease, MultipleFrame, Established, TimerRecovery; Requests and Offers; Machine; and
-- Room, which tells what a request for data will be refused for. A link keeps all contents since its numbers were
-- zero, and plain numbers that never wrap. Counts has what is counted of a link. Sound, Notes, Rises, Deliveries, Numbered, Timed and TwoEnds are the
-- words of the laws. Image has the octets of a link in an image of its card, and Same when two links are the same.
pub mod Counts
pub mod Link
pub mod Events
pub mod Told
pub mod Steps
pub mod Words
pub mod TeiAssigned
pub mod AwaitingEstablishment
pub mod AwaitingRelease
pub mod MultipleFrame
pub mod Established
pub mod TimerRecovery
pub mod Requests
pub mod Offers
pub mod Machine
pub mod Room
pub mod Sound
pub mod Rises
pub mod Deliveries
pub mod Numbered
pub mod Notes
pub mod TwoEnds
pub mod Timed
pub mod Image
pub mod Same
mod WorkedOwed
