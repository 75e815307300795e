-- The machine of a card.
--
-- Read in this order: Event, Card, Machine, Run. Stored, Counts, ByEvent, Drops, Numbered, Isolation, Sound and Reached are the
-- words of the laws, Promises and Laws their statements. Room is what a card answers about itself. Counted is what is counted
-- of its lines. Takes are calls for the next frame. The folder ports has the same of a card of octets.
pub mod Event
pub mod Card
pub mod Machine
pub mod Run
pub mod Sound
pub mod Reached
pub mod Takes
pub mod Stored
pub mod Counts
pub mod Room
pub mod ByEvent
pub mod Drops
pub mod Numbered
pub mod Isolation
pub mod Promises
pub mod Laws
pub mod Counted
pub mod ports
