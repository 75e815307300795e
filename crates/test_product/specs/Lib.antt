-- Worked values of the definitions of the lower crates.
pub mod WorkedStream
pub mod WorkedBits
pub mod WorkedNumbers
pub mod WorkedFrames
pub mod WorkedTable
pub mod WorkedClock
pub mod WorkedTeis
pub mod WorkedTeisByAnnexB
pub mod WorkedCounters
pub mod WorkedImages
