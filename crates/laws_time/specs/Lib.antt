-- What becomes of a link within so many milliseconds.
pub mod Cards
pub mod DueFirst
pub mod CallersClocks
pub mod BesideACard
pub mod WorkedBeside
pub mod FallingDue
pub mod Watched
pub mod Silence
pub mod ArrivalsAwaited
pub mod WorkedSilence
pub mod WorkedFallingDue
pub mod ArrivalsWorked
pub mod ArrivalsUsedUp
pub mod WorkedPremises
pub mod circuit
