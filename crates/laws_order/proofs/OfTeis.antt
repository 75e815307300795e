-- Lemmas on the TEIs of a bus.
pub mod Lists
pub mod NewlyMade
pub mod NetworkSteps
pub mod Frames
pub mod TerminalSteps
pub mod Waiting
pub mod NetworkHolds
pub mod TerminalHolds
pub mod Seen
pub mod Runs
pub mod Law
