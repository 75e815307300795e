-- Lemmas.
pub mod Seen
mod AsOctets
mod Emptied
mod Spans
pub mod UnitsAreHeard
pub mod FramesGoOut
pub mod AnswersAreHeard
pub mod LatestIsBegun
