-- Lemmas of this crate.
mod Contents
mod Counts
pub mod Vocabulary
pub mod Steps
pub mod Giving
pub mod Queue
pub mod Tests
pub mod Resting
pub mod ControlFrames
pub mod Image
pub mod Sizes
