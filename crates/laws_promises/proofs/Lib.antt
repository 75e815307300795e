-- Lemmas.
pub mod Vocabulary
pub mod Kept
mod Telling
pub mod FrameLaws
pub mod OctetsKept
pub mod Linear
pub mod TimedRunning
pub mod TimedLines
pub mod TimedServing
pub mod TimedKinds
pub mod TimedLaws
pub mod CallsMean
pub mod StartsMean
