-- Lemmas of ports: the law of the codec, what stands in the octets, and what is promised of them.
pub mod Vocabulary
mod FramesIdle
mod FramesJudged
pub mod Gains
pub mod Gaps
pub mod WholeOctets
pub mod HeardOctets
pub mod TextGoesOn
pub mod Steps
pub mod PortGoesOn
pub mod Fold
pub mod Codec
mod FramesThere
mod Aborted
pub mod FramesHeard
pub mod LatestHeard
pub mod Sound
pub mod Reaching
pub mod Heard
mod Octets
pub mod Stored
pub mod Drops
pub mod Answered
pub mod Linear
pub mod Isolated
pub mod PortRuns
pub mod LastItem
pub mod AsOctets
pub mod LineHeard
pub mod CallsPut
pub mod GoingOut
pub mod AtOnce
pub mod Pulls
