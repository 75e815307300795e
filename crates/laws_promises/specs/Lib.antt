-- What is promised of every list of events.
pub mod Promises
pub mod PromisesOfOctets
pub mod Linear
pub mod FrameReply
pub mod FrameDrive
pub mod TimedReply
pub mod TimedRun
pub mod TimedDrive
pub mod RequestsMean
pub mod EventsMean
pub mod RepliesMean
pub mod RunsMean
pub mod StartsMean
