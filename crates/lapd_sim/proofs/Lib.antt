-- Lemmas: a script that is read, played and printed, on octets and on whole frames.
pub mod Vocabulary
pub mod OneByOne
pub mod GivingUp
pub mod Scenes
pub mod Eachs
pub mod Ending
pub mod Wholes
pub mod Playing
pub mod Paging
pub mod Boards
pub mod Waits
pub mod Falling
pub mod Octets
pub mod Pulls
pub mod OfMachine
pub mod Restoring
