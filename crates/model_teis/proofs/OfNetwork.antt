-- Lemmas of the network's side: messages that are remembered, what each word keeps, what is served, and what an image says.
pub mod Vocabulary
pub mod Dues
pub mod Memories
pub mod SoundWords
mod Walk
pub mod Ends
pub mod Served
pub mod Counted
pub mod Pigeonholes
pub mod LawLemmas
pub mod Brief
pub mod Followed
pub mod GivenUp
pub mod Disowned
pub mod ImageRead
