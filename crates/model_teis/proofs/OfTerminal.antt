-- Lemmas of a terminal: queues of messages, what each word keeps, what is served and told, the period of the reference numbers,
-- and what an image says.
pub mod Vocabulary
pub mod Counted
pub mod Queues
pub mod SoundWords
mod Walk
mod Answered
pub mod Told
pub mod Read
pub mod Brief
pub mod Numbered
pub mod Rising
pub mod Served
pub mod LawLemmas
pub mod Given
pub mod GivenUp
pub mod Period
pub mod ImageRead
