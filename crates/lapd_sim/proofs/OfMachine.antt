-- Lemmas: expiries until a moment, and scripts as runs of a card.
pub mod Vocabulary
pub mod Orders
pub mod Expiries
pub mod Kept
pub mod Kinds
pub mod Runs
pub mod Meanings
pub mod Events
pub mod Replies
pub mod Waits
pub mod Within
pub mod Asked
pub mod Heard
pub mod OnBoards
