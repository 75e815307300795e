-- Worked values of a shelf; and lemmas: a sink that keeps replies.
mod WorkedShelf
pub mod Keeping
