-- What the values of a terminal stand for, and what may be saved of their parts.
pub mod Outcome
pub mod Saved
