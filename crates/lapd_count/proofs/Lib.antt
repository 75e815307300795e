-- Lemmas: kinds of counters and their places.
pub mod Vocabulary
pub mod KindTable
pub mod ControlKinds
pub mod Numbers
pub mod Places
