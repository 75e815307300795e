-- Lemmas: octets written one after the other, and what is read of them.
pub mod Puts
pub mod Reading
pub mod Parts
pub mod ReadLists
pub mod Spelled
