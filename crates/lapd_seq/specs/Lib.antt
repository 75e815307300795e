-- The definitions that the contracts of this crate cite.
pub mod Numbers
pub mod Circle
pub mod Windows
