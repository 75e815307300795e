-- Lemmas: what is read, served and saved.
pub mod Vocabulary
pub mod Among
pub mod Named
pub mod DueBits
pub mod TableRead
pub mod MemoryRead
pub mod QueueRead
pub mod Restored
pub mod OfTerminal
