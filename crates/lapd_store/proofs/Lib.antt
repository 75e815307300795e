-- Lemmas: who owns which slot; queues in slots; a shelf of slabs, and one in a region of octets.
pub mod Vocabulary
pub mod Entries
pub mod Focus
pub mod Ownership
pub mod Queues
pub mod StoreLemmas
mod Pointers
mod Memory
mod Sharing
mod Values
mod Runs
mod Blocks
mod SlabLemmas
mod RawLemmas
mod RawSound
