-- Where contents wait. Read Store and Ownership first; no public clause cites Memory, Block, SlabStore and RawStore.
pub mod Memory
pub mod Region
pub mod Block
pub mod Store
pub mod Ownership
pub mod SlabStore
pub mod RawStore
pub mod SlotRing
