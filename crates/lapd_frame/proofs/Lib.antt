-- Lemmas.
pub mod Vocabulary
pub mod AddressField
pub mod ControlField
pub mod Spelling
pub mod Written
pub mod Naming
