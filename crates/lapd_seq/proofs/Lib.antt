-- Lemmas.
pub mod Vocabulary
pub mod Callers
pub mod Remainders
