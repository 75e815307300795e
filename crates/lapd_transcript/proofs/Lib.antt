-- Lemmas: what is written one after the other; what a terminal sends, and what a listener finds.
pub mod Vocabulary
pub mod Known
pub mod CounterNames
pub mod Sending
pub mod Listeners
