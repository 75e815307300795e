-- Lemmas of this crate.
pub mod Vocabulary
pub mod OrderSteps
pub mod Ending
pub mod Asking
pub mod Offering
pub mod Rooming
pub mod Images
pub mod ReadContents
pub mod Restoring
