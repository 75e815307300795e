-- Lemmas: words, numbers and lines of a script; how its lines are read, and how one frame is shown.
pub mod Vocabulary
pub mod JobLemmas
pub mod NumberLemmas
pub mod ReadLemmas
pub mod WordLemmas
pub mod WordRows
pub mod Rests
pub mod Pieces
pub mod Reading
pub mod Advancing
pub mod LongDigits
pub mod Showing
