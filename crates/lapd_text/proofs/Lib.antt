-- Lemmas: digits, numbers and pieces of text, and where a line stands in room.
pub mod Vocabulary
pub mod OctetDigits
pub mod Numerals
pub mod Pieces
pub mod Written
pub mod Named
