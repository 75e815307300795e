-- Lemmas: lists and tables of TEIs; and of each side what its words keep, what is served and told, and what an image says.
pub mod Vocabulary
pub mod Lists
pub mod Tables
pub mod Named
pub mod OfNetwork
pub mod OfTerminal
