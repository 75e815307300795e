-- What is counted of a line, and what the counters are.
--
-- Read in this order: Kinds, and Messages, those of TEI management; Counters, their names and values; Shown, what a frame,
-- a note and an answer are to them; Laws, that each is a number; Image, how they stand in an image of their card.
pub mod Kinds
pub mod Messages
pub mod Counters
pub mod Shown
pub mod Laws
pub mod Image
