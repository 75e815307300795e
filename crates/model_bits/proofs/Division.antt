-- What is proved of the frame check as long division, with no word of the code.
pub mod Sums
pub mod Linear
pub mod Register
pub mod Unique
