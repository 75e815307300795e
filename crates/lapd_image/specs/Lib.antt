-- The octets of an image: numbers, lists and contents; what it means to write them, and to read them.
pub mod Numbers
pub mod Puts
pub mod Reads
