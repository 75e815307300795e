-- A link with its shelf, as the program plays it.
pub mod Works
