-- Lemmas of a terminal: the messages that wait, as they are read, and the whole, part by part; and its line down.
pub mod Waiting
pub mod Restored
pub mod Down
