-- The network's side. Read in this order: Messages, Machine, Words, Rows, Events; Sound and Laws are what holds of these.
pub mod Messages
pub mod Machine
pub mod Words
pub mod Rows
pub mod Events
pub mod Sound
pub mod Laws
pub mod Image
pub mod Worked
