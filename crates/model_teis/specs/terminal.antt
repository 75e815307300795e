-- A terminal. Read in this order: Messages, Numbers, Machine, Words, Rows, Events; Sound and Laws are what holds of these.
pub mod Messages
pub mod Numbers
pub mod Machine
pub mod Words
pub mod Rows
pub mod Events
pub mod Sound
pub mod Laws
pub mod Image
pub mod Worked
