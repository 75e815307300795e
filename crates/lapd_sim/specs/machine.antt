-- A script as a run of a card. Read in this order: Pieces of `lapd_script`, Board, Setup, Steps, Script; the others are what its laws say.
pub mod Board
pub mod Setup
pub mod Images
pub mod Steps
pub mod Script
pub mod Events
pub mod Replies
pub mod Waits
pub mod Within
pub mod Asked
pub mod Heard
pub mod Worked
pub mod WorkedScripts
pub mod WorkedEvents
