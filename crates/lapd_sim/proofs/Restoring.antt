-- A card that is restored from its own image stands for what it stood for.
pub mod Links
pub mod Lines
pub mod Cards
pub mod Rooms
pub mod Setups
pub mod Saving
