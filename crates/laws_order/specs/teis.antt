-- A network's line and a terminal's on one bus, and the laws of their TEIs.
pub mod Bus
pub mod Assignments
pub mod TwoTerminals
pub mod Worked
