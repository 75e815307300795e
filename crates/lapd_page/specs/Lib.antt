-- What a page gets where it plays a script: first Rooms, then Ends.
pub mod Rooms
pub mod Ends
