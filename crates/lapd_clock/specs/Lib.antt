-- When timers fall due. Read in this order: Timer, Timers, InOrder, Sound; then Moments and Given. Of timers each in a place of its
-- own: Firsts, Places, OwnPlaces, Bounds and MomentImage. Of a clock: Image, Restoring and Kept.
pub mod Timer
pub mod Timers
pub mod InOrder
pub mod Sound
pub mod Firsts
pub mod Places
pub mod Image
pub mod Restoring
pub mod Moments
pub mod Given
pub mod OwnPlaces
pub mod Kept
pub mod Bounds
pub mod MomentImage
