-- A card that keeps its own timers, or one whose timers are its owner's.
--
-- Read after those of `model_timed` and OwnPlaces of `lapd_clock`: OfCard, Places, Marked, Touches, Named, Stands, Carried, Kinds,
-- TimedStands, Called, MomentsImage, MomentsRead, Image.
pub mod OfCard
pub mod MomentsImage
pub mod MomentsRead
pub mod Places
pub mod Marked
pub mod Touches
pub mod Named
pub mod Stands
pub mod Carried
pub mod Kinds
pub mod TimedStands
pub mod Called
pub mod Image
