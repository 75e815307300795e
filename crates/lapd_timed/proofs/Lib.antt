-- Lemmas: how the places are laid out (Laid), and whose they are (OfCard); orders that are carried out in places (Carrying), what stands when all are (Finishing), what falls due (Falling), and what the
-- calls come to (Calls, Carried), of the timers; that each falls due within an hour (WithinHour); of a card with them what an event comes to (Events), and a step (Steps).
-- Of an image: the moments of places (InImage) run as the card does (RunAs), and are read one after the other (Passing, MomentsRead);
-- what is written is that of a card (Spelled), and may be saved (MaySave); which links wait is read in WaitsRead, and timers
-- in ChangesRead, LengthsRead, TimersRead and ClockRead; a card in ImageRead, and all of it in WholeRead.
pub mod WithinHour
pub mod OfCard
pub mod Laid
pub mod InImage
pub mod RunAs
pub mod Passing
pub mod MomentsRead
pub mod Carrying
pub mod Finishing
pub mod Falling
pub mod Calls
pub mod Carried
pub mod WaitsRead
pub mod Marked
pub mod TeisMarked
pub mod PlacesKept
pub mod PlacesMarked
pub mod StatesSeen
pub mod Touching
pub mod Touched
pub mod EventKeeps
pub mod OctetMeans
pub mod HeardTouches
pub mod MarkedSteps
pub mod Events
pub mod Led
pub mod Steps
pub mod Spelled
pub mod Refilled
pub mod ChangesRead
pub mod LengthsRead
pub mod TimersRead
pub mod ClockRead
pub mod MaySave
pub mod ImageRead
pub mod WholeRead
