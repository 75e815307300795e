-- Lemmas: timers in order of time, what runs, what is due, and how long until then. Of timers each in a place of its own: the set
-- that the places stand for (Standing), a timer in its place (OwnPlace), what is kept of lines (Bounds), which place leads (Leading),
-- what is kept of a card (Keeping), one that is started anew (Again), and which places of a line run (AnyPlace). Of a clock: what is
-- kept of it (Kept).
pub mod Vocabulary
pub mod Ordered
pub mod TimerOrder
pub mod Images
pub mod StandsFor
pub mod Running
pub mod Once
pub mod First
pub mod Calls
pub mod TimeUntil
pub mod OneMoved
pub mod Ranges
pub mod Restoring
pub mod ImageRead
pub mod Restored
pub mod Standing
pub mod OwnPlace
pub mod Bounds
pub mod Leading
pub mod Keeping
pub mod AnyPlace
pub mod Kept
pub mod Soonest
pub mod Again
pub mod MomentRead
