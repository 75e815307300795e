-- What a receiver hears of a line, and what layer 3 asked for there.
pub mod Granted
pub mod Pulled
pub mod UnitsAreHeard
pub mod FramesGoOut
pub mod AnswersAreHeard
pub mod LatestIsBegun
pub mod Worked
pub mod WorkedAnswers
