-- What a line of a script means. Read in this order: Words, Number, Octets; Meaning, Read, with Worked; Job, Bound.
-- Pieces and ScriptLines have how the lines are read; FaultLines and Shown what the program tells and shows.
pub mod Words
pub mod Number
pub mod Octets
pub mod Cause
pub mod Word
pub mod Meaning
pub mod Read
pub mod Worked
pub mod Job
pub mod Bound
pub mod Kinds
pub mod Pieces
pub mod Faults
pub mod ScriptLines
pub mod FaultLines
pub mod Shown
-- the words of the contracts, from where they are defined
pub use Rattle.lapd_frame.specs.declared.addresses.Side.{Side}
pub use Rattle.lapd_transcript.specs.Streams.{Writes}
pub use Rattle.lapd_script.specs.Cause.{cause}
pub use Rattle.lapd_script.specs.FaultLines.{frame_line, IsWrittenOrFails, play_line}
pub use Rattle.lapd_script.specs.Job.{job, job_or_none, limits_of, seen}
pub use Rattle.lapd_script.specs.Meaning.{into, IsCounted, meant_by, rx}
pub use Rattle.lapd_script.specs.Number.{number, within}
pub use Rattle.lapd_script.specs.Octets.{octets}
pub use Rattle.lapd_script.specs.Shown.{IsUnshown, ShowsFrame}
pub use Rattle.lapd_script.specs.Words.{texts}
pub use Rattle.lapd_script.specs.declared.word.Word.TheVariants.{Ask, Failed, In, Pull, Rx}
