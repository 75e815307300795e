-- What `play` promises. Read first Read and Pieces of `lapd_script` (what a line means, and where one ends) and Text of
-- `lapd_transcript` (the lines of a transcript); of the folder machine Setup, Steps and Script: one fold over the lines, up
-- to the first fault. Then Plays here; and for the program FaultLines, Shown and Kinds of `lapd_script`, Shown of
-- `lapd_transcript`, and Serves.
pub mod Boards
pub mod Stands
pub mod Obeyed
pub mod Pages
pub mod Plays
pub mod Serves
pub mod machine
-- the words of the contracts, from where they are defined
pub use Rattle.lapd_card.specs.Kinds.{config_of, counters_of, kind_of}
pub use Rattle.lapd_line.specs.Reports.{told_beside, IsClear}
pub use Rattle.lapd_script.specs.Bound.{bound}
pub use Rattle.lapd_script.specs.FaultLines.{IsWrittenOrFails, play_line}
pub use Rattle.lapd_script.specs.Faults.{reads_failed_by, writes_failed_by}
pub use Rattle.lapd_script.specs.Job.{frame, job, limits, run}
pub use Rattle.lapd_script.specs.Meaning.{meant}
pub use Rattle.lapd_script.specs.ScriptLines.{AreLeft}
pub use Rattle.lapd_script.specs.Shown.{side_of}
pub use Rattle.lapd_script.specs.Words.{texts}
pub use Rattle.lapd_script.specs.declared.faults.PlayFault.{PlayFault}
pub use Rattle.lapd_script.specs.declared.faults.PlayFault.TheVariants.{Write}
pub use Rattle.lapd_script.specs.declared.kind.FaultKind.TheVariants.{BadLine, WrongCard}
pub use Rattle.lapd_script.specs.declared.shown.FrameFault.{FrameFault}
pub use Rattle.lapd_transcript.specs.Listened.{Hears}
pub use Rattle.lapd_transcript.specs.Pages.{on}
pub use Rattle.lapd_transcript.specs.Streams.{Output, Puts}
pub use Rattle.lapd_transcript.specs.Terminal.{Sends}
pub use Rattle.model_bits.specs.Stream.{dropped}
pub use Rattle.model_line.specs.Came.{came, cause_of}
pub use Rattle.model_line.specs.Request.{request_of}
pub use Rattle.model_timed.specs.Clock.{at_moment}
pub use Rattle.lapd_sim.specs.Boards.{OnBoard}
pub use Rattle.lapd_sim.specs.Obeyed.{Answers, AnswersLine, Begins, Does, HasExpired, IsImageOf, said, SetupSays, StartsBy, written}
pub use Rattle.lapd_sim.specs.Pages.{is_cut, PutsNone, PutsSome, Reaches}
pub use Rattle.lapd_sim.specs.Plays.{Shows}
pub use Rattle.lapd_sim.specs.Serves.{Frames, Runs}
pub use Rattle.lapd_sim.specs.Stands.{Each, Has}
pub use Rattle.lapd_sim.specs.machine.Asked.{LimitsAreOfCards}
pub use Rattle.lapd_sim.specs.machine.Board.{at, expiry, hears, next, pull, reply, reply_of_frames}
pub use Rattle.lapd_sim.specs.machine.Events.{RunsOnBoards, ScriptsAreRuns}
pub use Rattle.lapd_sim.specs.machine.Heard.{FramesAreHeard}
pub use Rattle.lapd_sim.specs.machine.Replies.{TranscriptsAreReplies}
pub use Rattle.lapd_sim.specs.machine.Steps.{after_counters, after_rx, after_stored, deactivations, downs, due_by, in_time, is_on_line, lengths_of, octet_in, pulls, request_for, shown_losses, tei_asked, teis_on, told_text, until, with_card, with_event, with_events, with_timers, without_card}
pub use Rattle.lapd_sim.specs.machine.Waits.{WaitsLeaveNothingDue}
pub use Rattle.lapd_sim.specs.machine.Within.{ScriptsStayWithin}
