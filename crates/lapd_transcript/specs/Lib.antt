-- The lines of a transcript. Read Text first; Shown has what a frame, a note and an answer are in it. Terminal, OnLine and
-- Listened have what a line is given, and what is found in what it takes.
pub mod Streams
pub mod Pages
pub mod Text
pub mod Shown
pub mod Worked
pub mod Counted
pub mod CounterNames
pub mod WorkedCounted
pub mod Terminal
pub mod Put
pub mod OnLine
pub mod Listened
-- the words of the contracts, from where they are defined
pub use Rattle.hex.specs.Hex.{encode_upper}
pub use Rattle.lapd_frame.specs.Grammar.{parts_of}
pub use Rattle.lapd_frame.specs.Services.{letter_of}
pub use Rattle.lapd_transcript.specs.Counted.{counters_text, is_zero, names_of}
pub use Rattle.lapd_transcript.specs.CounterNames.{row, row_text, value_text, with_name}
pub use Rattle.lapd_transcript.specs.Listened.{Hears, found, pulled_text}
pub use Rattle.lapd_transcript.specs.Pages.{on}
pub use Rattle.lapd_text.specs.Shown.{joined, octets_text, shown_text}
pub use Rattle.lapd_transcript.specs.Shown.{on_line_text}
pub use Rattle.lapd_transcript.specs.Streams.{IsSent, Output, Puts, Writes}
pub use Rattle.lapd_transcript.specs.Text.{cause_name, dropped_text, faulty_text, frame_text, given_up_text, image_text, line_text, link_words, losses_text, lost_text, note_text, nothing_text, refusal_name, refused_text, report_text, sent_text, stored_text, suffix, tei_noted, tei_of, tei_words}
