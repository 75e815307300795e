-- The line that tells of a fault (profile).
use Rattle.std.specs.Prelude.{◌≡◌, ℕ, List, ◌++◌, codes, decimal, Result, Ok, Err}
use Rattle.lapd_frame.specs.Faults.{text_of}
use Rattle.lapd_script.specs.Kinds.{kind_words}
use Rattle.lapd_transcript.specs.declared.streams.WriteFailed.{WriteFailed}
use Rattle.lapd_transcript.specs.Streams.{Taken, Writes}
use Rattle.lapd_script.specs.declared.faults.PlayFault.{PlayFault}
use Rattle.lapd_script.specs.declared.faults.PlayFault.TheVariants as play
use Rattle.lapd_script.specs.declared.shown.FrameFault.{FrameFault}
use Rattle.lapd_script.specs.declared.shown.FrameFault.TheVariants as frame

abbrev pub play_words : PlayFault → List ℕ
play_words play.Read = codes "read failed"
play_words play.Write = codes "write failed"
play_words (play.Script line kind) = codes "line " ++ decimal line ++ codes ": " ++ kind_words kind
play_words play.OutOfMemory = codes "out of memory"

abbrev pub play_line : PlayFault → List ℕ
play_line fault = play_words fault ++ codes "\n"

abbrev pub frame_words : FrameFault → List ℕ
frame_words frame.BadOctets = codes "bad octets"
frame_words frame.TooLong = codes "frame: too long"
frame_words (frame.NoFrame fault) = codes "frame: " ++ text_of fault
frame_words frame.Write = codes "write failed"
frame_words frame.OutOfMemory = codes "out of memory"

abbrev pub frame_line : FrameFault → List ℕ
frame_line fault = frame_words fault ++ codes "\n"

-- The line has been written, or a write of it failed.
abbrev pub IsWrittenOrFails : List ℕ → Taken → Taken → Type 0
IsWrittenOrFails line old new = (r : Result Unit WriteFailed) × Writes r old new line

-- After a job: where all was done nothing has been written, else the line of its fault.
abbrev pub TellsOf : {E : Type 0} → (E → List ℕ) → Result Unit E → Taken → Taken → Type 0
TellsOf line_of (Ok _) old new = new ≡ old
TellsOf line_of (Err fault) old new = IsWrittenOrFails (line_of fault) old new
