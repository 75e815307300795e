-- How a script ended that a page played: as `lapdsim run` ends, which writes the transcript and the fault line.
use Rattle.std.specs.Prelude.{◌≡◌, ℕ, List, [], length, Some, None}
use Rattle.lapd_sim.specs.machine.Script.{transcript, first_fault}
use Rattle.lapd_script.specs.FaultLines.{play_line}
use Rattle.lapd_script.specs.declared.kind.FaultKind.{FaultKind}
use Rattle.lapd_script.specs.declared.faults.PlayFault.TheVariants.{Script}
use Rattle.lapd_page.specs.Rooms.{in_room}
use Rattle.lapd_page.specs.declared.play.PlainEnd.{PlainEnd}

-- The exit status of `lapdsim run` for a script that is played to its end, and for one with a fault; and a number that is
-- none of its, where memory was refused (profile).
abbrev pub done : ℕ
done = 0

abbrev pub faulty : ℕ
faulty = 1

abbrev pub no_memory : ℕ
no_memory = 3

abbrev pub end_of : (transcript fault : List ℕ) → (line : ℕ) → PlainEnd
end_of transcript fault line = record { transcript = length transcript; fault = length fault; line = line }

-- No line of the script is faulty.
pub record IsDone (script old new : List ℕ) (end : PlainEnd) : Type 0 where
  pub sound : first_fault script ≡ None
  pub transcript_is : new ≡ in_room (transcript script) old
  pub end_is : end ≡ end_of (transcript script) [] 0

-- This line is the first that is faulty: what is told of it, and what the lines before it brought.
pub record IsFaulty (script old new old_words new_words : List ℕ) (end : PlainEnd) : Type 0 where
  pub line : ℕ
  pub kind : FaultKind
  pub first : first_fault script ≡ Some (record { line = line; kind = kind })
  pub transcript_is : new ≡ in_room (transcript script) old
  pub words_are : new_words ≡ in_room (play_line (Script line kind)) old_words
  pub end_is : end ≡ end_of (transcript script) (play_line (Script line kind)) line
