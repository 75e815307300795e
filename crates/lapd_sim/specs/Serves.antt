-- How the program ends: its status, and what it tells of a fault (profile).
use Rattle.std.specs.Prelude.{◌≡◌, ℕ, List, Option, Some, Result}
use Rattle.lapd_frame.specs.declared.addresses.Side.{Side}
use Rattle.lapd_transcript.specs.Streams.{Taken}
use Rattle.lapd_script.specs.declared.faults.PlayFault.{PlayFault}
use Rattle.lapd_script.specs.declared.shown.FrameFault.{FrameFault}
use Rattle.lapd_script.specs.FaultLines.{play_line, frame_line, TellsOf}
use Rattle.lapd_script.specs.Faults.{reads_failed_by, writes_failed_by}
use Rattle.lapd_sim.specs.Plays.{Plays, status_of}
use Rattle.lapd_script.specs.Shown.{ShowsFrame, frame_status}

-- What a source tells, and how many of its reads have failed.
pub record Given : Type 0 where
  pub remaining : Option (List ℕ)
  pub failures : ℕ

-- `run` ends as this answer of `play` says: for every source and target, and where the source tells what it gives, of
-- its script.
pub record Runs (r : Result Unit PlayFault) (status : ℕ) (before after : Given) (old new told_old told_new : Taken) : Type 0 where
  pub status_is : status ≡ status_of r
  pub told : TellsOf play_line r told_old told_new
  pub reads : after.failures ≡ reads_failed_by r before.failures
  pub writes : new.failures ≡ writes_failed_by r old.failures
  pub plays : (text : List ℕ) → before.remaining ≡ Some text → Plays r text after.remaining old new

-- `frame` ends as this answer says.
pub record Frames (r : Result Unit FrameFault) (status : ℕ) (side : Side) (digits : List ℕ) (old new told_old told_new : Taken) : Type 0 where
  pub status_is : status ≡ frame_status r
  pub told : TellsOf frame_line r told_old told_new
  pub shows : ShowsFrame r side digits old new
