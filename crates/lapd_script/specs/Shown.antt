-- What a `frame` job writes: what the frame of its digits says, and what that frame is on a line.
use Rattle.std.specs.Prelude.{◌≡◌, ℕ, ◌<◌, ◌≤◌, Bool, if◌then◌else◌, List, ◌++◌, length, Result, Ok, Err}
use Rattle.lapd_frame.specs.declared.addresses.Side.{Side}
use Rattle.lapd_frame.specs.declared.addresses.Side.TheVariants.{User, Network}
use Rattle.lapd_frame.specs.Faults.{IsFault}
use Rattle.lapd_frame.specs.Grammar.{Parts, Spells}
use Rattle.lapd_script.specs.declared.kind.FaultKind.TheVariants as kind
use Rattle.lapd_script.specs.Octets.{octets}
use Rattle.lapd_transcript.specs.OnLine.{on_line}
use Rattle.lapd_transcript.specs.Shown.{shown_text, on_line_text}
use Rattle.lapd_transcript.specs.Streams.{Taken, IsWritten, IsBroken}
use Rattle.lapd_script.specs.declared.shown.FrameFault.{FrameFault}
use Rattle.lapd_script.specs.declared.shown.FrameFault.TheVariants.{BadOctets, TooLong, NoFrame, Write, OutOfMemory}

-- Who sent the frame: the network with `--network`, else the user.
abbrev pub side_of : Bool → Side
side_of network = if network then Network else User

-- The digits are octets that spell a frame of this side, and this is its text,
pub record IsShown (side : Side) (digits text : List ℕ) : Type 0 where
  pub sent : List ℕ
  pub frame : Parts
  pub digits_are : octets digits ≡ Ok sent
  pub short : length sent ≤ 1028
  pub spelled : Spells side frame sent
  pub text_is : text ≡ shown_text frame ++ on_line_text (on_line sent)

-- or there is none, for the first fault that holds.
abbrev pub IsUnshown : FrameFault → Side → List ℕ → Type 0
IsUnshown BadOctets side digits = octets digits ≡ Err kind.BadOctets
IsUnshown TooLong side digits = (sent : List ℕ) × (octets digits ≡ Ok sent) × (1028 < length sent)
IsUnshown (NoFrame fault) side digits = (sent : List ℕ) × (octets digits ≡ Ok sent) × (length sent ≤ 1028) × IsFault side sent fault
IsUnshown _ side digits = ⊥

-- What has been written of it.
abbrev pub ShowsFrame : Result Unit FrameFault → Side → List ℕ → Taken → Taken → Type 0
ShowsFrame (Ok _) side digits old new = (text : List ℕ) × IsShown side digits text × IsWritten old new text
ShowsFrame (Err Write) side digits old new = (text : List ℕ) × IsShown side digits text × IsBroken old new text
ShowsFrame (Err OutOfMemory) side digits old new = (text : List ℕ) × IsShown side digits text × (new ≡ old)
ShowsFrame (Err fault) side digits old new = IsUnshown fault side digits × (new ≡ old)

-- With which status (profile): 0, it has been written; 1, there was a fault.
abbrev pub frame_status : Result Unit FrameFault → ℕ
frame_status (Ok _) = 0
frame_status (Err _) = 1
