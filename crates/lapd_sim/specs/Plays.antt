-- What a script that was played has written, and why it ended.
--
-- The loop of `play` keeps that the lines so far have been played, that what has been put is what they say, and that
-- the rest of the text is still to be read (`proofs/Playing.antt`). A `wait` ends because the time that running
-- timers still run until its end falls with each expiry, which starts one timer at most (`proofs/Waits.antt`).
use Rattle.std.specs.Prelude.{◌≡◌, ℕ, ◌<◌, ◌==◌, ◌⊎◌, List, [], ◌∷◌, ◌++◌, length, take, filter, Bool, Option, None, Some, Result, Ok, Err}
use Rattle.std.specs.List.{list_any}
use Rattle.lapd_transcript.specs.Streams.{Taken, IsWritten, IsBroken, Output, IsPut, IsStuck}
use Rattle.lapd_sim.specs.machine.Setup.{Setup}
use Rattle.lapd_script.specs.Pieces.{line_in, pieces_of}
use Rattle.lapd_sim.specs.Obeyed.{WasBefore}
use Rattle.lapd_sim.specs.machine.Script.{played, transcript, first_fault}
use Rattle.lapd_script.specs.declared.faults.PlayFault.{PlayFault}
use Rattle.lapd_script.specs.declared.faults.PlayFault.TheVariants.{Read, Write, Script, OutOfMemory}

-- The lines of what was read whose line feed (octet 10) had come.
abbrev pub is_whole : List ℕ → Bool
is_whole piece = list_any (λ octet. octet == 10) piece

abbrev pub whole_lines : List ℕ → List (List ℕ)
whole_lines read = filter is_whole (pieces_of read)

-- The transcript of these lines has been written, and none of them is faulty.
pub record AreAnswered (pieces : List (List ℕ)) (is_written : List ℕ → Type 0) : Type 0 where
  pub sound : (played pieces).fault ≡ None
  pub written : is_written (played pieces).written

-- A read failed: what had been read by then, and what had not.
pub record IsAnsweredToHere (text : List ℕ) (remaining : Option (List ℕ)) (is_written : List ℕ → Type 0) : Type 0 where
  pub read : List ℕ
  pub unread : List ℕ
  pub is : text ≡ read ++ unread
  pub tells : remaining ≡ Some unread
  pub answered : AreAnswered (whole_lines read) is_written

-- Memory was refused at a line that starts the card, or starts it anew from its image: the lines before it have been answered.
-- What is still unread is an end of what follows that line.
pub record IsRefusedAtCard (text : List ℕ) (remaining : Option (List ℕ)) (is_written : List ℕ → Type 0) : Type 0 where
  pub before : List (List ℕ)
  pub piece : List ℕ
  pub after : List ℕ
  pub pieces : pieces_of text ≡ before ++ piece ∷ pieces_of after
  pub card : Setup
  pub was : WasBefore (line_in piece) card (played before).setup
  pub starts : (played (before ++ piece ∷ [])).setup ≡ Some card
  pub answered : AreAnswered before is_written
  pub read : List ℕ
  pub unread : List ℕ
  pub is : after ≡ read ++ unread
  pub tells : remaining ≡ Some unread

-- It is refused there, or at the start, when nothing has been read: at no other line.
abbrev pub IsRefused : List ℕ → Option (List ℕ) → (List ℕ → Type 0) → Type 0
IsRefused text remaining is_written = (is_written [] × (remaining ≡ Some text)) ⊎ IsRefusedAtCard text remaining is_written

-- What has been written where a script ends: its transcript, or after a failed write a beginning; where memory was
-- refused, what the lines before say.
abbrev pub PlaysAs : (is_written is_broken : List ℕ → Type 0) → Result Unit PlayFault → List ℕ → Option (List ℕ) → Type 0
PlaysAs is_written is_broken (Ok _) text remaining = (first_fault text ≡ None) × is_written (transcript text) × (remaining ≡ Some [])
PlaysAs is_written is_broken (Err (Script line kind)) text remaining = (first_fault text ≡ Some (record { line = line; kind = kind })) × is_written (transcript text)
PlaysAs is_written is_broken (Err Read) text remaining = IsAnsweredToHere text remaining is_written
PlaysAs is_written is_broken (Err Write) text remaining = is_broken (transcript text)
PlaysAs is_written is_broken (Err OutOfMemory) text remaining = IsRefused text remaining is_written

abbrev pub Plays : Result Unit PlayFault → List ℕ → Option (List ℕ) → Taken → Taken → Type 0
Plays result text remaining old new = PlaysAs (IsWritten old new) (IsBroken old new) result text remaining

-- The same while a page is on its way to the target.
abbrev pub PlaysOn : Result Unit PlayFault → List ℕ → Option (List ℕ) → Output → Output → Type 0
PlaysOn result text remaining old new = PlaysAs (IsPut old new) (IsStuck old new) result text remaining

-- What a status says of the script that was played (profile): 0, it was played to its end; 1, there was a fault.
abbrev pub status_of : Result Unit PlayFault → ℕ
status_of (Ok _) = 0
status_of (Err _) = 1

-- A text that is shown: 0, it has been written; 1, a write failed.
abbrev pub Shows : ℕ → List ℕ → Taken → Taken → Type 0
Shows status text old new = (status ≡ 0 → IsWritten old new text) × (status ≡ 1 → IsBroken old new text)

-- The same of a script and a transcript in memory: what the transcript is, from what it was. No read fails; and where a
-- write did, an octet of the transcript at least is not there; and where memory was refused, it is that of the lines before.
abbrev pub PlaysOctets : Result Unit PlayFault → List ℕ → List ℕ → List ℕ → Type 0
PlaysOctets (Ok _) text old new = (first_fault text ≡ None) × (new ≡ old ++ transcript text)
PlaysOctets (Err (Script line kind)) text old new = (first_fault text ≡ Some (record { line = line; kind = kind })) × (new ≡ old ++ transcript text)
PlaysOctets (Err Read) text old new = ⊥
PlaysOctets (Err Write) text old new = (n : ℕ) × (new ≡ old ++ take n (transcript text)) × (n < length (transcript text))
PlaysOctets (Err OutOfMemory) text old new = (before : List (List ℕ)) × (after : List (List ℕ)) × (pieces_of text ≡ before ++ after) × (new ≡ old ++ (played before).written)
