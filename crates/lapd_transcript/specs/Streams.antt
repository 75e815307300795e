-- What a write to a target leaves.
use Rattle.std.specs.Prelude.{◌≡◌, ℕ, ◌+◌, ◌-◌, ◌^◌, ◌<◌, ◌++◌, Bool, true, min, List, take, length, [], OnOk, Option, Result, Ok, Err}
pub use Rattle.lapd_text.specs.Shown.{joined}
use Rattle.lapd_transcript.specs.declared.streams.WriteFailed.{WriteFailed}
use Rattle.std.specs.Io.KnownBytes.{Appends}

-- A count of failures is a number of 64 bits, which stays at its greatest value.
abbrev pub one_failure_more : ℕ → ℕ
one_failure_more count = min (count + 1) (2 ^ 64 - 1)

-- What a target has taken, where it tells, and how many of its writes have failed; and whether a write that fails has
-- left out an octet at least, as one to a vector that can't grow has. (Where all was handed on, and then could not be
-- flushed, it has left out none.)
pub record Taken : Type 0 where
  pub contents : Option (List ℕ)
  pub failures : ℕ
  pub leaves_out : Bool

-- the text has been appended, and no write has failed
pub record IsWritten (old new : Taken) (text : List ℕ) : Type 0 where
  pub whole : Appends old.contents new.contents text
  pub steady : new.failures ≡ old.failures

-- one write has failed, and a beginning of the text has been appended: less than all, where that is told
pub record IsBroken (old new : Taken) (text : List ℕ) : Type 0 where
  pub begun : (n : ℕ) × Appends old.contents new.contents (take n text) × (new.leaves_out ≡ true → n < length text)
  pub failed : new.failures ≡ one_failure_more old.failures

abbrev pub Writes : {A E : Type 0} → Result A E → Taken → Taken → List ℕ → Type 0
Writes (Ok _) old new text = IsWritten old new text
Writes (Err _) old new text = IsBroken old new text

-- What a target has taken, what stands on a page on its way to it, and which target it is, by the name that proofs give
-- the reference to it.
pub record Output : Type 0 where
  pub taken : Taken
  pub page : List ℕ
  pub name : ℕ

-- After a text was put, whatever is written next follows it, and what stood on the page before it;
pub record IsPut (old new : Output) (text : List ℕ) : Type 0 where
  pub same : new.name ≡ old.name
  pub follows : (later : Result Unit WriteFailed) (end : Taken) (more : List ℕ) → Writes later new.taken end (new.page ++ more)
      → Writes later old.taken end (old.page ++ (text ++ more))

-- where a write failed, a beginning has been appended of the page, the text, and whatever was to follow.
pub record IsStuck (old new : Output) (text : List ℕ) : Type 0 where
  pub same : new.name ≡ old.name
  pub broken : (more : List ℕ) → IsBroken old.taken new.taken (old.page ++ (text ++ more))

abbrev pub Puts : {A E : Type 0} → Result A E → Output → Output → List ℕ → Type 0
Puts (Ok _) old new text = IsPut old new text
Puts (Err _) old new text = IsStuck old new text

-- what stands on the page has been written, and it is empty where no write failed
pub record IsSent {A E : Type 0} (r : Result A E) (old new : Output) : Type 0 where
  pub same : new.name ≡ old.name
  pub written : Writes r old.taken new.taken old.page
  pub cleared : OnOk r (new.page ≡ [])
