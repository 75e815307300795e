-- A row of the tables is a composition of steps on an event that is under way.
use Rattle.std.specs.Prelude.{ℕ, Bool, cond, false, List, [], Option, None}
use Rattle.lapd_frame.specs.declared.notes.Note.{Note}
use Rattle.model_link.specs.declared.timers.LinkTimer.{LinkTimer}
use Rattle.model_link.specs.declared.frames.ControlFrame.{ControlFrame}
use Rattle.model_link.specs.Link.{Link}

-- A frame that an offer gives, with its contents if it is an I-frame.
pub record Sent : Type 0 where
  pub frame : ControlFrame
  pub contents : Option (List ℕ)

-- An event under way: the link as it is by now, and what the event answers so far.
pub record Course : Type 0 where
  pub link : Link
  pub notes : List Note
  pub delivered : Option (List ℕ)
  pub unit : Option (List ℕ)
  pub sent : Option Sent
  -- the timer that the event started last, if it was not stopped since
  pub started : Option LinkTimer
  pub lost : ℕ
  -- contents that layer 3 was granted, and that were given up, sent or not
  pub given_up : ℕ
  pub unserved : Bool
  -- whether the numbers were set to zero, or the link cleared: the next establishment's numbers begin
  pub zeroed : Bool

abbrev pub begun : Link → Course
begun l = record {
  link = l;
  notes = [];
  delivered = None;
  unit = None;
  sent = None;
  started = None;
  lost = 0;
  given_up = 0;
  unserved = false;
  zeroed = false;
}

abbrev pub Step : Type 0
Step = Course → Course

-- One step after the other.
infixr 10 ◌then◌
abbrev pub ◌then◌ : Step → Step → Step
(first then second) c = second (first c)

-- No step.
abbrev pub nothing : Step
nothing c = c

-- The first step where the link passes the test at that moment, else the second.
abbrev pub depending_on : (Link → Bool) → Step → Step → Step
depending_on test first second c = cond (test c.link) (first c) (second c)

-- The first step where the bit is 1, else the second.
abbrev pub by_bit : Bool → Step → Step → Step
by_bit b first second c = cond b (first c) (second c)

-- A change of the link alone.
abbrev pub changed : (Link → Link) → Step
changed change c = record c { link = change c.link }
