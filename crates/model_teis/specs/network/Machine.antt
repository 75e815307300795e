-- TEI management of one line: its state (Q.921 clause 5.3).
use Rattle.std.specs.Prelude.{ℕ, ◌+◌, ◌*◌, Bool, false, List, [], length, sum_by, replicate, Option, None, if◌then◌else◌}
use Rattle.std.specs.List.{position, list_any}
use Rattle.lapd_frame.specs.declared.readings.Reading.{Reading}
use Rattle.model_teis.specs.network.Messages.{Message}
use Rattle.model_teis.specs.Table.{Places, place_of, tei_at}
pub use Rattle.model_teis.specs.declared.network.remembered.Remembered.{Remembered}
pub use Rattle.model_teis.specs.declared.network.check.Check.{Check}
pub use Rattle.model_teis.specs.declared.network.check.Period.{Period}
pub use Rattle.model_teis.specs.declared.network.check.Period.TheVariants.{First, Second, Settling}
pub use Rattle.model_teis.specs.declared.changes.Change.{Change}
pub use Rattle.model_teis.specs.declared.changes.Change.TheVariants.{Gained, Left}
pub use Rattle.model_teis.specs.Told.{TeiTold, nothing}

pub record Management : Type 0 where
  -- how the rows of the table are read, at all times the same
  pub reading : Reading
  -- the table of the TEIs
  pub places : Places
  -- the latest assignments that still hold, the oldest first: none by annex B
  pub remembered : List Remembered
  -- the check that runs, if one does
  pub check : Option Check
  -- for each place, whether its TEI is checked once that check has ended, as its terminal asked meanwhile: none in the profile
  pub to_check : List Bool
  -- the messages that wait to be sent, the oldest first
  pub waiting : List Message

-- as a line with so many places begins
abbrev pub empty : Reading → ℕ → Management
empty reading terminals = record {
  reading = reading;
  places = replicate terminals None;
  remembered = [];
  check = None;
  to_check = replicate terminals false;
  waiting = [];
}

-- How many messages may wait, and how many assignments are remembered (profile).
abbrev pub messages_limit : ℕ
messages_limit = 4

abbrev pub remembered_limit : ℕ
remembered_limit = 4

-- the place of a TEI, `None` where it is not on the line
abbrev pub place : ℕ → Management → Option ℕ
place tei m = place_of tei m.places

-- How many TEIs are checked once the check that runs has ended, whether any is, and the one at the lowest place.
abbrev pub one_if : Bool → ℕ
one_if due = if due then 1 else 0

abbrev pub checks_due : Management → ℕ
checks_due m = sum_by one_if m.to_check

abbrev pub is_due : Bool → Bool
is_due due = due

abbrev pub is_check_due : Management → Bool
is_check_due m = list_any is_due m.to_check

abbrev pub next_checked : Management → Option ℕ
next_checked m = tei_at m.places (position is_due m.to_check)

-- The messages that wait or will, each check that is due with its request; and the octets that are held: those of the frames
-- that wait, without their check, three for Ri and TEI of each remembered assignment, and one while any check is due.
abbrev pub may_send : Management → ℕ
may_send m = length m.waiting + checks_due m

abbrev pub held : Management → ℕ
held m = 8 * length m.waiting + 3 * length m.remembered + (if is_check_due m then 1 else 0)
