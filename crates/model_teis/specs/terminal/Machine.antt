-- TEI management of one line of a terminal: its state (Q.921 clause 5.3).
use Rattle.std.specs.Prelude.{ℕ, ◌*◌, List, [], length, replicate, Option, None}
use Rattle.lapd_frame.specs.declared.readings.Reading.{Reading}
use Rattle.model_teis.specs.Table.{Places, place_of}
use Rattle.model_teis.specs.terminal.Messages.{Message}
pub use Rattle.model_teis.specs.declared.terminal.procedure.Procedure.{Procedure}
pub use Rattle.model_teis.specs.declared.terminal.procedure.Procedure.TheVariants.{Asking, Verifying}
pub use Rattle.model_teis.specs.Told.{TeiTold, nothing}

-- How the rows of the table are read, at all times the same; the table of the TEIs; the next reference number; the procedure that
-- runs, if one does; and the messages that wait to be sent, the oldest first.
pub record Terminal : Type 0 where
  pub reading : Reading
  pub places : Places
  pub number : ℕ
  pub procedure : Option Procedure
  pub waiting : List Message

-- as a line with so many places begins, from a seed of its reference numbers
abbrev pub fresh : Reading → ℕ → ℕ → Terminal
fresh reading terminals seed = record { reading = reading; places = replicate terminals None; number = seed; procedure = None; waiting = [] }

-- How often a TEI is asked for (N202, clause 5.9.4; that it is constant is profile), and how often a verify is sent
-- (clause 5.3.5).
abbrev pub most_requests : ℕ
most_requests = 3

abbrev pub most_verifies : ℕ
most_verifies = 2

-- the place of a TEI, `None` if it is not on the line
abbrev pub place : ℕ → Terminal → Option ℕ
place tei m = place_of tei m.places

-- The octets that are held: those of the frames that wait, without their check.
abbrev pub held : Terminal → ℕ
held m = 8 * length m.waiting
