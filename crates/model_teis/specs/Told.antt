-- What TEI management of either side tells of an event (Q.921 clause 5.3).
use Rattle.std.specs.Prelude.{ℕ, Bool, false, List, [], Option, None}
use Rattle.lapd_frame.specs.declared.notes.Note.{Note}
use Rattle.lapd_frame.specs.declared.timers.Order.{Order}
use Rattle.model_teis.specs.declared.changes.Change.{Change}

-- The notes; whether a TEI came to the line or left it; what is ordered of T201 or T202; how many messages were lost, as
-- they found no room; and whether the event is one that is not served.
pub record TeiTold : Type 0 where
  pub notes : List Note
  pub change : Option Change
  pub orders : List Order
  pub lost : ℕ
  pub unserved : Bool

abbrev pub nothing : TeiTold
nothing = record { notes = []; change = None; orders = []; lost = 0; unserved = false }
