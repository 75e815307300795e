-- What can happen to a link.
use Rattle.std.specs.Prelude.{ℕ, Bool, List}
use Rattle.lapd_frame.specs.Grammar.{Parts}
use Rattle.model_link.specs.declared.timers.LinkTimer.{LinkTimer}

-- What came from the terminal with the link's address (Q.921 clauses 3.6 and 5.8.5).
pub data Received : Type 0 where
  -- a frame of the grammar
  frame : Parts → Received
  -- a frame whose control field is undefined
  undefined : Received
  -- a frame of wrong size
  wrong_size : Received
  -- an I-frame that was too long to keep, or UI (which reaches a link by annex B's reading alone)
  overlong : Received

-- What layer 3 asks for: DL-ESTABLISH, DL-RELEASE and DL-DATA request (clauses 4.1.1.1 to 4.1.1.3), and that own
-- receiver busy begins or ends (clause 5.6.6).
pub data Request : Type 0 where
  Establish : Request
  Release : Request
  Data : List ℕ → Request
  SetBusy : Request
  ClearBusy : Request

pub data Event : Type 0 where
  -- something came from the terminal
  received : Received → Event
  -- a timer expired
  expired : LinkTimer → Event
  -- layer 3 asked for something, while the shelf of all links had no free slot (true) or some (false)
  requested : Request → Bool → Event
  -- the line asks for the next frame to send
  offer : Event
  -- the TEI leaves the line
  cleared : Event
