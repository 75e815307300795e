-- What happens at a line, and what it is answered with, as plain values.
use Rattle.std.specs.Prelude.{ℕ, List, [], Option, Some, None}
use Rattle.model_bits.specs.Stream as stream
use Rattle.model_bits.specs.declared.heard.Cause.{Cause}
use Rattle.lapd_frame.specs.declared.notes.Note.{Note}
use Rattle.lapd_frame.specs.declared.refusals.Refusal.{Refusal}
use Rattle.lapd_frame.specs.declared.timers.Order.{Order}
use Rattle.lapd_frame.specs.declared.timers.Timer.{Timer}
use Rattle.model_line.specs.Request.{Request}

-- A frame is heard, or what stood for one is dropped; a timer expires; layer 3 or management asks for something; the
-- next frame to send is called for.
pub data Event : Type 0 where
  hears : stream.Event → Event
  expiry : Timer → Event
  request : Request → Event
  next : Event

-- What is heard, an expiry or an accepted request is answered with: notes for layer 3 and management, the contents that a
-- frame brought, why something was dropped, timer orders, how many frames found no place to wait, and what is given up.
pub record LineTold : Type 0 where
  pub notes : List Note
  pub contents : Option (List ℕ)
  pub cause : Option Cause
  pub orders : List Order
  pub lost : ℕ
  -- how many contents that were granted on a link are given up, sent or not: of call control, and of the second service
  pub given_up : ℕ
  pub given_up_16 : ℕ

-- The next frame to send, from its address to its information, and timer orders.
pub record NextFrame : Type 0 where
  pub octets : List ℕ
  pub orders : List Order

-- The answer to an event. A call for the next frame is answered with it, or with none where none may go.
pub data Answer : Type 0 where
  told : LineTold → Answer
  refused : Refusal → Answer
  gave : Option NextFrame → Answer

-- The frame that it gives, if it gives one.
abbrev pub given_in : Answer → Option NextFrame
given_in (told t) = None
given_in (refused why) = None
given_in (gave frame) = frame

-- Nothing happened.
abbrev pub nothing : LineTold
nothing = record { notes = []; contents = None; cause = None; orders = []; lost = 0; given_up = 0; given_up_16 = 0 }

-- Something was dropped without effect.
abbrev pub dropped : Cause → LineTold
dropped cause = record nothing { cause = Some cause }
