-- What a card that keeps its own timers answers, without references.
use Rattle.std.specs.Prelude.{ℕ, Bool, List}
use Rattle.lapd_frame.specs.declared.timers.Order.{Order}
use Rattle.lapd_frame.specs.declared.timers.Timer.{Timer}
use Rattle.lapd_line.specs.Reports.{report_told, pulled_of}
use Rattle.model_card.specs.ports.Port as port
use Rattle.model_line.specs.Event as line
use Rattle.laws_promises.specs.FrameReply as frame_reply
use Rattle.laws_promises.specs.declared.timed_replies.TimedReply as reply

-- The time is the moment that was told, or that moment is refused. Nothing is due, or a timer is, and then its expiry is
-- answered. What else happens at a line is answered there: a pull with the octet, whether it began a frame, and timer orders.
pub data Answer : Type 0 where
  went : Answer
  wrong_time : Answer
  none_due : Answer
  fell_due : Timer → Answer → Answer
  answered : ℕ → line.Answer → Answer
  pulled : ℕ → ℕ → Bool → List Order → Answer

-- A line of a card of octets answers all but a pull as one of a card of frames.
abbrev pub by_port : ℕ → port.Answer → Answer
by_port number (port.told t) = answered number (line.told t)
by_port number (port.refused why) = answered number (line.refused why)
by_port number (port.pulled value begun orders) = pulled number value begun orders

abbrev pub answer_of : reply.TimedReply → Answer
answer_of reply.TheVariants.Went = went
answer_of reply.TheVariants.WrongTime = wrong_time
answer_of reply.TheVariants.NoneDue = none_due
answer_of (reply.TheVariants.FellDue number timer r) = fell_due timer (answered number (line.told (report_told r)))
answer_of (reply.TheVariants.At number r) = answered number (frame_reply.answer_of r)
answer_of (reply.TheVariants.Pulled number p) = by_port number (pulled_of p)
