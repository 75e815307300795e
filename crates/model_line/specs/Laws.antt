-- Laws of a line.
use Rattle.std.specs.Prelude.{◌+◌, ◌*◌, ◌≤◌, max, List, [], Option, None}
use Rattle.std.specs.Option.{option_map_or}
use Rattle.lapd_frame.specs.declared.notes.Note.{Note}
use Rattle.model_bits.specs.declared.heard.Cause.{Cause}
use Rattle.lapd_frame.specs.declared.timers.Order.{Order}
use Rattle.model_line.specs.declared.config.Config.{Config}
use Rattle.model_line.specs.Event.{Event, next, NextFrame, Answer, told, refused, gave}
use Rattle.model_line.specs.Line.{Line}
use Rattle.model_line.specs.Counts.{one, may_send, brought, hears_frame, hears_long_frame, is_given, is_accepted, is_running_expiry, rejects}
use Rattle.model_line.specs.Machine.{after, answer}

-- The frame that a line gives, and those that it may still send without anything else happening, rise by no more than two for
-- each frame that is heard, or by so many as a terminal may have TEIs, if these are more. They rise by one for an accepted
-- request, by k + 1 for the expiry of a running timer, and by k for an REJ with a valid N(R). Here k is the greater of both windows.
abbrev pub Rises : Config → Event → Line → Type 0
Rises c e l =
    let k = max c.k c.k16 in
    one (is_given (answer c e l)) + may_send c (after c e l)
    ≤ may_send c l + brought c * one (hears_frame e) + one (is_accepted e (answer c e l))
    + (k + 1) * one (is_running_expiry e l) + k * one (rejects c e l)

-- An REJ is a frame of four octets.
abbrev pub IsRejectHeard : Config → Event → Line → Type 0
IsRejectHeard c e l = one (rejects c e l) ≤ one (hears_long_frame e)

-- A call for the next frame that gives one lowers what may be sent by one, or by two where the frame makes an
-- acknowledgement needless. Any other leaves it as it is.
abbrev pub FallsByNext : Config → Line → Type 0
FallsByNext c l =
    let given = one (is_given (answer c next l)) in
    (given + may_send c (after c next l) ≤ may_send c l) × (may_send c l ≤ may_send c (after c next l) + 2 * given)

-- An answer has at most four notes and at most four orders, and a frame that is given at most two orders. The answer to an
-- expiry starts one timer at most.
abbrev pub notes_in : Answer → List Note
notes_in (told t) = t.notes
notes_in (refused why) = []
notes_in (gave frame) = []

abbrev pub orders_with : NextFrame → List Order
orders_with frame = frame.orders

abbrev pub orders_in : Answer → List Order
orders_in (told t) = t.orders
orders_in (refused why) = []
orders_in (gave frame) = option_map_or orders_with frame []

-- Why something was dropped.
abbrev pub cause_in : Answer → Option Cause
cause_in (told t) = t.cause
cause_in (refused why) = None
cause_in (gave frame) = None
