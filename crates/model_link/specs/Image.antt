-- A link in an image of its card. Its service and its TEI follow from where it stands, its parameters from the configuration.
use Rattle.std.specs.Prelude.{ℕ, ◌%◌, ◌+◌, ◌*◌, Bool, List, [], ◌∷◌, ◌++◌, ◌≤◌, flat_map, All, Option, None, Some}
use Rattle.lapd_frame.specs.declared.services.Service.{Service}
use Rattle.lapd_frame.specs.declared.timers.Timer.{Timer}
use Rattle.lapd_frame.specs.declared.timers.Timer.TheVariants as line_timer
use Rattle.lapd_frame.specs.Grammar.{row}
use Rattle.lapd_image.specs.Numbers.{number, list_of, contents}
use Rattle.model_bits.specs.Bits.{bit_value, number_of}
use Rattle.model_bits.specs.StuffingLaws.{AreOctets}
use Rattle.model_link.specs.declared.counts.LinkCounts.{LinkCounts}
use Rattle.model_link.specs.declared.frames.ControlFrame.{ControlFrame}
use Rattle.model_link.specs.declared.timers.LinkTimer.{LinkTimer}
use Rattle.model_link.specs.declared.timers.LinkTimer.TheVariants.{T200, T203}
use Rattle.model_link.specs.Link.{Link, state_number, queue_of, outstanding}
use Rattle.model_link.specs.Told.{runs}

-- A control frame that waits: 1 for a command or 0 for a response, and its control field of one or two octets, of which
-- the first says how many (Q.921 clause 3.4).
abbrev pub control_frame : ControlFrame → List ℕ
control_frame f = bit_value f.command ∷ (row f.control).field

-- From bit 1 on: the terminal is busy, this side is busy, REJ was sent, an acknowledgement is owed, layer 3 asked for the
-- establishment, T200 runs, T203 runs.
abbrev pub link_flags : Link → List Bool
link_flags l =
    l.peer_busy ∷ l.own_busy ∷ l.rejecting ∷ l.pending ∷ l.asked ∷ runs T200 l.running ∷ runs T203 l.running ∷ []

-- What was counted of it, in two octets each (profile).
abbrev pub counted_of : LinkCounts → List ℕ
counted_of c = c.sent_again ∷ c.t200_expired ∷ c.rejects_sent ∷ c.rejects_received ∷ c.established ∷ []

abbrev pub counts : LinkCounts → List ℕ
counts c = flat_map (number 2) (counted_of c)

-- The state, 4 to 8, with bit 7 of the octet if a release is owed.
abbrev pub state_octet : Link → ℕ
state_octet l = state_number l.state + 64 * bit_value l.owed

-- One octet each: the state; the flags; RC; V(A); how many I-frames are outstanding; V(R); and how many of the contents
-- from V(S) on go again. Then what was counted; the contents that are kept, from V(A) on; and the control frames that wait, the
-- oldest first.
abbrev pub link : Link → List ℕ
link l =
    state_octet l ∷ number_of (link_flags l) ∷ l.repeats ∷ l.a % 128 ∷ outstanding l ∷ l.r % 128 ∷ l.again
    ∷ (counts l.counts ++ (list_of contents (queue_of l) ++ list_of control_frame l.waiting))

-- What may be saved of it: its counts have 16 bits, and contents are octets.
pub record IsSavedLink (l : Link) : Type 0 where
  pub counts : All (λ n. n ≤ 65535) (counted_of l.counts)
  pub octets : All AreOctets (queue_of l)

-- The timer that a link runs, if it runs one. An image has its moment alone, if the card keeps its own timers.
abbrev pub timer_of : Service → ℕ → Option LinkTimer → List Timer
timer_of service tei None = []
timer_of service tei (Some T200) = line_timer.T200 service tei ∷ []
timer_of service tei (Some T203) = line_timer.T203 service tei ∷ []
