-- Worked values: what the events of a link show that its counters count.
use Rattle.std.specs.Prelude.{◌≡◌, ℕ, List, ◌∷◌, ◌++◌, [], refl}
use Rattle.lapd_frame.specs.declared.services.Service.TheVariants.{Call}
use Rattle.lapd_frame.specs.declared.timers.Timer.TheVariants as timers
use Rattle.lapd_frame.specs.Reading.{reading, header_of, control_of, unnumbered_of, supervisory_of}
use Rattle.lapd_frame.specs.Senders.{exchanged, reading as read_by}
use Rattle.lapd_seq.specs.Circle.{named, distance_of}
use Rattle.lapd_seq.specs.Numbers.{seq}
use Rattle.model_teis.specs.network.Events as teis
use Rattle.model_link.specs.declared.counts.LinkCounts.{LinkCounts}
use Rattle.laws_link.specs.Counting.{tally}
use Rattle.model_line.specs.Event.{expiry}
use Rattle.model_line.specs.Machine as lines
use Rattle.model_line.specs.Request.{Assign, Data, Deactivate, Release}
use Rattle.model_card.specs.Event.{Event, at}
use Rattle.model_card.specs.Run.{moments, after_all}
use Rattle.laws_line.specs.card.Worked.{usual, on_0, up}
use Rattle.laws_trace.specs.LinkCountersCount.{counted_in, events_of_link}
use Rattle.laws_trace.specs.WorkedUnits.{calls, frame_comes}

abbrev of_events : List Event → LinkCounts
of_events events = counted_in usual Call 64 (events_of_link usual Call 64 0 events)

abbrev nothing_counted : LinkCounts
nothing_counted = record { sent_again = 0; t200_expired = 0; rejects_sent = 0; rejects_received = 0; established = 0 }

-- REJ that comes while the link is down is not counted, and neither is T203. SABME is.
abbrev rej : ℕ → Event
rej n = frame_comes (0x02 ∷ 0x81 ∷ 0x09 ∷ n ∷ [])

by_sabme : of_events (on_0 (Assign 64) ∷ rej 0 ∷ frame_comes (0x00 ∷ 0x81 ∷ 0x7F ∷ []) ∷ at 0 (expiry (timers.T203 Call 64)) ∷ [])
    ≡ record nothing_counted { established = 1 }
unfolding tally moments after_all lines.after lines.answer lines.takes_slot teis.course teis.refusal seq distance_of named exchanged read_by reading header_of control_of unnumbered_of supervisory_of
by_sabme = refl

-- Two I-frames go, REJ comes, and both go again; T200 expires.
abbrev asks : ℕ → Event
asks n = on_0 (Data Call 64 (n ∷ []))

abbrev again : List Event
again = up ++ asks 7 ∷ asks 8 ∷ calls 3 ++ rej 0 ∷ calls 2

both_again : of_events again ≡ record nothing_counted { sent_again = 2; rejects_received = 1; established = 1 }
unfolding tally moments after_all lines.after lines.answer lines.takes_slot teis.course teis.refusal seq distance_of named exchanged read_by reading header_of control_of unnumbered_of supervisory_of
both_again = refl

runs_out_once : of_events (again ++ at 0 (expiry (timers.T200 Call 64)) ∷ []) ≡ record nothing_counted { sent_again = 2; t200_expired = 1; rejects_received = 1; established = 1 }
unfolding tally moments after_all lines.after lines.answer lines.takes_slot teis.course teis.refusal seq distance_of named exchanged read_by reading header_of control_of unnumbered_of supervisory_of
runs_out_once = refl

-- An I-frame with another number comes, and REJ goes. A release leaves what was counted, and a deactivation does not.
abbrev rejects : List Event
rejects = up ++ frame_comes (0x00 ∷ 0x81 ∷ 0x02 ∷ 0x00 ∷ 9 ∷ []) ∷ calls 2

one_rejected : of_events (rejects ++ on_0 (Release Call 64) ∷ []) ≡ record nothing_counted { rejects_sent = 1; established = 1 }
unfolding tally moments after_all lines.after lines.answer lines.takes_slot teis.course teis.refusal seq distance_of named exchanged read_by reading header_of control_of unnumbered_of supervisory_of
one_rejected = refl

given_up : of_events (rejects ++ on_0 (Deactivate Call 64) ∷ []) ≡ nothing_counted
unfolding tally moments after_all lines.after lines.answer lines.takes_slot teis.course teis.refusal seq distance_of named exchanged read_by reading header_of control_of unnumbered_of supervisory_of
given_up = refl
