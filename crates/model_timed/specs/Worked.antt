-- Worked values: a card of frames that keeps its own timers. Each computes.
use Rattle.std.specs.Prelude.{◌≡◌, List, [], ◌∷◌, ◌++◌, None, Some, refl}
use Rattle.lapd_clock.specs.Timer.{Lengths, T200, T203, Call}
use Rattle.lapd_frame.specs.Reading.{reading, header_of, control_of, unnumbered_of, supervisory_of}
use Rattle.lapd_frame.specs.Senders.{exchanged, reading as read_by}
use Rattle.lapd_seq.specs.Circle.{distance_of, named}
use Rattle.lapd_seq.specs.Numbers.{seq}
use Rattle.model_teis.specs.network.Events as teis
use Rattle.model_bits.specs.Stream.{frame}
use Rattle.model_line.specs.Event as line
use Rattle.model_line.specs.Machine as lines
use Rattle.model_line.specs.Request.{Assign, Data}
use Rattle.model_line.specs.Usual.{usual as plain}
use Rattle.model_line.specs.declared.config.Config.{Config}
use Rattle.model_card.specs.Card.{state}
use Rattle.model_card.specs.Event.{Event, at}
use Rattle.model_timed.specs.Timed as timed
use Rattle.model_timed.specs.Timed.{Step, happens, time, falls_due}
use Rattle.model_timed.specs.Frames.{TimedCard, fresh, frames, after_all, events_of}
use Rattle.model_timed.specs.Sayings.{said_in, last_start}
use Rattle.model_timed.specs.TimersAreTrue.{moment_after, IsNext}

abbrev pub usual : Config
usual = record plain { k16 = 3 }

abbrev pub lengths : Lengths
lengths = record { t200 = 10; t203 = 50; t201 = 10; t202 = 20 }

abbrev pub on_0 : line.Event → Step Event
on_0 e = happens (at 0 e)

-- At 5 a TEI is assigned, and its SABME comes; the UA is taken.
abbrev pub up : List (Step Event)
up = time 5 ∷ on_0 (line.request (Assign 64)) ∷ on_0 (line.hears (frame (0x00 ∷ 0x81 ∷ 0x7F ∷ []))) ∷ on_0 line.next ∷ []

abbrev pub begun : TimedCard
begun = after_all up (fresh usual lengths)

-- The link is up, and T203 runs until 55.
t203_runs : begun.clock.running ≡ record { moment = 55; line = 0; timer = T203 Call 64 } ∷ []
unfolding lines.after lines.answer lines.takes_slot exchanged read_by reading header_of control_of unnumbered_of supervisory_of teis.course teis.refusal seq distance_of named timed.after_all
t203_runs = refl

-- An I-frame goes at 20: T203 rests, and T200 runs until 30. It falls due then, and runs anew; the link enquires.
abbrev pub sent : List (Step Event)
sent = up ++ (time 20 ∷ on_0 (line.request (Data Call 64 (0xAB ∷ []))) ∷ on_0 line.next ∷ [])

abbrev pub expired : List (Step Event)
expired = sent ++ (time 30 ∷ falls_due ∷ [])

t200_runs : (after_all sent (fresh usual lengths)).clock.running ≡ record { moment = 30; line = 0; timer = T200 Call 64 } ∷ []
unfolding lines.after lines.answer lines.takes_slot exchanged read_by reading header_of control_of unnumbered_of supervisory_of teis.course teis.refusal seq distance_of named timed.after_all
t200_runs = refl

enquires : state 0 Call 64 (after_all expired (fresh usual lengths)).card ≡ Some 8
unfolding lines.after lines.answer lines.takes_slot exchanged read_by reading header_of control_of unnumbered_of supervisory_of teis.course teis.refusal seq distance_of named timed.after_all
enquires = refl

runs_anew : (after_all expired (fresh usual lengths)).clock.running ≡ record { moment = 40; line = 0; timer = T200 Call 64 } ∷ []
unfolding lines.after lines.answer lines.takes_slot exchanged read_by reading header_of control_of unnumbered_of supervisory_of teis.course teis.refusal seq distance_of named timed.after_all
runs_anew = refl

-- It was started last at 30, so it is due at 40; and T203 is stopped.
started_30 : last_start 0 (T200 Call 64) (said_in frames expired (fresh usual lengths)) ≡ Some 30
unfolding lines.after lines.answer lines.takes_slot exchanged read_by reading header_of control_of unnumbered_of supervisory_of teis.course teis.refusal seq distance_of named said_in
started_30 = refl

rests : last_start 0 (T203 Call 64) (said_in frames expired (fresh usual lengths)) ≡ None
unfolding lines.after lines.answer lines.takes_slot exchanged read_by reading header_of control_of unnumbered_of supervisory_of teis.course teis.refusal seq distance_of named said_in
rests = refl

-- Nothing else falls due before 40.
nothing_due : events_of (time 39 ∷ falls_due ∷ []) (after_all expired (fresh usual lengths)) ≡ []
unfolding lines.after lines.answer lines.takes_slot exchanged read_by reading header_of control_of unnumbered_of supervisory_of teis.course teis.refusal seq distance_of named timed.after_all timed.events_of
nothing_due = refl

falls_at_40 : events_of (time 40 ∷ falls_due ∷ []) (after_all expired (fresh usual lengths)) ≡ at 0 (line.expiry (T200 Call 64)) ∷ []
unfolding lines.after lines.answer lines.takes_slot exchanged read_by reading header_of control_of unnumbered_of supervisory_of teis.course teis.refusal seq distance_of named timed.after_all timed.events_of
falls_at_40 = refl

-- Time went on to 30 last. That nothing is next, where T200 runs, breaks the law.
at_30 : moment_after expired ≡ 30
at_30 = refl

none_next : IsNext lengths None (said_in frames expired (fresh usual lengths)) → ⊥
unfolding lines.after lines.answer lines.takes_slot exchanged read_by reading header_of control_of unnumbered_of supervisory_of teis.course teis.refusal seq distance_of named said_in
none_next none = cc (none 0 (T200 Call 64))
