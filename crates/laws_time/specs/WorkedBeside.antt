-- Worked values: a clock beside a card of the network's side with one terminal. Each computes.
use Rattle.std.specs.Prelude.{◌≡◌, List, [], ◌∷◌, refl}
use Rattle.lapd_clock.specs.Timer.{Start, Stop, T200, T203, T201, Call, Packet}
use Rattle.lapd_clock.specs.Timers.{Expiry, idle_with}
unfoldable use Rattle.lapd_clock.specs.Timers.{finds_place, with_order}
use Rattle.lapd_frame.specs.Reading.{reading, header_of, control_of, unnumbered_of, supervisory_of}
use Rattle.lapd_frame.specs.Senders.{exchanged, reading as read_by}
use Rattle.lapd_seq.specs.Circle.{distance_of, named}
use Rattle.lapd_seq.specs.Numbers.{seq}
use Rattle.model_teis.specs.network.Events as teis
use Rattle.model_bits.specs.Stream.{frame}
use Rattle.model_line.specs.Event.{hears, next, request}
use Rattle.model_line.specs.Machine as lines
use Rattle.model_line.specs.Request.{Assign, Check, Data}
use Rattle.model_line.specs.declared.config.Config.{Config}
use Rattle.model_card.specs.Card.{Card, fresh}
use Rattle.model_card.specs.Event.{Event, at}
use Rattle.model_timed.specs.Frames.{frames}
use Rattle.model_timed.specs.Timed.{Step}
use Rattle.model_timed.specs.Worked.{lengths, on_0, usual}
use Rattle.laws_time.specs.BesideACard.{Beside, after_all, carried_out}

-- The SABME of call control comes, and that of the second service; the TEI is checked, and the message is sent. Then data waits.
abbrev up : List (Step Event)
up =
    on_0 (request (Assign 64)) ∷ on_0 (hears (frame (0x00 ∷ 0x81 ∷ 0x7F ∷ []))) ∷ on_0 next ∷ on_0 (hears (frame (0x40 ∷ 0x81 ∷ 0x7F ∷ []))) ∷ on_0 next
    ∷ on_0 (request (Check 64)) ∷ on_0 next ∷ on_0 (request (Data Call 64 (0xAB ∷ []))) ∷ []

abbrev one_terminal : Config
one_terminal = record usual { terminals = 1 }

abbrev begun : Beside Card
begun = after_all frames up (record { card = fresh one_terminal; clock = idle_with lengths 1 1; now = 0 })

abbrev timers : List Expiry
timers = record { moment = 10; line = 0; timer = T201 } ∷ record { moment = 50; line = 0; timer = T203 Call 64 } ∷ record { moment = 50; line = 0; timer = T203 Packet 64 } ∷ []

-- T203 of both links and T201 run, as the line has five places. T200 is the fourth; then T203 stops.
three_run : begun.clock.running ≡ timers
unfolding lines.after lines.answer lines.takes_slot exchanged read_by reading header_of control_of unnumbered_of supervisory_of teis.course teis.refusal seq distance_of named after_all with_order finds_place
three_run = refl

starts_one : frames.orders (at 0 next) begun.card ≡ Start (T200 Call 64) ∷ Stop (T203 Call 64) ∷ []
unfolding lines.after lines.answer lines.takes_slot exchanged read_by reading header_of control_of unnumbered_of supervisory_of teis.course teis.refusal seq distance_of named after_all with_order finds_place
starts_one = refl

four_run : (carried_out 0 0 (Start (T200 Call 64) ∷ []) begun.clock).running ≡ record { moment = 10; line = 0; timer = T200 Call 64 } ∷ timers
unfolding lines.after lines.answer lines.takes_slot exchanged read_by reading header_of control_of unnumbered_of supervisory_of teis.course teis.refusal seq distance_of named after_all with_order finds_place
four_run = refl
