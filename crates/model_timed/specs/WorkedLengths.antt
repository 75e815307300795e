-- Worked values: a card of frames whose lengths are changed while a timer runs. Each computes.
use Rattle.std.specs.Prelude.{◌≡◌, List, [], ◌∷◌, ◌++◌, map, Some, refl}
use Rattle.lapd_clock.specs.Timer.{Lengths, T200, T203, Call}
use Rattle.lapd_frame.specs.Reading.{reading, header_of, control_of, unnumbered_of, supervisory_of}
use Rattle.lapd_frame.specs.Senders.{exchanged, reading as read_by}
use Rattle.lapd_seq.specs.Circle.{distance_of, named}
use Rattle.lapd_seq.specs.Numbers.{seq}
use Rattle.model_teis.specs.network.Events as teis
use Rattle.model_line.specs.Event as line
use Rattle.model_line.specs.Machine as lines
use Rattle.model_line.specs.Request.{Data}
use Rattle.model_card.specs.Event.{Event}
use Rattle.model_timed.specs.Timed.{time}
use Rattle.model_timed.specs.Frames.{fresh, frames}
use Rattle.model_timed.specs.LengthsChange.{Change, step, set_lengths, after_changes, told_in, last_begun}
use Rattle.model_timed.specs.Worked.{usual, lengths, on_0, up}

abbrev longer : Lengths
longer = record { t200 = 15; t203 = 90; t201 = 15; t202 = 30 }

-- T203 of 50 ms runs from 5 on. Longer lengths are set at 5: it still runs until 55.
abbrev pub longer_then : List (Change Event)
longer_then = map step up ++ (set_lengths longer ∷ [])

t203_stays : (after_changes frames longer_then (fresh usual lengths)).clock.running ≡ record { moment = 55; line = 0; timer = T203 Call 64 } ∷ []
unfolding lines.after lines.answer lines.takes_slot exchanged read_by reading header_of control_of unnumbered_of supervisory_of teis.course teis.refusal seq distance_of named after_changes
t203_stays = refl

-- T200 is started at 20 with the new length: it runs until 35.
abbrev pub sent_then : List (Change Event)
sent_then = longer_then ++ map step (time 20 ∷ on_0 (line.request (Data Call 64 (0xAB ∷ []))) ∷ on_0 line.next ∷ [])

t200_is_longer : (after_changes frames sent_then (fresh usual lengths)).clock.running ≡ record { moment = 35; line = 0; timer = T200 Call 64 } ∷ []
unfolding lines.after lines.answer lines.takes_slot exchanged read_by reading header_of control_of unnumbered_of supervisory_of teis.course teis.refusal seq distance_of named after_changes
t200_is_longer = refl

-- What was told of the one is of the lengths at first, and what was told of the other of the new ones.
begun_first : last_begun 0 (T203 Call 64) (told_in frames lengths longer_then (fresh usual lengths)) ≡ Some (record { moment = 5; lengths = lengths })
unfolding lines.after lines.answer lines.takes_slot exchanged read_by reading header_of control_of unnumbered_of supervisory_of teis.course teis.refusal seq distance_of named told_in
begun_first = refl

begun_later : last_begun 0 (T200 Call 64) (told_in frames lengths sent_then (fresh usual lengths)) ≡ Some (record { moment = 20; lengths = longer })
unfolding lines.after lines.answer lines.takes_slot exchanged read_by reading header_of control_of unnumbered_of supervisory_of teis.course teis.refusal seq distance_of named told_in
begun_later = refl
