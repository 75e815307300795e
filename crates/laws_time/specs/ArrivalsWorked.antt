-- Worked values: an answer is awaited exactly as long as it may be at most, and N200 is used up as soon as it may be. Each computes.
use Rattle.std.specs.Prelude.{false, ◌≡◌, ◌+◌, ◌*◌, List, [], ◌∷◌, Some, refl}
use Rattle.lapd_frame.specs.declared.services.Service.TheVariants.{Call}
use Rattle.lapd_frame.specs.Reading.{reading, header_of, control_of, unnumbered_of, supervisory_of}
use Rattle.lapd_frame.specs.Senders.{exchanged, reading as read_by}
use Rattle.lapd_seq.specs.Circle.{distance_of, named}
use Rattle.lapd_seq.specs.Numbers.{seq}
use Rattle.model_teis.specs.network.Events as teis
use Rattle.model_line.specs.Event as line
use Rattle.model_line.specs.Machine as lines
use Rattle.model_line.specs.Request.{Assign, Data, Establish}
use Rattle.model_line.specs.Line.{tries}
use Rattle.model_card.specs.Card.{state}
use Rattle.model_card.specs.Event.{Event, at}
use Rattle.model_timed.specs.Frames.{TimedCard, fresh, frames}
use Rattle.model_timed.specs.Timed.{Step, happens, time, falls_due, after_all}
use Rattle.laws_line.specs.card.Worked.{usual, on_0}
use Rattle.laws_time.specs.Watched.{of_frames}
use Rattle.laws_time.specs.Silence.{awaiting, given_up, news}
use Rattle.laws_time.specs.ArrivalsAwaited.{StaysIn}
use Rattle.laws_time.specs.WorkedSilence.{begun, lengths}

-- The I-frame that went at 50 is not acknowledged by 60: the link comes to state 8.
abbrev pub enquires : List (Step Event)
enquires = happens (on_0 (Data Call 64 (0xAB ∷ []))) ∷ time 50 ∷ happens (at 0 line.next) ∷ time 60 ∷ falls_due ∷ []

abbrev pub enquired : TimedCard
enquired = after_all frames enquires begun

in_8 : state 0 Call 64 enquired.card ≡ Some 8
unfolding lines.after lines.answer lines.takes_slot exchanged read_by reading header_of control_of unnumbered_of supervisory_of teis.course teis.refusal seq distance_of named after_all
in_8 = refl

-- N200 is 3, so it enquires three times more, and is there until T200 falls due at 100.
abbrev pub waits : List (Step Event)
waits = time 70 ∷ falls_due ∷ time 80 ∷ falls_due ∷ time 90 ∷ falls_due ∷ time 100 ∷ []

stays : StaysIn of_frames 0 Call 64 8 waits enquired
unfolding lines.after lines.answer lines.takes_slot exchanged read_by reading header_of control_of unnumbered_of supervisory_of teis.course teis.refusal seq distance_of named after_all StaysIn
stays = (refl, (refl, (refl, (refl, (refl, (refl, (refl, tt)))))))

as_long : (after_all frames waits enquired).clock.now ≡ enquired.clock.now + awaiting 0 usual lengths
unfolding lines.after lines.answer lines.takes_slot exchanged read_by reading header_of control_of unnumbered_of supervisory_of teis.course teis.refusal seq distance_of named after_all
as_long = refl

-- TEI 64, in state 4. SABME goes at 0, and again at 10, 20 and 30; at 40 N200 is used up, and no sooner.
abbrev pub assigned : TimedCard
assigned = after_all frames (happens (on_0 (Assign 64)) ∷ []) (fresh usual lengths)

in_4 : state 0 Call 64 assigned.card ≡ Some 4
unfolding lines.after lines.answer lines.takes_slot exchanged read_by reading header_of control_of unnumbered_of supervisory_of teis.course teis.refusal seq distance_of named after_all
in_4 = refl

abbrev pub unheard : List (Step Event)
unheard = happens (on_0 (Establish Call 64)) ∷ time 10 ∷ falls_due ∷ time 20 ∷ falls_due ∷ time 30 ∷ falls_due ∷ time 40 ∷ falls_due ∷ []

told_g : news of_frames Call 64 0 unheard assigned ≡ given_up false Call 64
unfolding lines.after lines.answer lines.takes_slot exchanged read_by reading header_of control_of unnumbered_of supervisory_of teis.course teis.refusal seq distance_of named after_all news
told_g = refl

as_soon : (after_all frames unheard assigned).clock.now ≡ assigned.clock.now + tries usual * lengths.t200
unfolding lines.after lines.answer lines.takes_slot exchanged read_by reading header_of control_of unnumbered_of supervisory_of teis.course teis.refusal seq distance_of named after_all
as_soon = refl
