-- Worked values: a line goes dead, and layer 3 is told. Each computes.
use Rattle.std.specs.Prelude.{false, ◌≡◌, List, [], ◌∷◌, ◌++◌, Some, refl}
use Rattle.std.proofs.Common.{arith}
use Rattle.lapd_frame.specs.declared.notes.Note.TheVariants.{Error}
use Rattle.lapd_frame.specs.declared.notes.ErrorCode.TheVariants.{I}
use Rattle.lapd_frame.specs.declared.services.Service.TheVariants.{Call}
use Rattle.lapd_frame.specs.Reading.{reading, header_of, control_of, unnumbered_of, supervisory_of}
use Rattle.lapd_frame.specs.Senders.{exchanged, reading as read_by}
use Rattle.lapd_seq.specs.Circle.{distance_of, named}
use Rattle.lapd_seq.specs.Numbers.{seq}
use Rattle.lapd_clock.specs.Timer.{Lengths}
use Rattle.model_teis.specs.network.Events as teis
use Rattle.model_line.specs.Event as line
use Rattle.model_line.specs.Machine as lines
use Rattle.model_line.specs.Request.{Assign, Data}
use Rattle.model_card.specs.Card.{state}
use Rattle.model_card.specs.Event.{Event, at}
use Rattle.model_timed.specs.Frames.{TimedCard, fresh, frames}
use Rattle.model_timed.specs.Timed.{Step, happens, time, falls_due, after_all, ArePrompt}
use Rattle.laws_line.specs.card.Worked.{usual, frame_comes, on_0}
use Rattle.laws_time.specs.Watched.{of_frames}
use Rattle.laws_time.specs.Silence.{news, told_in, first_in, all_in, AreStill}

abbrev pub lengths : Lengths
lengths = record { t200 = 10; t203 = 50; t201 = 10; t202 = 20 }

-- TEI 64, and its SABME: the link is in state 7 at moment 0, and T203 runs, up to 50.
abbrev pub up : List (Step Event)
up = happens (on_0 (Assign 64)) ∷ happens (frame_comes (0x00 ∷ 0x81 ∷ 0x7F ∷ [])) ∷ happens (at 0 line.next) ∷ []

abbrev pub begun : TimedCard
begun = after_all frames up (fresh usual lengths)

-- An I-frame goes at 50, just before T203 falls due; then T200 falls due at 60, at 70 and 80 and 90, and at 100 for the last time.
abbrev pub until_i : List (Step Event)
until_i =
    happens (on_0 (Data Call 64 (0xAB ∷ []))) ∷ time 50 ∷ happens (at 0 line.next) ∷ falls_due ∷ time 60 ∷ falls_due ∷ time 70 ∷ falls_due ∷ time 80 ∷ falls_due
    ∷ time 90 ∷ falls_due ∷ time 100 ∷ falls_due ∷ []

abbrev pub until_g : List (Step Event)
until_g = until_i ++ (time 110 ∷ falls_due ∷ time 120 ∷ falls_due ∷ time 130 ∷ falls_due ∷ time 140 ∷ falls_due ∷ [])

in_7 : state 0 Call 64 begun.card ≡ Some 7
unfolding lines.after lines.answer lines.takes_slot exchanged read_by reading header_of control_of unnumbered_of supervisory_of teis.course teis.refusal seq distance_of named after_all
in_7 = refl

-- So error I is told at 100, which is T203 and five times T200 later, and the release at 140: no sooner bound holds.
told_i : news of_frames Call 64 0 until_i begun ≡ Error Call 64 I ∷ []
unfolding lines.after lines.answer lines.takes_slot exchanged read_by reading header_of control_of unnumbered_of supervisory_of teis.course teis.refusal seq distance_of named after_all news
told_i = refl

told_g : news of_frames Call 64 0 until_g begun ≡ told_in 7 false Call 64
unfolding lines.after lines.answer lines.takes_slot exchanged read_by reading header_of control_of unnumbered_of supervisory_of teis.course teis.refusal seq distance_of named after_all news
told_g = refl

first_100 : first_in 7 0 usual lengths ≡ 100
first_100 = refl

all_140 : all_in 7 0 usual lengths ≡ 140
all_140 = refl

-- The premises are met.
prompt : ArePrompt frames 0 up (fresh usual lengths)
unfolding lines.after lines.answer lines.takes_slot exchanged read_by reading header_of control_of unnumbered_of supervisory_of teis.course teis.refusal seq distance_of named ArePrompt
prompt = ((omega arith, tt), ((omega arith, tt), ((omega arith, tt), tt)))

still : AreStill of_frames usual Call 64 0 until_g begun
unfolding lines.after lines.answer lines.takes_slot exchanged read_by reading header_of control_of unnumbered_of supervisory_of teis.course teis.refusal seq distance_of named after_all AreStill
still = (λ e. refl, refl, (tt, refl, (λ e. refl, refl, (tt, refl, (tt, refl, (tt, refl, (tt, refl, (tt, refl, (tt, refl, (tt, refl, (tt, refl, (tt, refl, (tt, refl, (tt, refl, (tt, refl, (tt, refl, (tt, refl, (tt, refl, (tt, refl, (tt, refl, (tt, refl, (tt, refl, tt))))))))))))))))))))))
