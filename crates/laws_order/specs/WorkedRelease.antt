-- Worked values: releases in the midst of data. Each computes.
use Rattle.std.specs.Prelude.{◌≡◌, List, [], ◌∷◌, ◌++◌, Some, refl}
use Rattle.lapd_frame.specs.declared.notes.ErrorCode.TheVariants.{C}
use Rattle.lapd_frame.specs.declared.notes.Note.{Note}
use Rattle.lapd_frame.specs.declared.notes.Note.TheVariants.{ReleaseIndication, ReleaseConfirm, Error}
use Rattle.lapd_frame.specs.declared.services.Service.TheVariants.{Call}
use Rattle.lapd_frame.specs.declared.timers.Timer.TheVariants.{T200}
use Rattle.lapd_frame.specs.declared.readings.Reading.TheVariants.{Profile}
use Rattle.lapd_frame.specs.Reading.{reading, header_of, control_of, unnumbered_of, supervisory_of}
use Rattle.lapd_frame.specs.Senders.{exchanged, reading as read_by}
use Rattle.lapd_seq.specs.Circle.{distance_of, named}
use Rattle.lapd_seq.specs.Numbers.{seq}
use Rattle.model_teis.specs.network.Events as teis
use Rattle.model_line.specs.Machine as lines
use Rattle.model_line.specs.Request.{Data, Release}
use Rattle.laws_trace.specs.Trace.{Seen, noted}
use Rattle.laws_wire.specs.Wire.{Wire, requests, expires, sends, receives, doing_all}
use Rattle.laws_order.specs.AnySteps.{step, AnyStepAt, any_near, any_far, any_doing_all, seen_near, seen_far}
use Rattle.laws_order.specs.Order.{data_noted, StaysEstablished, state_here}
use Rattle.laws_order.specs.Release.{news, BeginsNothing}
use Rattle.laws_order.specs.Worked.{faces}

-- Layer 3 of the near end sends 1, 2 and 3, and releases the link while 1 and 2 are on their way and 3 waits.
abbrev pub releases : List AnyStepAt
releases =
    any_near (step (requests (Data Call 0 (1 ∷ [])))) ∷ any_near (step (requests (Data Call 0 (2 ∷ [])))) ∷ any_near (step sends) ∷ any_near (step sends)
    ∷ any_near (step (requests (Data Call 0 (3 ∷ [])))) ∷ any_far (step (requests (Data Call 0 (4 ∷ [])))) ∷ any_far (step sends)
    ∷ any_near (step (requests (Release Call 0))) ∷ []

abbrev pub released : Wire
released = any_doing_all releases faces

-- The far end is told 1 and 2, but neither 3 nor that 4 was not taken, and then that the link is released.
abbrev pub takes_two : List AnyStepAt
takes_two = any_near (step sends) ∷ any_far (step receives) ∷ any_far (step receives) ∷ any_near (step receives) ∷ []

abbrev pub takes_disc : List AnyStepAt
takes_disc = any_far (step receives) ∷ any_far (step sends) ∷ any_near (step receives) ∷ []

pub awaits : state_here Call 0 released.near ≡ Some 6
unfolding lines.after lines.answer lines.takes_slot exchanged read_by reading header_of control_of unnumbered_of supervisory_of teis.course teis.refusal seq distance_of named doing_all any_doing_all
awaits = refl

two_told : data_noted Call 0 (seen_far (releases ++ takes_two) faces) ≡ (1 ∷ []) ∷ (2 ∷ []) ∷ []
unfolding lines.after lines.answer lines.takes_slot exchanged read_by reading header_of control_of unnumbered_of supervisory_of teis.course teis.refusal seq distance_of named doing_all any_doing_all seen_far
two_told = refl

-- So long its establishment lasts; that of the near end does not.
pub far_lasts : StaysEstablished Call 0 (seen_far (releases ++ takes_two) faces)
unfolding lines.after lines.answer lines.takes_slot exchanged read_by reading header_of control_of unnumbered_of supervisory_of teis.course teis.refusal seq distance_of named doing_all any_doing_all seen_far
far_lasts = refl

near_confirmed : news Profile Call 0 (seen_near (takes_two ++ takes_disc) released) ≡ ReleaseConfirm Call 0 ∷ []
unfolding lines.after lines.answer lines.takes_slot exchanged read_by reading header_of control_of unnumbered_of supervisory_of teis.course teis.refusal seq distance_of named doing_all any_doing_all seen_near
near_confirmed = refl

far_indicated : news Profile Call 0 (seen_far (takes_two ++ takes_disc) released) ≡ ReleaseIndication Call 0 ∷ []
unfolding lines.after lines.answer lines.takes_slot exchanged read_by reading header_of control_of unnumbered_of supervisory_of teis.course teis.refusal seq distance_of named doing_all any_doing_all seen_far
far_indicated = refl

-- Both release, and DISC of the near end goes twice: each is told the confirm, and then the near end error C of the second UA.
abbrev pub both_release : List AnyStepAt
both_release =
    any_far (step (requests (Release Call 0))) ∷ any_near (step sends) ∷ any_near (step (expires (T200 Call 0))) ∷ any_near (step sends)
    ∷ any_far (step receives) ∷ any_far (step receives) ∷ any_far (step receives) ∷ any_far (step receives)
    ∷ any_far (step sends) ∷ any_far (step sends) ∷ any_far (step sends)
    ∷ any_near (step receives) ∷ any_near (step receives) ∷ any_near (step receives) ∷ any_near (step receives)
    ∷ any_near (step sends) ∷ any_far (step receives) ∷ []

-- The notes of what is seen, all of them.
abbrev notes_in : Seen → List Note
notes_in (noted ns contents) = ns
notes_in other = []

abbrev all_notes : List Seen → List Note
all_notes [] = []
all_notes (s ∷ t) = notes_in s ++ all_notes t

pub both_begin_nothing : BeginsNothing Call 0 (seen_near both_release released)
unfolding lines.after lines.answer lines.takes_slot exchanged read_by reading header_of control_of unnumbered_of supervisory_of teis.course teis.refusal seq distance_of named doing_all any_doing_all seen_near
both_begin_nothing = refl

near_told : all_notes (seen_near both_release released) ≡ ReleaseConfirm Call 0 ∷ Error Call 0 C ∷ []
unfolding lines.after lines.answer lines.takes_slot exchanged read_by reading header_of control_of unnumbered_of supervisory_of teis.course teis.refusal seq distance_of named doing_all any_doing_all seen_near
near_told = refl

far_told : all_notes (seen_far both_release released) ≡ ReleaseConfirm Call 0 ∷ []
unfolding lines.after lines.answer lines.takes_slot exchanged read_by reading header_of control_of unnumbered_of supervisory_of teis.course teis.refusal seq distance_of named doing_all any_doing_all seen_far
far_told = refl

then_down : state_here Call 0 (any_doing_all both_release released).near ≡ Some 4
unfolding lines.after lines.answer lines.takes_slot exchanged read_by reading header_of control_of unnumbered_of supervisory_of teis.course teis.refusal seq distance_of named doing_all any_doing_all
then_down = refl
