-- Worked values: a release whose commands are lost, and what would be told where a premise is left out. Each computes.
use Rattle.std.specs.Prelude.{◌≡◌, ℕ, List, [], ◌∷◌, ◌++◌, refl}
use Rattle.lapd_frame.specs.declared.notes.ErrorCode.TheVariants.{H}
use Rattle.lapd_frame.specs.declared.notes.Note.TheVariants.{ReleaseConfirm, Error}
use Rattle.lapd_frame.specs.declared.services.Service.TheVariants.{Call}
use Rattle.lapd_frame.specs.declared.timers.Timer.TheVariants.{T200}
use Rattle.lapd_frame.specs.declared.readings.Reading.TheVariants.{Profile}
use Rattle.lapd_frame.specs.Reading.{reading, header_of, control_of, unnumbered_of, supervisory_of}
use Rattle.lapd_frame.specs.Senders.{exchanged, reading as read_by}
use Rattle.lapd_seq.specs.Circle.{distance_of, named}
use Rattle.lapd_seq.specs.Numbers.{seq}
use Rattle.model_teis.specs.network.Events as teis
use Rattle.model_line.specs.Line.{tries}
use Rattle.model_line.specs.Machine as lines
use Rattle.model_line.specs.Request.{Release, Remove, Deactivate}
use Rattle.laws_wire.specs.Wire.{Wire, requests, expires, sends, receives, loses, turned, doing_all}
use Rattle.laws_order.specs.AnySteps.{step, AnyStepAt, any_near, any_doing_all, seen_near, seen_far}
use Rattle.laws_order.specs.InTheEnd.{t200s, StaysThere}
use Rattle.laws_order.specs.Order.{StaysEstablished}
use Rattle.laws_order.specs.Release.{news, BeginsNothing}
use Rattle.laws_order.specs.Worked.{faces}
use Rattle.laws_order.specs.WorkedRelease.{releases, released, takes_two, takes_disc}

-- N200 is 3. The I-frames that were on their way are lost, and DISC, and T200 expires: at the fourth time the near end is told.
abbrev pub is_lost : List AnyStepAt
is_lost = any_near (step sends) ∷ any_near (step loses) ∷ any_near (step (expires (T200 Call 0))) ∷ []

abbrev pub gives_up : List AnyStepAt
gives_up = is_lost ++ is_lost ++ is_lost ++ is_lost

pub four_tries : tries released.near.card.config ≡ 4
unfolding lines.after lines.answer lines.takes_slot exchanged read_by reading header_of control_of unnumbered_of supervisory_of teis.course teis.refusal seq distance_of named doing_all any_doing_all
four_tries = refl

three_are_few : news Profile Call 0 (seen_near (is_lost ++ is_lost ++ is_lost) released) ≡ []
unfolding lines.after lines.answer lines.takes_slot exchanged read_by reading header_of control_of unnumbered_of supervisory_of teis.course teis.refusal seq distance_of named doing_all any_doing_all seen_near
three_are_few = refl

told_at_last : news Profile Call 0 (seen_near gives_up released) ≡ Error Call 0 H ∷ ReleaseConfirm Call 0 ∷ []
unfolding lines.after lines.answer lines.takes_slot exchanged read_by reading header_of control_of unnumbered_of supervisory_of teis.course teis.refusal seq distance_of named doing_all any_doing_all seen_near
told_at_last = refl

pub four_expire : t200s Call 0 gives_up released ≡ 4
unfolding lines.after lines.answer lines.takes_slot exchanged read_by reading header_of control_of unnumbered_of supervisory_of teis.course teis.refusal seq distance_of named doing_all any_doing_all t200s
four_expire = refl

pub gives_up_quietly : BeginsNothing Call 0 (seen_near gives_up released)
unfolding lines.after lines.answer lines.takes_slot exchanged read_by reading header_of control_of unnumbered_of supervisory_of teis.course teis.refusal seq distance_of named doing_all any_doing_all seen_near
gives_up_quietly = refl

-- Where DISC comes, and UA, the near end is told the confirm, and the TEI stays there.
abbrev pub goes_on_to_the_end : List AnyStepAt
goes_on_to_the_end = takes_two ++ takes_disc

pub comes_quietly : BeginsNothing Call 0 (seen_near goes_on_to_the_end released)
unfolding lines.after lines.answer lines.takes_slot exchanged read_by reading header_of control_of unnumbered_of supervisory_of teis.course teis.refusal seq distance_of named doing_all any_doing_all seen_near
comes_quietly = refl

pub comes_confirmed : news Profile Call 0 (seen_near goes_on_to_the_end released) ≡ ReleaseConfirm Call 0 ∷ []
unfolding lines.after lines.answer lines.takes_slot exchanged read_by reading header_of control_of unnumbered_of supervisory_of teis.course teis.refusal seq distance_of named doing_all any_doing_all seen_near
comes_confirmed = refl

pub comes_there : StaysThere Call 0 goes_on_to_the_end released
unfolding lines.after lines.answer lines.takes_slot exchanged read_by reading header_of control_of unnumbered_of supervisory_of teis.course teis.refusal seq distance_of named doing_all any_doing_all StaysThere
comes_there = (refl, (refl, (refl, (refl, (refl, (refl, (refl, refl)))))))

abbrev asks : List AnyStepAt
asks = any_near (step (requests (Release Call 0))) ∷ []

-- Where the TEI leaves the line of the end that releases, here the network's, or its link is deactivated, that confirms its release,
-- and the other end knows nothing of it.
abbrev removes : List AnyStepAt
removes = any_near (step (requests (Remove 0))) ∷ []

abbrev deactivates : List AnyStepAt
deactivates = any_near (step (requests (Deactivate Call 0))) ∷ []

removed_near : news Profile Call 0 (seen_near removes (any_doing_all asks (turned faces))) ≡ ReleaseConfirm Call 0 ∷ []
unfolding lines.after lines.answer lines.takes_slot exchanged read_by reading header_of control_of unnumbered_of supervisory_of teis.course teis.refusal seq distance_of named doing_all any_doing_all seen_near
removed_near = refl

removed_far : StaysEstablished Call 0 (seen_far (asks ++ removes) (turned faces))
unfolding lines.after lines.answer lines.takes_slot exchanged read_by reading header_of control_of unnumbered_of supervisory_of teis.course teis.refusal seq distance_of named doing_all any_doing_all seen_far
removed_far = refl

deactivated_near : news Profile Call 0 (seen_near deactivates released) ≡ ReleaseConfirm Call 0 ∷ []
unfolding lines.after lines.answer lines.takes_slot exchanged read_by reading header_of control_of unnumbered_of supervisory_of teis.course teis.refusal seq distance_of named doing_all any_doing_all seen_near
deactivated_near = refl

deactivated_far : StaysEstablished Call 0 (seen_far (releases ++ deactivates) faces)
unfolding lines.after lines.answer lines.takes_slot exchanged read_by reading header_of control_of unnumbered_of supervisory_of teis.course teis.refusal seq distance_of named doing_all any_doing_all seen_far
deactivated_far = refl

-- Where the two did not face each other at rest: UA from before is on its way to the near end, and confirms its release.
abbrev old_ua : List ℕ
old_ua = 0x00 ∷ 0x01 ∷ 0x73 ∷ []

abbrev with_ua : Wire
with_ua = record faces { far = record faces.far { way = old_ua ∷ [] } }

abbrev ua_comes : List AnyStepAt
ua_comes = any_near (step receives) ∷ []

ua_near : news Profile Call 0 (seen_near ua_comes (any_doing_all asks with_ua)) ≡ ReleaseConfirm Call 0 ∷ []
unfolding lines.after lines.answer lines.takes_slot exchanged read_by reading header_of control_of unnumbered_of supervisory_of teis.course teis.refusal seq distance_of named doing_all any_doing_all seen_near
ua_near = refl

ua_far : StaysEstablished Call 0 (seen_far (asks ++ ua_comes) with_ua)
unfolding lines.after lines.answer lines.takes_slot exchanged read_by reading header_of control_of unnumbered_of supervisory_of teis.course teis.refusal seq distance_of named doing_all any_doing_all seen_far
ua_far = refl
