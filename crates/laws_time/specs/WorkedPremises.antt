-- Worked values: what becomes of a dead line without a premise of `Silence`. Each computes.
use Rattle.std.specs.Prelude.{false, ◌≡◌, List, [], ◌∷◌, refl}
use Rattle.std.proofs.Common.{arith}
use Rattle.std.proofs.lemmas.List.Elements.{All-head}
use Rattle.lapd_clock.specs.Timers.{Expiry}
use Rattle.lapd_frame.specs.declared.notes.Note.TheVariants.{Error, ReleaseConfirm, ReleaseIndication}
use Rattle.lapd_frame.specs.declared.notes.ErrorCode.TheVariants.{H}
use Rattle.lapd_frame.specs.declared.services.Service.TheVariants.{Call}
use Rattle.lapd_frame.specs.Reading.{reading, header_of, control_of, unnumbered_of, supervisory_of}
use Rattle.lapd_frame.specs.Senders.{exchanged, reading as read_by}
use Rattle.lapd_seq.specs.Circle.{distance_of, named}
use Rattle.lapd_seq.specs.Numbers.{seq}
use Rattle.model_teis.specs.network.Events as teis
use Rattle.model_line.specs.Machine as lines
use Rattle.model_line.specs.Request.{Release, Remove}
use Rattle.model_card.specs.Event.{Event}
use Rattle.model_timed.specs.Frames.{frames}
use Rattle.model_timed.specs.Timed.{Step, happens, time, falls_due, after_all, ArePrompt, IsInTime}
use Rattle.laws_line.specs.card.Worked.{usual, frame_comes, on_0}
use Rattle.laws_time.specs.Watched.{of_frames}
use Rattle.laws_time.specs.Silence.{news, IsToldInTime}
use Rattle.laws_time.specs.WorkedSilence.{lengths, begun}

-- From state 7 at moment 0 error I is to be told once 100 is over.
nothing_is_late : IsToldInTime 0 7 false usual lengths Call 64 0 101 [] → ⊥
nothing_is_late told = omega (arith, told.first (omega arith))

-- RR is heard at 40: T203 runs anew, up to 90, and nothing is told at 101.
abbrev heard : List (Step Event)
heard = time 40 ∷ happens (frame_comes (0x02 ∷ 0x81 ∷ 0x01 ∷ 0x00 ∷ [])) ∷ time 90 ∷ falls_due ∷ time 100 ∷ falls_due ∷ time 101 ∷ []

heard_none : news of_frames Call 64 0 heard begun ≡ []
unfolding lines.after lines.answer lines.takes_slot exchanged read_by reading header_of control_of unnumbered_of supervisory_of teis.course teis.refusal seq distance_of named after_all news
heard_none = refl

heard_101 : (after_all frames heard begun).clock.now ≡ 101
unfolding lines.after lines.answer lines.takes_slot exchanged read_by reading header_of control_of unnumbered_of supervisory_of teis.course teis.refusal seq distance_of named after_all
heard_101 = refl

-- Layer 3 asks for the release: it is told what a link in state 6 tells.
abbrev asked : List (Step Event)
asked = happens (on_0 (Release Call 64)) ∷ time 10 ∷ falls_due ∷ time 20 ∷ falls_due ∷ time 30 ∷ falls_due ∷ time 40 ∷ falls_due ∷ []

asked_release : news of_frames Call 64 0 asked begun ≡ Error Call 64 H ∷ ReleaseConfirm Call 64 ∷ []
unfolding lines.after lines.answer lines.takes_slot exchanged read_by reading header_of control_of unnumbered_of supervisory_of teis.course teis.refusal seq distance_of named after_all news
asked_release = refl

-- Its TEI leaves the line: that is an indication of the release at once.
left : news of_frames Call 64 0 (happens (on_0 (Remove 64)) ∷ []) begun ≡ ReleaseIndication Call 64 ∷ []
unfolding lines.after lines.answer lines.takes_slot exchanged read_by reading header_of control_of unnumbered_of supervisory_of teis.course teis.refusal seq distance_of named after_all news
left = refl

-- The caller lets T203 fall due at 200, which is late by 150: nothing is told until then. So it is not prompt.
abbrev late : List (Step Event)
late = time 200 ∷ []

late_none : news of_frames Call 64 0 late begun ≡ []
unfolding lines.after lines.answer lines.takes_slot exchanged read_by reading header_of control_of unnumbered_of supervisory_of teis.course teis.refusal seq distance_of named after_all news
late_none = refl

abbrev t203 : Expiry
t203 = record { moment = 50; line = 0; timer = Rattle.lapd_clock.specs.Timer.T203 Call 64 }

runs_t203 : begun.clock.running ≡ t203 ∷ []
unfolding lines.after lines.answer lines.takes_slot exchanged read_by reading header_of control_of unnumbered_of supervisory_of teis.course teis.refusal seq distance_of named after_all
runs_t203 = refl

not_prompt : ArePrompt frames 0 late begun → ⊥
unfolding lines.after lines.answer lines.takes_slot exchanged read_by reading header_of control_of unnumbered_of supervisory_of teis.course teis.refusal seq distance_of named after_all ArePrompt
not_prompt prompt = omega (arith, All-head (IsInTime 0 200) t203 [] prompt.0.1)
