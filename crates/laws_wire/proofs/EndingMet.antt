-- The premises of the law on a call that ends are met by the worked call.
use Rattle.laws_wire.proofs.Vocabulary.{◌≡◌, [], ◌∷◌, ◌++◌, refl, inl, All, Call, exchanged, reading, side_reading, header_of, control_of, unnumbered_of, supervisory_of, distance_of, named, seq, Wire, expires, sends, loses, at_near, doing_all, turns, heard_in, MayRepeat, IsFullTalk, StayPatient, IsLeaving, StayTimelyThere, release_confirmed, EndsSo, user, network, begins, establishes, IsStill}
use Rattle.laws_wire.proofs.Vocabulary.{line_answer}
use Rattle.laws_wire.proofs.Vocabulary.{line_takes_slot, line_after, tei_refusal, tei_course}
use Rattle.lapd_frame.specs.declared.timers.Timer.TheVariants.{T200}
use Rattle.laws_wire.specs.WorkedEnding.{established, rests, still, released, loses_disc, loses_both, ended, ended_still, ended_rests}
use Rattle.laws_wire.proofs.EndedRun.{calls-end}
use Rattle.laws_wire.proofs.PremisesMet.{can, all-of}
use Rattle.laws_wire.proofs.RecoveryMet.{none-told, still-open}

full : All (IsFullTalk Call 0) establishes
full = all-of (IsFullTalk Call 0) establishes (tt, (tt, (tt, (tt, tt))))

leaving-all : All (IsLeaving Call 0) loses_both
leaving-all =
    let expiring : IsLeaving Call 0 (at_near (expires (T200 Call 0))) = (refl, refl) in
    all-of (IsLeaving Call 0) loses_both (tt, (tt, (expiring, (tt, (tt, (tt, (tt, (expiring, (tt, (tt, (tt, (tt, tt))))))))))))

patient : StayPatient establishes begins
unfolding StayPatient
patient = (tt, (tt, (tt, (tt, tt))))

-- DISC was lost, and UA
disc-lost : Wire
disc-lost = doing_all (at_near sends ∷ at_near loses ∷ []) released

disc-idle : IsStill disc-lost
unfolding line_after line_answer line_takes_slot exchanged reading side_reading header_of control_of unnumbered_of supervisory_of tei_course tei_refusal seq distance_of named doing_all turns disc-lost
disc-idle = record { near = refl; far = refl; near_way = refl; far_way = refl }

disc-may : MayRepeat Call 0 disc-lost.near
unfolding line_after line_answer line_takes_slot exchanged reading side_reading header_of control_of unnumbered_of supervisory_of tei_course tei_refusal seq distance_of named doing_all turns disc-lost
disc-may = none-told

ua-lost : Wire
ua-lost = doing_all loses_disc released

ua-idle : IsStill ua-lost
unfolding line_after line_answer line_takes_slot exchanged reading side_reading header_of control_of unnumbered_of supervisory_of tei_course tei_refusal seq distance_of named doing_all turns ua-lost
ua-idle = record { near = refl; far = refl; near_way = refl; far_way = refl }

ua-may : MayRepeat Call 0 ua-lost.near
unfolding line_after line_answer line_takes_slot exchanged reading side_reading header_of control_of unnumbered_of supervisory_of tei_course tei_refusal seq distance_of named doing_all turns ua-lost
ua-may = none-told

timely : StayTimelyThere loses_both released
unfolding doing_all StayTimelyThere disc-lost ua-lost
timely = (
  tt,
  (
    tt,
    (
      ((λ awaits. still-open disc-lost disc-idle), disc-may),
      (tt, (tt, (tt, (tt, (((λ awaits. still-open ua-lost ua-idle), ua-may), (tt, (tt, (tt, (tt, tt))))))))),
    ),
  ),
)

-- so the law says what the worked values show
so : EndsSo Call 0 established ended
so = calls-end Call user network 0 0 0 establishes loses_both established can full leaving-all patient (still, rests.0, rests.1) (inl refl) timely

pub told : heard_in ended.near ≡ heard_in established.near ++ release_confirmed Call 0 ∷ []
told = so.near.1 (ended_still, ended_rests)
