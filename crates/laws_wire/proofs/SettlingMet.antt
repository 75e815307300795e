-- The premises of the law that a call with losses comes to rest are met by the worked calls.
use Rattle.laws_wire.proofs.Vocabulary.{◌≡◌, ℕ, ◌≤◌, [], ◌∷◌, refl, sym, subst, arith, All, Call, exchanged, reading, side_reading, header_of, control_of, unnumbered_of, supervisory_of, distance_of, named, seq, Data, SetBusy, ClearBusy, requests, expires, at_near, at_far, doing_all, IsStill, confirmed, heard_in, IsFullTalk, StayPatient, MayRepeat, BothMayRepeat, rounds, with_t200_expired, moves}
use Rattle.laws_wire.proofs.Vocabulary.{begins, user, network}
use Rattle.laws_wire.proofs.Vocabulary.{line_answer, line_takes_slot, line_after, tei_refusal, tei_course, IsAtRest, uncalled, seen, most_moves, none_busy, busy, near_expires, HasLeft, HasTold, loses_ua, is_ready, ready, ready_seen, ready_free, ready_still, ready_near, ready_left, ua_lost, lost_near, lost_still}
use Rattle.lapd_frame.specs.declared.timers.Timer.TheVariants.{T200}
use Rattle.laws_wire.proofs.AnsweringMet.{only-turns, patient-first}
use Rattle.laws_wire.proofs.PremisesMet.{can, all-of}
use Rattle.laws_wire.proofs.RecoveryMet.{none-told, heard-it}
use Rattle.laws_wire.proofs.UaComes.{lossy-calls-come-to-rest}
use Rattle.laws_wire.proofs.UaMoves.{both-patient, lossy-moves-come-to-an-end, lossy-rounds-come-to-rest}
use Rattle.laws_wire.proofs.UaSettles.{lossy-calls-are-answered, lossy-calls-settle}

full : All (IsFullTalk Call 0) is_ready
full =
    let near : IsFullTalk Call 0 (at_near (requests (Data Call 0 (1 ∷ [])))) = (refl, refl) in
    let busy : IsFullTalk Call 0 (at_far (requests (SetBusy Call 0))) = (refl, refl) in
    let ready : IsFullTalk Call 0 (at_far (requests (ClearBusy Call 0))) = (refl, refl) in
    let expiring : IsFullTalk Call 0 (at_near (expires (T200 Call 0))) = (refl, refl) in
    all-of (IsFullTalk Call 0) is_ready (tt, (tt, (tt, (tt, (expiring, (tt, (tt, (tt, (tt, (busy, (near, (tt, (tt, (tt, (tt, (ready, (tt, (tt, tt))))))))))))))))))

patient : StayPatient is_ready begins
patient = both-patient loses_ua _ begins patient-first (only-turns _ refl (doing_all loses_ua begins))

bounded : moves is_ready begins ≤ most_moves 7 is_ready begins
bounded = lossy-moves-come-to-an-end Call user network 0 0 0 7 is_ready can full (omega arith) (omega arith) patient

rests : (n : ℕ) × (n ≤ most_moves 7 is_ready begins) × IsStill (rounds n ready)
rests = lossy-rounds-come-to-rest Call user network 0 0 0 7 is_ready can full (omega arith) (omega arith) patient

may : BothMayRepeat Call 0 ready
unfolding line_after line_answer line_takes_slot exchanged reading side_reading header_of control_of unnumbered_of supervisory_of tei_course tei_refusal seq distance_of named doing_all
may = (none-told, none-told)

settles : HasTold Call 0 (seen Call 0 is_ready begins uncalled) ready (rounds 4 (with_t200_expired Call 0 ready)) × IsAtRest Call 0 (rounds 4 (with_t200_expired Call 0 ready))
settles =
    (lossy-calls-settle Call user network 0 0 0 is_ready can full patient ready_free).settles 1
    (ready_still, heard-it (heard_in ready.near) (confirmed Call 0) ready_near, may) (subst (λ x. HasLeft Call 0 1 x ready) (sym ready_seen) ready_left)

-- and where UA is lost
full-lost : All (IsFullTalk Call 0) ua_lost
full-lost = all-of (IsFullTalk Call 0) ua_lost (tt, (tt, (tt, (tt, tt))))

may-lost : MayRepeat Call 0 (doing_all ua_lost begins).near
unfolding line_after line_answer line_takes_slot exchanged reading side_reading header_of control_of unnumbered_of supervisory_of tei_course tei_refusal seq distance_of named doing_all
may-lost = none-told

told-again : heard_in (rounds 1 (doing_all (near_expires Call 0) (doing_all ua_lost begins))).near ≡ confirmed Call 0 ∷ []
told-again =
    (lossy-calls-are-answered Call user network 0 0 0 ua_lost can full-lost (only-turns ua_lost refl begins) lost_still lost_near may-lost).1

free-lost : busy ua_lost begins none_busy ≡ none_busy
unfolding line_after line_answer line_takes_slot exchanged reading side_reading header_of control_of unnumbered_of supervisory_of tei_course tei_refusal seq distance_of named doing_all busy
free-lost = refl

comes : (n : ℕ) × (n ≤ most_moves 7 ua_lost begins) × IsStill (rounds n (doing_all ua_lost begins))
comes =
    let x = lossy-calls-come-to-rest Call user network 0 0 0 7 ua_lost can full-lost (omega arith) (omega arith) (only-turns ua_lost refl begins) free-lost in
    (x.0, x.1, x.2)
