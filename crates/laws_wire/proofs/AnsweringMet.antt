-- The premises of the law on a call with losses are met by the worked call.
use Rattle.laws_wire.proofs.Vocabulary.{◌≡◌, Bool, true, false, List, [], ◌∷◌, ◌++◌, refl, sym, subst, ◌∙◌, true≢false, All, Call, exchanged, reading, side_reading, header_of, control_of, unnumbered_of, supervisory_of, distance_of, named, seq, Data, SetBusy, ClearBusy, Wire, IsStill, requests, expires, sends, receives, loses, StepAt, at_near, at_far, doing, doing_all, turns, confirmed, indicated}
use Rattle.laws_wire.proofs.Vocabulary.{data_told, heard_in}
use Rattle.laws_wire.proofs.Vocabulary.{round, awaits_reply, MayRepeat, user, network, begins, line_answer, line_takes_slot, line_after, tei_refusal, tei_course, IsFullTalk, StayPatient, uncalled, error_f, seen, ToldSo}
use Rattle.lapd_frame.specs.declared.timers.Timer.TheVariants.{T200, T203}
use Rattle.laws_wire.specs.WorkedAnswering.{loses_ua, is_busy, repeated, repeated_seen, repeated_still, repeated_rests, asks_early, rings_again, kept, kept_seen, kept_still, kept_rests, grants_early, dropped, dropped_seen, dropped_still, dropped_rests}
use Rattle.laws_wire.proofs.PremisesMet.{can, all-of}
use Rattle.laws_wire.proofs.RecoveryMet.{none-told, still-open}
use Rattle.laws_wire.proofs.UaMoves.{both-patient}
use Rattle.laws_wire.proofs.UaTold.{lossy-calls-come-through}

full : All (IsFullTalk Call 0) (loses_ua ++ is_busy)
full =
    let near : IsFullTalk Call 0 (at_near (requests (Data Call 0 (1 ∷ [])))) = (refl, refl) in
    let far : IsFullTalk Call 0 (at_far (requests (Data Call 0 (2 ∷ [])))) = (refl, refl) in
    let busy : IsFullTalk Call 0 (at_far (requests (SetBusy Call 0))) = (refl, refl) in
    let ready : IsFullTalk Call 0 (at_far (requests (ClearBusy Call 0))) = (refl, refl) in
    let expiring : IsFullTalk Call 0 (at_near (expires (T200 Call 0))) = (refl, refl) in
    all-of (IsFullTalk Call 0) (loses_ua ++ is_busy) (tt, (tt, (tt, (tt, (expiring, (tt, (tt, (tt, (tt, (busy, (near, (tt, (tt, (tt, (tt, (far, (tt, (tt, (ready, (expiring, (tt, (tt, (tt, (tt, (tt, (tt, (tt, (tt, (tt, (tt, (tt, (tt, tt))))))))))))))))))))))))))))))))

full-early : All (IsFullTalk Call 0) (asks_early ++ rings_again)
full-early =
    let far : IsFullTalk Call 0 (at_far (requests (Data Call 0 (2 ∷ [])))) = (refl, refl) in
    let idle : IsFullTalk Call 0 (at_far (expires (T203 Call 0))) = (refl, refl) in
    let expiring : IsFullTalk Call 0 (at_near (expires (T200 Call 0))) = (refl, refl) in
    all-of (IsFullTalk Call 0) (asks_early ++ rings_again) (tt, (tt, (idle, (tt, (tt, (tt, (far, (tt, (expiring, (tt, (tt, (tt, (tt, (tt, (tt, (tt, (tt, (tt, (tt, (tt, (tt, tt)))))))))))))))))))))

-- Where no timer expires nothing is asked of it.
abbrev without_timers : List StepAt → Bool
without_timers [] = true
without_timers (at_near (expires timer) ∷ ds) = false
without_timers (at_far (expires timer) ∷ ds) = false
without_timers (d ∷ ds) = without_timers ds

pub only-turns : (ds : List StepAt) → without_timers ds ≡ true → (w : Wire) → StayPatient ds w
unfolding StayPatient
only-turns [] e w = tt
only-turns (at_near (requests r) ∷ ds) e w = (tt, only-turns ds e (doing (at_near (requests r)) w))
only-turns (at_near sends ∷ ds) e w = (tt, only-turns ds e (doing (at_near sends) w))
only-turns (at_near receives ∷ ds) e w = (tt, only-turns ds e (doing (at_near receives) w))
only-turns (at_near loses ∷ ds) e w = (tt, only-turns ds e (doing (at_near loses) w))
only-turns (at_far (requests r) ∷ ds) e w = (tt, only-turns ds e (doing (at_far (requests r)) w))
only-turns (at_far sends ∷ ds) e w = (tt, only-turns ds e (doing (at_far sends) w))
only-turns (at_far receives ∷ ds) e w = (tt, only-turns ds e (doing (at_far receives) w))
only-turns (at_far loses ∷ ds) e w = (tt, only-turns ds e (doing (at_far loses) w))
only-turns (at_near (expires timer) ∷ ds) e w = absurd (true≢false (sym e))
only-turns (at_far (expires timer) ∷ ds) e w = absurd (true≢false (sym e))

-- UA was lost
abbrev ua_goes : List StepAt
ua_goes = at_near sends ∷ at_far receives ∷ at_far sends ∷ at_far loses ∷ []

unfoldable pub ua-lost : Wire
ua-lost = doing_all ua_goes begins

pub lost-idle : IsStill ua-lost × MayRepeat Call 0 ua-lost.near
unfolding line_after line_answer line_takes_slot exchanged reading side_reading header_of control_of unnumbered_of supervisory_of tei_course tei_refusal seq distance_of named doing_all turns ua-lost
lost-idle = (record { near = refl; far = refl; near_way = refl; far_way = refl }, none-told)

pub patient-first : StayPatient loses_ua begins
unfolding doing_all StayPatient ua-lost
patient-first =
    both-patient ua_goes (at_near (expires (T200 Call 0)) ∷ round) begins (only-turns ua_goes refl begins)
    ((λ awaits. still-open ua-lost lost-idle.0, lost-idle.1), only-turns round refl (doing (at_near (expires (T200 Call 0))) ua-lost))

-- Behind that T200 expires in state 7.
then : Wire
then = doing_all loses_ua begins

abbrev drops_one : List StepAt
drops_one =
    at_far (requests (SetBusy Call 0)) ∷ at_near (requests (Data Call 0 (1 ∷ []))) ∷ at_near sends ∷ at_far receives ∷ at_far sends ∷ at_far loses
    ∷ at_far (requests (Data Call 0 (2 ∷ []))) ∷ at_far sends ∷ at_near receives ∷ at_far (requests (ClearBusy Call 0)) ∷ []

expiring : Wire
expiring = doing_all drops_one then

in-7 : (awaits_reply Call 0 expiring.near ≡ false) × MayRepeat Call 0 expiring.near
unfolding line_after line_answer line_takes_slot exchanged reading side_reading header_of control_of unnumbered_of supervisory_of tei_course tei_refusal seq distance_of named doing_all turns then expiring
in-7 = (refl, none-told)

patient-then : StayPatient is_busy then
unfolding doing_all StayPatient then expiring
patient-then =
    both-patient drops_one (at_near (expires (T200 Call 0)) ∷ (round ++ round ++ round)) then (only-turns drops_one refl then) (
      ((λ awaits. absurd (true≢false (sym awaits ∙ in-7.0))), in-7.1),
      only-turns (round ++ round ++ round) refl (doing (at_near (expires (T200 Call 0))) expiring),
    )

patient : StayPatient (loses_ua ++ is_busy) begins
unfolding then
patient = both-patient loses_ua is_busy begins patient-first patient-then

-- so the law says what the worked values show
so : ToldSo Call 0 (seen Call 0 (loses_ua ++ is_busy) begins uncalled) repeated
so = lossy-calls-come-through Call user network 0 0 0 (loses_ua ++ is_busy) can full patient

pub told : heard_in repeated.near ≡ confirmed Call 0 ∷ data_told Call 0 (2 ∷ []) ∷ []
unfolding line_after line_answer line_takes_slot exchanged reading side_reading header_of control_of unnumbered_of supervisory_of tei_course tei_refusal seq distance_of named doing_all turns
told = (subst (λ x. ToldSo Call 0 x repeated) repeated_seen so).near.1 (repeated_still, repeated_rests.0, repeated_rests.1)

-- where it was asked, and its timer expired, before
early : Wire
early = doing_all asks_early begins

early-idle : IsStill early × MayRepeat Call 0 early.near
unfolding line_after line_answer line_takes_slot exchanged reading side_reading header_of control_of unnumbered_of supervisory_of tei_course tei_refusal seq distance_of named doing_all turns early
early-idle = (record { near = refl; far = refl; near_way = refl; far_way = refl }, none-told)

patient-early : StayPatient (asks_early ++ rings_again) begins
unfolding early StayPatient doing_all
patient-early =
    both-patient asks_early rings_again begins (tt, (tt, (tt, (tt, (tt, (tt, (tt, (tt, tt))))))))
    ((λ awaits. still-open early early-idle.0, early-idle.1), only-turns (round ++ round ++ round) refl (doing (at_near (expires (T200 Call 0))) early))

so-early : ToldSo Call 0 (seen Call 0 (asks_early ++ rings_again) begins uncalled) kept
so-early = lossy-calls-come-through Call user network 0 0 0 (asks_early ++ rings_again) can full-early patient-early

pub told-early : heard_in kept.far ≡ indicated Call 0 ∷ error_f Call 0 ∷ []
unfolding line_after line_answer line_takes_slot exchanged reading side_reading header_of control_of unnumbered_of supervisory_of tei_course tei_refusal seq distance_of named doing_all turns
told-early = (subst (λ x. ToldSo Call 0 x kept) kept_seen so-early).far.1 (kept_still, kept_rests.0, kept_rests.1)

-- and where an I-frame went before, so that contents are given up
abbrev i_frame_goes : List StepAt
i_frame_goes =
    at_near sends ∷ at_far receives ∷ at_far (requests (Data Call 0 (2 ∷ []))) ∷ at_far sends ∷ at_far sends ∷ at_far loses ∷ at_near receives ∷ []

given-up : Wire
given-up = doing_all i_frame_goes begins

given-up-idle : IsStill given-up × MayRepeat Call 0 given-up.near
unfolding line_after line_answer line_takes_slot exchanged reading side_reading header_of control_of unnumbered_of supervisory_of tei_course tei_refusal seq distance_of named doing_all turns given-up
given-up-idle = (record { near = refl; far = refl; near_way = refl; far_way = refl }, none-told)

patient-dropped : StayPatient grants_early begins
unfolding given-up StayPatient doing_all
patient-dropped =
    both-patient i_frame_goes (at_near (expires (T200 Call 0)) ∷ round) begins (only-turns i_frame_goes refl begins)
    ((λ awaits. still-open given-up given-up-idle.0, given-up-idle.1), only-turns round refl (doing (at_near (expires (T200 Call 0))) given-up))

full-dropped : All (IsFullTalk Call 0) grants_early
full-dropped =
    let far : IsFullTalk Call 0 (at_far (requests (Data Call 0 (2 ∷ [])))) = (refl, refl) in
    let expiring : IsFullTalk Call 0 (at_near (expires (T200 Call 0))) = (refl, refl) in
    all-of (IsFullTalk Call 0) grants_early (tt, (tt, (far, (tt, (tt, (tt, (tt, (expiring, (tt, (tt, (tt, (tt, tt))))))))))))

so-dropped : ToldSo Call 0 (seen Call 0 grants_early begins uncalled) dropped
so-dropped = lossy-calls-come-through Call user network 0 0 0 grants_early can full-dropped patient-dropped

pub told-dropped : heard_in dropped.near ≡ confirmed Call 0 ∷ []
unfolding line_after line_answer line_takes_slot exchanged reading side_reading header_of control_of unnumbered_of supervisory_of tei_course tei_refusal seq distance_of named doing_all turns
told-dropped = (subst (λ x. ToldSo Call 0 x dropped) dropped_seen so-dropped).near.1 (dropped_still, dropped_rests.0, dropped_rests.1)
