-- The premises of the laws on how turns come to an end are met, by worked calls.
use Rattle.laws_wire.proofs.Vocabulary.{◌≡◌, ◌≤◌, ℕ, ◌*◌, List, [], ◌∷◌, ◌++◌, refl, sym, subst, arith, All, All-nil, All-cons, Call, exchanged, reading, side_reading, header_of, control_of, unnumbered_of, supervisory_of, distance_of, named, seq, Data, requests, StepAt, at_near, doing_all, IsStill, confirmed, indicated, data_told, granted_of, HasNoError, IsRoughTalk, rounds, moves, expiries}
use Rattle.laws_wire.proofs.Vocabulary.{most_frames, StayTimely, user}
use Rattle.laws_wire.proofs.Vocabulary.{network, begins, establishes, line_answer, line_takes_slot, line_after, tei_refusal, tei_course, rejects_one, two_accepted}
use Rattle.laws_wire.proofs.PremisesMet.{can, IsFair, all-of}
use Rattle.laws_wire.proofs.RestedRun.{moves-come-to-an-end}
use Rattle.laws_wire.proofs.RestedTimely.{timely-rounds-come-to-rest}

-- An I-frame is lost, and both go again.
near-told : (doing_all rejects_one begins).near.told ≡ confirmed Call 0 ∷ []
unfolding line_after line_answer line_takes_slot exchanged reading side_reading header_of control_of unnumbered_of supervisory_of tei_course tei_refusal seq distance_of named doing_all
near-told = refl

far-told : (doing_all rejects_one begins).far.told ≡ indicated Call 0 ∷ data_told Call 0 (0xAB ∷ []) ∷ data_told Call 0 (0xCD ∷ []) ∷ []
unfolding line_after line_answer line_takes_slot exchanged reading side_reading header_of control_of unnumbered_of supervisory_of tei_course tei_refusal seq distance_of named doing_all
far-told = refl

near-fair : HasNoError (doing_all rejects_one begins).near
near-fair = subst (All IsFair) (sym near-told) (All-cons IsFair (confirmed Call 0) [] refl (All-nil IsFair))

far-fair : HasNoError (doing_all rejects_one begins).far
far-fair = grind (arith, IsFair, far-told)

bounded : moves rejects_one begins ≤ 2 * most_frames 7 (expiries rejects_one) (granted_of (doing_all rejects_one begins))
bounded =
    moves-come-to-an-end Call user network 0 0 0 7 rejects_one can
    (all-of (IsRoughTalk Call 0) rejects_one (tt, (tt, (tt, (tt, ((refl, refl), ((refl, refl), (tt, (tt, (tt, (tt, (tt, (tt, (tt, (tt, (tt, (tt, (tt, (tt, tt)))))))))))))))))))
    (omega arith) (omega arith) near-fair far-fair

-- Two contents are accepted, and no frame has gone.
abbrev accepts_two : List StepAt
accepts_two = establishes ++ at_near (requests (Data Call 0 (1 ∷ []))) ∷ at_near (requests (Data Call 0 (2 ∷ []))) ∷ []

timely : StayTimely accepts_two begins
unfolding StayTimely
timely = (tt, ((tt, tt), ((tt, tt), (tt, (tt, (tt, tt))))))

rest-comes : (n : ℕ) × (n ≤ 2 * most_frames 7 (expiries accepts_two) (granted_of two_accepted)) × IsStill (rounds n two_accepted)
rest-comes =
    timely-rounds-come-to-rest Call user network 0 0 0 7 accepts_two can (all-of (IsRoughTalk Call 0) accepts_two (tt, (tt, (tt, (tt, ((refl, refl), ((refl, refl), tt))))))) (omega arith) (omega arith) timely
