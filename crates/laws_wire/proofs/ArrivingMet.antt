-- The premises of the law on what arrives under traffic are met by the worked call.
use Rattle.laws_wire.proofs.Vocabulary.{◌≡◌, ℕ, List, [], ◌∷◌, ◌++◌, refl, sym, ◌∙◌, inl, true≢false, All, leb-true, Call, exchanged, reading, side_reading, header_of, control_of, unnumbered_of, supervisory_of, distance_of, named, seq, Data, Wire, requests, expires, sends, receives, loses, at_near, at_far, doing_all, turns, confirmed, indicated, all_told, heard_in, IsRoughTalk, round, StayTimely}
use Rattle.laws_wire.proofs.Vocabulary.{LosesNothing, GoesOn}
use Rattle.laws_wire.proofs.Vocabulary.{SendsOrReceives, HasCome, user, network, begins, MayRepeat, awaits_reply, false, ◌≤◌, ◌*◌, inr, arith, IsStill, granted_of, rounds, expiries, most_frames, most_left, line_answer, line_takes_slot, line_after, tei_refusal, tei_course}
use Rattle.lapd_frame.specs.declared.timers.Timer.TheVariants.{T200}
use Rattle.laws_wire.specs.WorkedArriving.{loses_two, goes_on, lossy, over, lossy_near, near_asked, over_still, waits, quiet, quiet_still, quiet_runs, asks, asked, asked_near, in_bulk, bulk_still}
use Rattle.laws_wire.proofs.PremisesMet.{can, all-of}
use Rattle.laws_wire.proofs.RecoveryMet.{none-told, heard-it}
use Rattle.laws_wire.proofs.UnderwayRounds.{arrives-in-rounds, arrives-in-turns}
use Rattle.laws_wire.proofs.UnderwayRun.{arrives-under-traffic}

data-near : (octets : List ℕ) → IsRoughTalk Call 0 (at_near (requests (Data Call 0 octets)))
data-near octets = (refl, refl)

data-far : (octets : List ℕ) → IsRoughTalk Call 0 (at_far (requests (Data Call 0 octets)))
data-far octets = (refl, refl)

expiring : IsRoughTalk Call 0 (at_near (expires (T200 Call 0)))
expiring = (refl, refl)

rough : All (IsRoughTalk Call 0) loses_two
rough = all-of (IsRoughTalk Call 0) loses_two (tt, (tt, (tt, (tt, (data-near (1 ∷ []), (tt, (tt, (data-far (2 ∷ []), (data-far (3 ∷ []), (tt, (tt, (tt, tt))))))))))))

rough-on : All (IsRoughTalk Call 0) goes_on
rough-on =
    all-of (IsRoughTalk Call 0) goes_on (
      tt,
      (
        expiring,
        (
          data-far (4 ∷ []),
          (tt, (tt, (tt, (tt, (tt, (tt, (tt, (tt, (tt, (tt, (tt, (tt, (tt, (tt, (tt, (tt, (tt, (tt, (tt, (tt, tt)))))))))))))))))))),
        ),
      ),
    )

kept : All LosesNothing goes_on
kept = all-of LosesNothing goes_on (tt, (tt, (tt, (tt, (tt, (tt, (tt, (tt, (tt, (tt, (tt, (tt, (tt, (tt, (tt, (tt, (tt, (tt, (tt, (tt, (tt, (tt, (tt, tt)))))))))))))))))))))))

-- the far end's I-frame is lost behind UA
as-it-is-lost : Wire
as-it-is-lost =
    doing_all (round ++ at_near (requests (Data Call 0 (1 ∷ []))) ∷ at_near sends ∷ at_near loses ∷ at_far (requests (Data Call 0 (2 ∷ []))) ∷ at_far (requests (Data Call 0 (3 ∷ []))) ∷ at_far sends ∷ []) begins

heard-then : heard_in as-it-is-lost.near ≡ confirmed Call 0 ∷ []
unfolding line_after line_answer line_takes_slot exchanged reading side_reading header_of control_of unnumbered_of supervisory_of tei_course tei_refusal seq distance_of named doing_all turns as-it-is-lost
heard-then = refl

timely : StayTimely loses_two begins
unfolding doing_all StayTimely as-it-is-lost
timely = (
  tt,
  ((tt, tt), ((tt, tt), (tt, (tt, (tt, (tt, ((tt, tt), ((tt, tt), ((tt, tt), ((tt, heard-it (heard_in as-it-is-lost.near) (confirmed Call 0) heard-then), ((tt, tt), tt))))))))))),
)

-- T200 expires in state 7
as-it-expires : Wire
as-it-expires = doing_all (at_near receives ∷ []) lossy

in-7 : (awaits_reply Call 0 as-it-expires.near ≡ false) × MayRepeat Call 0 as-it-expires.near
unfolding line_after line_answer line_takes_slot exchanged reading side_reading header_of control_of unnumbered_of supervisory_of tei_course tei_refusal seq distance_of named doing_all turns as-it-expires
in-7 = (refl, none-told)

timely-on : StayTimely goes_on lossy
unfolding doing_all StayTimely as-it-expires
timely-on = (
  tt,
  (
    (λ awaits. absurd (true≢false (sym awaits ∙ in-7.0)), in-7.1),
    (
      (tt, tt),
      (tt, ((tt, tt), ((tt, tt), (tt, (tt, ((tt, tt), ((tt, tt), (tt, (tt, ((tt, tt), ((tt, tt), (tt, (tt, ((tt, tt), ((tt, tt), (tt, (tt, ((tt, tt), ((tt, tt), (tt, tt)))))))))))))))))))),
    ),
  ),
)

-- so the law says what the worked values show
come : HasCome Call 0 goes_on lossy over
come =
    arrives-under-traffic Call user network 0 0 0 loses_two goes_on
    (can, leb-true 3 4 refl, leb-true 3 4 refl, rough, timely, (heard-it (heard_in lossy.near) (confirmed Call 0) lossy_near, rough-on, kept, timely-on)) over_still

pub told : heard_in over.far ≡ all_told Call 0 (indicated Call 0) over.near
told = come.near (inl near_asked)

-- Where no T200 expires, the law says that what the far end sent has come, as T200 does not run there.
rough-waits : All (IsRoughTalk Call 0) waits
rough-waits = all-of (IsRoughTalk Call 0) waits (tt, (tt, (tt, (tt, (tt, (tt, (tt, (tt, (tt, (tt, (tt, (tt, (tt, (tt, (tt, (tt, tt))))))))))))))))

kept-waits : All LosesNothing waits
kept-waits = all-of LosesNothing waits (tt, (tt, (tt, (tt, (tt, (tt, (tt, (tt, (tt, (tt, (tt, (tt, (tt, (tt, (tt, (tt, tt))))))))))))))))

timely-waits : StayTimely waits lossy
unfolding doing_all StayTimely
timely-waits =
    (tt, ((tt, tt), ((tt, tt), (tt, (tt, ((tt, tt), ((tt, tt), (tt, (tt, ((tt, tt), ((tt, tt), (tt, (tt, ((tt, tt), ((tt, tt), (tt, tt))))))))))))))))

come-waits : HasCome Call 0 waits lossy quiet
come-waits =
    arrives-under-traffic Call user network 0 0 0 loses_two waits
    (can, leb-true 3 4 refl, leb-true 3 4 refl, rough, timely, (heard-it (heard_in lossy.near) (confirmed Call 0) lossy_near, rough-waits, kept-waits, timely-waits)) quiet_still

pub told-back : heard_in quiet.near ≡ all_told Call 0 (confirmed Call 0) quiet.far
told-back = come-waits.far (inr quiet_runs.1)

-- As the last data is asked for, turns are left, and the law says that rounds lead to where none is.
rough-asks : All (IsRoughTalk Call 0) asks
rough-asks = all-of (IsRoughTalk Call 0) asks (tt, (expiring, (data-far (4 ∷ []), tt)))

timely-asks : StayTimely asks lossy
unfolding doing_all StayTimely
timely-asks = (tt, (timely-on.1.0, ((tt, tt), tt)))

asks-on : GoesOn Call 0 asks lossy
asks-on = (heard-it (heard_in lossy.near) (confirmed Call 0) lossy_near, rough-asks, all-of LosesNothing asks (tt, (tt, (tt, tt))), timely-asks)

by-rounds : (n : ℕ) × (n ≤ most_left Call 0 7 asked) × (n ≤ 2 * most_frames 7 (expiries (loses_two ++ asks)) (granted_of asked))
    × IsStill (rounds n asked) × HasCome Call 0 asks lossy (rounds n asked)
by-rounds =
    arrives-in-rounds Call user network 0 0 0 7 loses_two asks (can, leb-true 3 4 refl, leb-true 3 4 refl, rough, timely, asks-on) (omega arith) (omega arith)

-- And of turns in another order that there are so few, and all has come where none is left.
all-turns : All SendsOrReceives in_bulk
all-turns = all-of SendsOrReceives in_bulk (tt, (tt, (tt, (tt, (tt, (tt, (tt, (tt, (tt, (tt, (tt, (tt, (tt, (tt, (tt, (tt, (tt, (tt, (tt, (tt, (tt, (tt, (tt, (tt, (tt, (tt, (tt, (tt, (tt, (tt, (tt, (tt, (tt, (tt, (tt, (tt, (tt, (tt, (tt, (tt, (tt, (tt, (tt, (tt, (tt, (tt, (tt, (tt, tt))))))))))))))))))))))))))))))))))))))))))))))))

by-turns : (turns in_bulk asked ≤ most_left Call 0 7 asked) × (turns in_bulk asked ≤ 2 * most_frames 7 (expiries (loses_two ++ asks)) (granted_of asked))
    × (IsStill (doing_all in_bulk asked) → HasCome Call 0 asks lossy (doing_all in_bulk asked))
by-turns =
    arrives-in-turns Call user network 0 0 0 7 loses_two asks in_bulk (can, leb-true 3 4 refl, leb-true 3 4 refl, rough, timely, asks-on) (omega arith) (omega arith) all-turns

pub bulk-told : heard_in (doing_all in_bulk asked).far ≡ all_told Call 0 (indicated Call 0) (doing_all in_bulk asked).near
bulk-told = (by-turns.2 bulk_still).near (inl asked_near)
