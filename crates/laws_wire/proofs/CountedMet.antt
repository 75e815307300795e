-- The premises of the law on counted expiries are met, by the worked calls that recover from their losses.
use Rattle.laws_wire.proofs.Vocabulary.{◌≡◌, refl, arith, All, Call, exchanged, reading, side_reading, header_of, control_of, unnumbered_of, supervisory_of, distance_of, named, seq, sends, loses, at_near, doing, doing_all, turns, confirmed, heard_in, StayTimely, IsFullTalk, StayPatient, Counts, counting, uncounted, IsBelow, StayCounted, StaySpared, user, network, begins, loses_three, lost, ℕ, ◌+◌}
use Rattle.laws_wire.proofs.Vocabulary.{◌<◌}
use Rattle.model_line.specs.Line.{tries}
use Rattle.laws_wire.proofs.Vocabulary.{line_answer}
use Rattle.laws_wire.proofs.Vocabulary.{line_takes_slot, line_after, tei_refusal, tei_course, ua_is_lost}
unfoldable use Rattle.laws_wire.proofs.AnsweringMet.{ua-lost}
use Rattle.laws_wire.proofs.AnsweringMet.{lost-idle}
use Rattle.laws_wire.proofs.Counting.{expiries-are-counted, lossy-expiries-are-counted}
use Rattle.laws_wire.proofs.PremisesMet.{can, all-of}
use Rattle.laws_wire.proofs.RecoveryMet.{still-open, silent, silent-open, heard-it, lost-near, rough}

-- SABME was lost
abbrev so_far : Counts
so_far = counting Call 0 (at_near loses) (doing (at_near sends) begins) (counting Call 0 (at_near sends) begins uncounted)

none-expired : so_far.near ≡ 0
unfolding line_after line_answer line_takes_slot exchanged reading side_reading header_of control_of unnumbered_of supervisory_of tei_course tei_refusal seq distance_of named doing_all turns
none-expired = refl

four-tries : tries silent.near.card.config ≡ 4
unfolding doing_all
four-tries = refl

fewer : (k n : ℕ) → k ≡ 0 → n ≡ 4 → k + 1 < n
fewer k n e e' = omega (arith, e, e')

few : IsBelow Call 0 silent.near so_far.near
few awaits = fewer so_far.near (tries silent.near.card.config) none-expired four-tries

counted : StayCounted Call 0 loses_three uncounted begins
unfolding doing_all StayCounted
counted = (tt, (tt, ((λ awaits. silent-open, few), (tt, (tt, (tt, (tt, (tt, (tt, (tt, (tt, (tt, (tt, tt)))))))))))))

spared : StaySpared loses_three begins
unfolding doing_all StaySpared
spared = (tt, (tt, (tt, (tt, (tt, (tt, (tt, (tt, (tt, (tt, (tt, (tt, (heard-it (heard_in lost.near) (confirmed Call 0) lost-near, tt)))))))))))))

-- so the law says of it that T200 is timely
pub timely : StayTimely loses_three begins
timely = expiries-are-counted Call user network 0 0 0 loses_three can rough counted spared

-- where UA was lost
ua_so_far : Counts
ua_so_far = counting Call 0 (at_near sends) begins uncounted

ua-none-expired : ua_so_far.near ≡ 0
unfolding line_after line_answer line_takes_slot exchanged reading side_reading header_of control_of unnumbered_of supervisory_of tei_course tei_refusal seq distance_of named doing_all turns ua_so_far
ua-none-expired = refl

ua-four-tries : tries ua-lost.near.card.config ≡ 4
unfolding doing_all ua-lost
ua-four-tries = refl

ua-few : IsBelow Call 0 ua-lost.near ua_so_far.near
ua-few awaits = fewer ua_so_far.near (tries ua-lost.near.card.config) ua-none-expired ua-four-tries

ua-counted : StayCounted Call 0 ua_is_lost uncounted begins
unfolding doing_all StayCounted ua-lost ua_so_far
ua-counted = (tt, (tt, (tt, (tt, ((λ awaits. still-open ua-lost lost-idle.0, ua-few), tt)))))

ua-full : All (IsFullTalk Call 0) ua_is_lost
ua-full = all-of (IsFullTalk Call 0) ua_is_lost (tt, (tt, (tt, (tt, ((refl, refl), tt)))))

pub patient : StayPatient ua_is_lost begins
patient = lossy-expiries-are-counted Call user network 0 0 0 ua_is_lost can ua-full ua-counted
