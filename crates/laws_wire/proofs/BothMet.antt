-- The premises of the law are met by the worked call in which SABMEs cross: so each was told all, and the two face each other.
use Rattle.laws_wire.proofs.Vocabulary.{arith, refl, All, Call, exchanged, reading, side_reading, header_of, control_of, unnumbered_of, supervisory_of, distance_of, named, seq, doing_all, turns, IsStill, IsCall, both_call, ComesThrough, Face, user, network, begins, line_answer, line_takes_slot, line_after, tei_refusal, tei_course, both_send}
use Rattle.laws_wire.proofs.Delivering.{calls-face}
use Rattle.laws_wire.proofs.PremisesMet.{can, all-of}
use Rattle.laws_wire.proofs.Run.{calls-come-through}

pub called : All (IsCall Call 0) both_send
called = grind (arith, all-of)

pub still : IsStill (doing_all both_send begins)
unfolding line_after line_answer line_takes_slot exchanged reading side_reading header_of control_of unnumbered_of supervisory_of tei_course tei_refusal seq distance_of named doing_all turns
still = record { near = refl; far = refl; near_way = refl; far_way = refl }

pub comes : ComesThrough Call 0 (turns both_send begins) (both_call both_send begins) (doing_all both_send begins)
comes = calls-come-through Call user network 0 0 0 both_send can called

pub face : Face Call 0 (doing_all both_send begins)
face = calls-face Call user network 0 0 0 both_send can called still
