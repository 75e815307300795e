-- Worked values: timers that are due at one moment, and how this comes to an end. Each computes.
use Rattle.std.specs.Prelude.{◌≡◌, List, [], ◌∷◌, length, replicate, refl}
use Rattle.std.proofs.Common.{arith}
use Rattle.lapd_clock.specs.Timer.{Lengths, T200, T203, T201, T202}
use Rattle.lapd_frame.specs.Reading.{reading, header_of, control_of, unnumbered_of, supervisory_of}
use Rattle.lapd_frame.specs.Senders.{exchanged, reading as read_by}
use Rattle.lapd_frame.specs.declared.services.Service.TheVariants.{Call}
use Rattle.lapd_seq.specs.Circle.{distance_of, named}
use Rattle.lapd_seq.specs.Numbers.{seq}
use Rattle.model_teis.specs.network.Events as teis
use Rattle.model_line.specs.Machine as lines
use Rattle.model_line.specs.Request.{Assign, Check}
use Rattle.model_card.specs.Event.{Event}
use Rattle.model_card.specs.ports.Card as ports
use Rattle.model_card.specs.ports.Event as octet
use Rattle.model_card.specs.ports.Port.{request}
use Rattle.model_timed.specs.Frames.{TimedCard, fresh, frames}
use Rattle.model_timed.specs.Octets as of_octets
use Rattle.model_timed.specs.Octets.{TimedOctetCard, octets}
use Rattle.model_timed.specs.Timed.{Step, happens, time, falls_due, after, after_all, events_of}
use Rattle.laws_line.specs.card.Worked.{usual, frame_comes, on_0}
use Rattle.laws_time.specs.FallingDue.{count_due, EachRuns}
use Rattle.laws_time.specs.WorkedSilence.{lengths}

runs : EachRuns lengths
runs (T200 service tei) = omega arith
runs (T203 service tei) = omega arith
runs T201 = omega arith
runs T202 = omega arith

-- The links of TEI 64 and 65 come up at 0. At 50 both T203 are due, and at 50 each link enquires: T200 of both runs, up to 60.
abbrev up : List (Step Event)
up =
    happens (on_0 (Assign 64)) ∷ happens (frame_comes (0x00 ∷ 0x81 ∷ 0x7F ∷ [])) ∷ happens (on_0 (Assign 65)) ∷ happens (frame_comes (0x00 ∷ 0x83 ∷ 0x7F ∷ []))
    ∷ time 50 ∷ []

abbrev begun : TimedCard
begun = after_all frames up (fresh usual lengths)

two_due : count_due begun.clock ≡ 2
unfolding lines.after lines.answer lines.takes_slot exchanged read_by reading header_of control_of unnumbered_of supervisory_of teis.course teis.refusal seq distance_of named after_all
two_due = refl

one_due : count_due (after frames falls_due begun).clock ≡ 1
unfolding lines.after lines.answer lines.takes_slot exchanged read_by reading header_of control_of unnumbered_of supervisory_of teis.course teis.refusal seq distance_of named after_all
one_due = refl

-- A caller that lets timers fall due five times has two expiries.
two_expire : length (events_of frames (replicate 5 falls_due) begun) ≡ 2
unfolding lines.after lines.answer lines.takes_slot exchanged read_by reading header_of control_of unnumbered_of supervisory_of teis.course teis.refusal seq distance_of named after_all events_of
two_expire = refl

run_to_60 : (after_all frames (replicate 2 falls_due) begun).clock.running
    ≡ record { moment = 60; line = 0; timer = T200 Call 64 } ∷ record { moment = 60; line = 0; timer = T200 Call 65 } ∷ []
unfolding lines.after lines.answer lines.takes_slot exchanged read_by reading header_of control_of unnumbered_of supervisory_of teis.course teis.refusal seq distance_of named after_all
run_to_60 = refl

-- If T200 ran for no time, the expiry of T203 would leave as many timers due as there were.
abbrev at_once : Lengths
at_once = record lengths { t200 = 0 }

runs_not : EachRuns at_once → ⊥
runs_not runs = omega (arith, runs (T200 Call 64))

abbrev begun_at_once : TimedCard
begun_at_once = after_all frames up (fresh usual at_once)

none_fewer : count_due (after frames falls_due begun_at_once).clock ≡ count_due begun_at_once.clock
unfolding lines.after lines.answer lines.takes_slot exchanged read_by reading header_of control_of unnumbered_of supervisory_of teis.course teis.refusal seq distance_of named after_all
none_fewer = refl

-- A card of octets checks a TEI at 0: T201 is due at 10, and then runs anew, up to 20.
abbrev checks : TimedOctetCard
checks = after_all octets (happens (octet.at 0 (request (Assign 64))) ∷ happens (octet.at 0 (request (Check 64))) ∷ time 10 ∷ []) (of_octets.fresh usual lengths)

check_due : count_due checks.clock ≡ 1
unfolding lines.after lines.answer lines.takes_slot teis.course teis.refusal ports.after ports.answer ports.meant after_all
check_due = refl

none_due : count_due (after octets falls_due checks).clock ≡ 0
unfolding lines.after lines.answer lines.takes_slot teis.course teis.refusal ports.after ports.answer ports.meant after_all
none_due = refl

runs_anew : (after octets falls_due checks).clock.running ≡ record { moment = 20; line = 0; timer = T201 } ∷ []
unfolding lines.after lines.answer lines.takes_slot teis.course teis.refusal ports.after ports.answer ports.meant after_all
runs_anew = refl
