-- Worked values: what is told as given up.
use Rattle.std.specs.Prelude.{◌≡◌, List, ◌∷◌, ◌++◌, [], Some, refl}
use Rattle.lapd_frame.specs.declared.services.Service.TheVariants.{Call, Packet}
use Rattle.lapd_frame.specs.declared.timers.Timer.TheVariants.{T201}
use Rattle.lapd_frame.specs.Reading.{reading, header_of, control_of, unnumbered_of, supervisory_of}
use Rattle.lapd_frame.specs.Senders.{exchanged, reading as read_by}
use Rattle.lapd_seq.specs.Circle.{named, distance_of}
use Rattle.lapd_seq.specs.Numbers.{seq}
use Rattle.model_teis.specs.network.Events as teis
use Rattle.model_line.specs.Event as line_event
use Rattle.model_line.specs.Event.{expiry, request}
use Rattle.model_line.specs.Machine as lines
use Rattle.model_line.specs.Request.{Check, Data, Release, Remove}
use Rattle.model_card.specs.Event.{Event, at}
use Rattle.model_card.specs.Run.{moments, after_all}
use Rattle.laws_line.specs.card.Worked.{usual, on_0, up}
use Rattle.laws_line.specs.Frames.{given_up_in}
use Rattle.laws_line.specs.Heard.{notes_of}
use Rattle.laws_trace.specs.GivenUpIsTold.{given_up, given_up_tei, first_of}
use Rattle.laws_trace.specs.Observer.{moment_of}
use Rattle.laws_trace.specs.WorkedUnits.{calls, frame_comes}

-- Two data, of which one goes: a release gives both up, and so does removing the TEI; behind RR 1 it is the other alone.
abbrev two : List Event
two = up ++ on_0 (Data Call 64 (7 ∷ [])) ∷ on_0 (Data Call 64 (8 ∷ [])) ∷ calls 2

by_release : given_up usual Call 64 0 two (request (Release Call 64)) ≡ 2
unfolding moments after_all lines.after lines.answer lines.takes_slot teis.course teis.refusal seq distance_of named exchanged read_by reading header_of control_of unnumbered_of supervisory_of
by_release = refl

release_tells : given_up_in Call (moment_of usual two 0 (request (Release Call 64))).answer ≡ 2
unfolding moments after_all lines.after lines.answer lines.takes_slot teis.course teis.refusal seq distance_of named exchanged read_by reading header_of control_of unnumbered_of supervisory_of
release_tells = refl

removal_tells : given_up_in Call (moment_of usual two 0 (request (Remove 64))).answer ≡ 2
unfolding moments after_all lines.after lines.answer lines.takes_slot teis.course teis.refusal seq distance_of named exchanged read_by reading header_of control_of unnumbered_of supervisory_of
removal_tells = refl

of_packet_none : given_up_in Packet (moment_of usual two 0 (request (Remove 64))).answer ≡ 0
unfolding moments after_all lines.after lines.answer lines.takes_slot teis.course teis.refusal seq distance_of named exchanged read_by reading header_of control_of unnumbered_of supervisory_of
of_packet_none = refl

behind_rr : given_up_in Call (moment_of usual (two ++ frame_comes (0x02 ∷ 0x81 ∷ 0x01 ∷ 0x02 ∷ []) ∷ []) 0 (request (Release Call 64))).answer ≡ 1
unfolding moments after_all lines.after lines.answer lines.takes_slot teis.course teis.refusal seq distance_of named exchanged read_by reading header_of control_of unnumbered_of supervisory_of
behind_rr = refl

-- TEI 64 is told with it, as the release and the removal name it.
named_by_release : given_up_tei (request (Release Call 64)) (moment_of usual two 0 (request (Release Call 64))).answer ≡ 64
unfolding moments after_all lines.after lines.answer lines.takes_slot teis.course teis.refusal seq distance_of named exchanged read_by reading header_of control_of unnumbered_of supervisory_of
named_by_release = refl

named_by_removal : given_up_tei (request (Remove 64)) (moment_of usual two 0 (request (Remove 64))).answer ≡ 64
unfolding moments after_all lines.after lines.answer lines.takes_slot teis.course teis.refusal seq distance_of named exchanged read_by reading header_of control_of unnumbered_of supervisory_of
named_by_removal = refl

-- Of data that goes to the queue nothing is given up.
none_by_data : given_up_tei (request (Data Call 64 (9 ∷ []))) (moment_of usual two 0 (request (Data Call 64 (9 ∷ [])))).answer ≡ 255
unfolding moments after_all lines.after lines.answer lines.takes_slot teis.course teis.refusal seq distance_of named exchanged read_by reading header_of control_of unnumbered_of supervisory_of
none_by_data = refl

-- The first note names TEI 64: error F, as SABME comes again; and that the TEI is removed, as no terminal answers a check.
first_by_sabme : first_of (notes_of (moment_of usual two 0 (frame_comes (0x00 ∷ 0x81 ∷ 0x7F ∷ [])).what).answer) ≡ Some 64
unfolding moments after_all lines.after lines.answer lines.takes_slot teis.course teis.refusal seq distance_of named exchanged read_by reading header_of control_of unnumbered_of supervisory_of
first_by_sabme = refl

abbrev t201 : line_event.Event
t201 = expiry T201

first_by_check : first_of (notes_of (moment_of usual (two ++ on_0 (Check 64) ∷ at 0 t201 ∷ []) 0 t201).answer) ≡ Some 64
unfolding moments after_all lines.after lines.answer lines.takes_slot teis.course teis.refusal seq distance_of named exchanged read_by reading header_of control_of unnumbered_of supervisory_of
first_by_check = refl
