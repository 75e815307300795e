-- Worked values: data that is granted takes a place, until it is acknowledged, or layer 3 learns that it is lost.
use Rattle.std.specs.Prelude.{◌≡◌, true, false, List, [], ◌∷◌, ◌++◌, length, Ok, refl}
use Rattle.lapd_frame.specs.declared.notes.ErrorCode.TheVariants.{F}
use Rattle.lapd_frame.specs.declared.notes.Note.TheVariants.{Error, ReleaseIndication}
use Rattle.lapd_frame.specs.declared.services.Service.TheVariants.{Call, Packet}
use Rattle.lapd_frame.specs.Reading.{reading, header_of, control_of, unnumbered_of, supervisory_of}
use Rattle.lapd_frame.specs.Senders.{exchanged, reading as read_by}
use Rattle.lapd_seq.specs.Circle.{named, distance_of}
use Rattle.lapd_seq.specs.Numbers.{seq}
use Rattle.model_teis.specs.network.Events as teis
use Rattle.model_line.specs.Event.{request, next, told, nothing}
use Rattle.model_line.specs.Machine as lines
use Rattle.model_line.specs.Request.{Data}
use Rattle.model_card.specs.Card.{fresh}
use Rattle.model_card.specs.Room.{room}
use Rattle.model_card.specs.Event.{Event}
use Rattle.model_card.specs.Run.{moments, after_all}
use Rattle.laws_line.specs.card.Worked.{usual, on_0, up}
use Rattle.laws_trace.specs.Outgoing.{data_granted, loses, went_on}
use Rattle.laws_trace.specs.WorkedObserver.{link_after, two_gone}
use Rattle.laws_trace.specs.WorkedUnits.{frame_comes}

-- SABME of TEI 64, and data: one place of eight is taken;
one_taken : room 0 Call 64 (after_all (fresh usual) (up ++ on_0 (Data Call 64 (7 ∷ [])) ∷ [])) ≡ Ok (record { queue = 7; pool = 63; va = 0 })
unfolding after_all lines.after lines.takes_slot teis.course teis.refusal seq distance_of named exchanged read_by reading header_of control_of unnumbered_of supervisory_of
one_taken = refl

-- it was granted for its link, and for no other.
for_its_link : length (data_granted Call 64 (request (Data Call 64 (7 ∷ []))) (told nothing)) ≡ 1
for_its_link = refl

for_no_other : data_granted Packet 64 (request (Data Call 64 (7 ∷ []))) (told nothing) ≡ []
for_no_other = refl

-- SABME again leaves it, as nothing is outstanding; error F says nothing of a loss, as a release indication does.
still_taken : room 0 Call 64 (after_all (fresh usual) (up ++ on_0 (Data Call 64 (7 ∷ [])) ∷ up)) ≡ Ok (record { queue = 7; pool = 63; va = 0 })
unfolding after_all lines.after lines.takes_slot teis.course teis.refusal seq distance_of named exchanged read_by reading header_of control_of unnumbered_of supervisory_of
still_taken = refl

no_loss : loses Call 64 next (told (record nothing { notes = Error Call 64 F ∷ [] })) ≡ false
no_loss = refl

a_loss : loses Call 64 next (told (record nothing { notes = ReleaseIndication Call 64 ∷ [] })) ≡ true
a_loss = refl

-- RR 1 behind two I-frames acknowledges one, to the observer; SABME acknowledges none, though V(A) is 0 behind it.
abbrev one_heard : List Event
one_heard = two_gone ++ frame_comes (0x02 ∷ 0x81 ∷ 0x01 ∷ 0x02 ∷ []) ∷ []

one_more : went_on false (link_after two_gone) (link_after one_heard) ≡ 1
unfolding moments lines.after lines.answer lines.takes_slot teis.course teis.refusal seq distance_of named exchanged read_by reading header_of control_of unnumbered_of supervisory_of
one_more = refl

none_more : went_on true (link_after one_heard) (link_after (one_heard ++ frame_comes (0x00 ∷ 0x81 ∷ 0x7F ∷ []) ∷ [])) ≡ 0
unfolding moments lines.after lines.answer lines.takes_slot teis.course teis.refusal seq distance_of named exchanged read_by reading header_of control_of unnumbered_of supervisory_of
none_more = refl
