-- Worked values: events of one part of a line, which leave all else as it was.
use Rattle.std.specs.Prelude.{◌≡◌, [], ◌∷◌, Some, refl}
use Rattle.laws_line.specs.WorkedWords.{ap, arith, Fcs, ReleaseIndication, Call, Packet, exchanged, read_by, reading, header_of, control_of, unnumbered_of, distance_of, named, seq, Left, received, link_frame as frame, link_fresh as fresh, LineTold, request, told, dropped, nothing, link_at, link_in, with_link, terms, after, Unit, Remove, noted_behind, SaysNothing}
use Rattle.model_teis.specs.network.Events as teis
use Rattle.model_link.specs.Machine as links
use Rattle.laws_line.specs.Worked.{usual, both_up}
use Rattle.laws_line.specs.WorkedHeard.{i_frame, information}

-- An I-frame of call control's link of TEI 64 is an event of this link, and changes nothing else.
i_frame_alone : after usual i_frame both_up
    ≡ with_link 0 (links.after (terms usual Call 64) (received (frame information)) (link_in both_up Call 0)) both_up
unfolding after seq distance_of named exchanged read_by reading header_of control_of unnumbered_of teis.course teis.refusal
i_frame_alone = refl

-- Unit data waits, and nothing else changes.
unit_alone : after usual (request (Unit Packet 127 (0xAB ∷ []))) both_up
    ≡ record both_up { units = record { service = Packet; tei = 127; contents = 0xAB ∷ [] } ∷ [] }
unfolding after exchanged read_by reading header_of control_of unnumbered_of teis.course teis.refusal
unit_alone = refl

-- A TEI that leaves takes its two links along: they are as ones that begin, and tell that they are released.
both_anew : link_at 0 (after usual (request (Remove 64)) both_up) ∷ link_at 1 (after usual (request (Remove 64)) both_up) ∷ [] ≡ fresh ∷ fresh ∷ []
unfolding after exchanged read_by reading header_of control_of unnumbered_of teis.course teis.refusal
both_anew = refl

both_told : noted_behind usual both_up (Some (Left 64 0)) ≡ ReleaseIndication Call 64 ∷ ReleaseIndication Packet 64 ∷ []
unfolding exchanged read_by reading header_of control_of unnumbered_of teis.course teis.refusal
both_told = refl

-- An answer says nothing that has why a stretch is no frame; one that counts a frame as lost says more.
says_why : SaysNothing (told (dropped Fcs))
says_why = refl

says_more : SaysNothing (told (record nothing { lost = 1 })) → ⊥
says_more e = let one : 1 ≡ 0 = ap (λ (t : LineTold). t.lost) e in omega (arith, one)
