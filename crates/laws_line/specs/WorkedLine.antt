-- Worked values of a line: each computes.
use Rattle.std.specs.Prelude.{◌≡◌, ℕ, zero, suc, false, List, [], ◌∷◌, ◌++◌, replicate, Some, None, refl}
use Rattle.laws_line.specs.WorkedWords.{Sapi, Tei, BadTei, NoLink, WrongState, TeiTaken, CheckRunning, ControlFull, Call, Packet, Start, Stop, T203, exchanged, read_by, reading, header_of, control_of, unnumbered_of, nothing, dropped, Data, Unit, Assign, Remove, Check, Disown, IdentityRemove, Line, state_of, Effect, of_aim, aim_of_heard, refusal, of_request, taken}
use Rattle.model_bits.specs.Stream as stream
use Rattle.lapd_frame.specs.declared.notes.Note.TheVariants as notes
use Rattle.lapd_frame.specs.declared.notes.ErrorCode.TheVariants as code
use Rattle.model_teis.specs.network.Events as teis
use Rattle.laws_line.specs.Worked.{usual, heard}
use Rattle.laws_line.specs.WorkedServed.{asked, with_64}

-- a frame of a terminal is heard
abbrev hearing : List ℕ → Line → Effect
hearing octets l = of_aim usual (aim_of_heard usual l (stream.frame octets)) l

-- the next frames that are taken
unfoldable frames_taken : ℕ → Line → List (List ℕ)
frames_taken zero l = []
frames_taken (suc n) l = elim (taken usual l) [ None ↦ [] | Some t ↦ t.frame ∷ frames_taken n t.line ]

abbrev with_64_and_65 : Line
with_64_and_65 = asked (Assign 65) with_64

abbrev sabme_of_64 : List ℕ
sabme_of_64 = 0x00 ∷ 0x81 ∷ 0x7F ∷ []

abbrev sabme_of_65 : List ℕ
sabme_of_65 = 0x00 ∷ 0x83 ∷ 0x7F ∷ []

-- SABME is answered by UA; the link is established, and T203 runs
establishment :
    (hearing sabme_of_64 with_64).told
    ≡ record nothing { notes = notes.EstablishIndication Call 64 ∷ []; orders = Start (T203 Call 64) ∷ [] }
unfolding exchanged read_by reading header_of control_of unnumbered_of teis.course teis.refusal
establishment = refl

state_after_establishment : state_of Call 64 (heard sabme_of_64 with_64) ≡ Some 7
unfolding exchanged read_by reading header_of control_of unnumbered_of teis.course teis.refusal
state_after_establishment = refl

-- links are served in turn, and not one to its end
served_in_turn :
    frames_taken 4 (heard sabme_of_65 (heard sabme_of_64 (heard sabme_of_64 with_64_and_65)))
    ≡ (0x00 ∷ 0x81 ∷ 0x73 ∷ []) ∷ (0x00 ∷ 0x83 ∷ 0x73 ∷ []) ∷ (0x00 ∷ 0x81 ∷ 0x73 ∷ []) ∷ []
unfolding exchanged read_by reading header_of control_of unnumbered_of teis.course teis.refusal frames_taken
served_in_turn = refl

-- a management message goes before unit data, and both before the links
management_first :
    frames_taken 6 (asked (Check 65) (asked (Unit Call 127 (0xAB ∷ []))
    (heard sabme_of_65 (heard sabme_of_64 (heard sabme_of_64 with_64_and_65)))))
    ≡ (0xFE ∷ 0xFF ∷ 0x03 ∷ 0x0F ∷ 0x00 ∷ 0x00 ∷ 0x04 ∷ 0x83 ∷ []) ∷ (0x02 ∷ 0xFF ∷ 0x03 ∷ 0xAB ∷ [])
    ∷ (0x00 ∷ 0x81 ∷ 0x73 ∷ []) ∷ (0x00 ∷ 0x83 ∷ 0x73 ∷ []) ∷ (0x00 ∷ 0x81 ∷ 0x73 ∷ []) ∷ []
unfolding exchanged read_by reading header_of control_of unnumbered_of teis.course teis.refusal frames_taken
management_first = refl

-- frames for a TEI that is not on the line, and for the management of another than the group
unknown_tei : (hearing (0x00 ∷ 0xFF ∷ 0x03 ∷ 0xAB ∷ []) with_64).told ≡ dropped Tei
unfolding exchanged read_by reading header_of control_of unnumbered_of teis.course teis.refusal
unknown_tei = refl

not_the_group : (hearing (0xFC ∷ 0x81 ∷ 0x03 ∷ 0xAB ∷ []) with_64).told ≡ dropped Tei
unfolding exchanged read_by reading header_of control_of unnumbered_of teis.course teis.refusal
not_the_group = refl

-- a SAPI that is not served, before its TEI
unknown_sapi : (hearing (0x04 ∷ 0xFF ∷ 0x7F ∷ []) with_64).told ≡ dropped Sapi
unfolding exchanged read_by reading header_of control_of unnumbered_of teis.course teis.refusal
unknown_sapi = refl

-- a packet link is a link of its own
packet_link :
    (hearing (0x40 ∷ 0x81 ∷ 0x7F ∷ []) (heard sabme_of_64 with_64)).told
    ≡ record nothing { notes = notes.EstablishIndication Packet 64 ∷ []; orders = Start (T203 Packet 64) ∷ [] }
unfolding exchanged read_by reading header_of control_of unnumbered_of teis.course teis.refusal
packet_link = refl

abbrev both_up : Line
both_up = heard (0x40 ∷ 0x81 ∷ 0x7F ∷ []) (heard sabme_of_64 with_64)

packet_frames : frames_taken 3 both_up ≡ (0x00 ∷ 0x81 ∷ 0x73 ∷ []) ∷ (0x40 ∷ 0x81 ∷ 0x73 ∷ []) ∷ []
unfolding exchanged read_by reading header_of control_of unnumbered_of teis.course teis.refusal frames_taken
packet_frames = refl

-- a TEI that leaves the line clears its call control link, then its packet link
removal :
    (of_request usual (Remove 64) both_up).told
    ≡ record nothing {
      notes = notes.ReleaseIndication Call 64 ∷ notes.ReleaseIndication Packet 64 ∷ [];
      orders = Stop (T203 Call 64) ∷ Stop (T203 Packet 64) ∷ [];
    }
unfolding exchanged read_by reading header_of control_of unnumbered_of teis.course teis.refusal
removal = refl

-- unit data stays where its TEI leaves the line
unit_of_removed_tei :
    frames_taken 3 (asked (Remove 64) (asked (Unit Call 64 (0xAB ∷ [])) with_64))
    ≡ (0xFE ∷ 0xFF ∷ 0x03 ∷ 0x0F ∷ 0x00 ∷ 0x00 ∷ 0x06 ∷ 0x81 ∷ []) ∷ (0x02 ∷ 0x81 ∷ 0x03 ∷ 0xAB ∷ []) ∷ []
unfolding exchanged teis.course teis.refusal frames_taken
unit_of_removed_tei = refl

packet_unit : frames_taken 2 (asked (Unit Packet 127 (0xAB ∷ [])) with_64) ≡ (0x42 ∷ 0xFF ∷ 0x03 ∷ 0xAB ∷ []) ∷ []
unfolding exchanged teis.course teis.refusal frames_taken
packet_unit = refl

-- control frames that find no place are lost
lost_frame :
    (hearing (0x00 ∷ 0x81 ∷ 0x6F ∷ []) (heard (0x00 ∷ 0x81 ∷ 0x6F ∷ []) (heard (0x00 ∷ 0x81 ∷ 0x6F ∷ [])
    (heard (0x00 ∷ 0x81 ∷ 0x6F ∷ []) (heard sabme_of_64 with_64))))).told
    ≡ record nothing { notes = notes.Error Call 64 code.F ∷ []; orders = Start (T203 Call 64) ∷ []; lost = 1 }
unfolding exchanged read_by reading header_of control_of unnumbered_of teis.course teis.refusal
lost_frame = refl

-- Refusals: the first that holds.
refused_in_state_4 : refusal usual false (Data Call 64 (replicate 261 0)) with_64 ≡ Some WrongState
unfolding teis.course teis.refusal
refused_in_state_4 = refl

refused_for_the_group : refusal usual false (Data Call 127 []) with_64 ≡ Some BadTei
unfolding teis.course teis.refusal
refused_for_the_group = refl

refused_without_link : refusal usual false (Data Call 65 []) with_64 ≡ Some NoLink
unfolding teis.course teis.refusal
refused_without_link = refl

refused_check : refusal usual false (Check 64) (asked (Check 64) with_64) ≡ Some CheckRunning
unfolding teis.course teis.refusal
refused_check = refl

refused_removal :
    refusal usual false (Remove 68) (asked (Remove 67) (asked (Remove 66) (asked (Remove 65) (asked (Remove 64)
    (asked (Assign 68) (asked (Assign 67) (asked (Assign 66) with_64_and_65)))))))
    ≡ Some ControlFull
unfolding teis.course teis.refusal
refused_removal = refl

refused_disowning :
    refusal usual false (Disown 64) with_64 ∷ refusal usual false (Disown 127) with_64 ∷ refusal usual false (Disown 128) with_64
    ∷ refusal usual false (Disown 69) (asked (Disown 68) (asked (Disown 67) (asked (Disown 66) (asked (Disown 65) with_64)))) ∷ []
    ≡ Some TeiTaken ∷ Some TeiTaken ∷ Some BadTei ∷ Some ControlFull ∷ []
unfolding teis.course teis.refusal
refused_disowning = refl

-- Where it is granted, the message goes out in its turn, and all else of the line is as it was.
disowned :
    frames_taken 3 (asked (Disown 65) (asked (Disown 66) with_64))
    ≡ (0xFE ∷ 0xFF ∷ 0x03 ∷ 0x0F ∷ 0x00 ∷ 0x00 ∷ 0x06 ∷ 0x85 ∷ []) ∷ (0xFE ∷ 0xFF ∷ 0x03 ∷ 0x0F ∷ 0x00 ∷ 0x00 ∷ 0x06 ∷ 0x83 ∷ []) ∷ []
unfolding teis.course teis.refusal frames_taken
disowned = refl

unchanged : asked (Disown 65) with_64 ≡ record with_64 { management = record with_64.management { waiting = with_64.management.waiting ++ IdentityRemove 65 ∷ [] } }
unfolding teis.course teis.refusal
unchanged = refl

refused_taken_tei : refusal usual false (Assign 64) with_64 ≡ Some TeiTaken
unfolding teis.course teis.refusal
refused_taken_tei = refl
