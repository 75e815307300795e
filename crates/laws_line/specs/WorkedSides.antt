-- Worked values of the user's side of a line: each computes.
use Rattle.std.specs.Prelude.{◌≡◌, ℕ, false, List, [], ◌∷◌, replicate, Option, Some, None, refl}
use Rattle.laws_line.specs.WorkedWords.{Tei, Unserved, User, BadTei, WrongSide, Call, Packet, Start, Stop, T200, T203, exchanged, read_by, reading, header_of, control_of, unnumbered_of, Config, nothing, dropped, Request, Establish, Unit, Assign, Remove, Check, Disown, Line, fresh_line, state_of, Effect, of_aim, aim_of_heard, refusal, of_request, Taken, taken}
use Rattle.model_bits.specs.Stream as stream
use Rattle.lapd_frame.specs.declared.notes.Note.TheVariants as notes
use Rattle.model_teis.specs.network.Events as teis
use Rattle.laws_line.specs.Worked.{usual}

-- the private exchange's end of a trunk
abbrev trunk : Config
trunk = record usual { side = User }

abbrev hearing : List ℕ → Line → Effect
hearing octets l = of_aim trunk (aim_of_heard trunk l (stream.frame octets)) l

abbrev asked : Request → Line → Line
asked r l = (of_request trunk r l).line

abbrev text_of : Option Taken → List ℕ
text_of None = []
text_of (Some t) = t.frame

-- with the TEI of a point-to-point line
abbrev with_0 : Line
with_0 = asked (Assign 0) (fresh_line trunk)

-- a command of the user's side has C/R 0, and a response of the network too
sabme_goes : text_of (taken trunk (asked (Establish Call 0) with_0)) ≡ 0x00 ∷ 0x01 ∷ 0x7F ∷ []
unfolding exchanged teis.course teis.refusal
sabme_goes = refl

ua_comes :
    (hearing (0x00 ∷ 0x01 ∷ 0x73 ∷ []) (asked (Establish Call 0) with_0)).told
    ≡ record nothing { notes = notes.EstablishConfirm Call 0 ∷ []; orders = Stop (T200 Call 0) ∷ Start (T203 Call 0) ∷ [] }
unfolding exchanged read_by reading header_of control_of unnumbered_of teis.course teis.refusal
ua_comes = refl

-- a command of the network has C/R 1, and its answer too
sabme_comes :
    (hearing (0x02 ∷ 0x01 ∷ 0x7F ∷ []) with_0).told
    ≡ record nothing { notes = notes.EstablishIndication Call 0 ∷ []; orders = Start (T203 Call 0) ∷ [] }
unfolding exchanged read_by reading header_of control_of unnumbered_of teis.course teis.refusal
sabme_comes = refl

ua_goes : text_of (taken trunk (hearing (0x02 ∷ 0x01 ∷ 0x7F ∷ []) with_0).line) ≡ 0x02 ∷ 0x01 ∷ 0x73 ∷ []
unfolding exchanged read_by reading header_of control_of unnumbered_of teis.course teis.refusal
ua_goes = refl

-- a SABME with the user's own C/R bit is no frame of the network: SABME is no response
own_sabme : state_of Call 0 (hearing (0x00 ∷ 0x01 ∷ 0x7F ∷ []) with_0).line ≡ Some 4
unfolding exchanged read_by reading header_of control_of unnumbered_of teis.course teis.refusal
own_sabme = refl

-- what the network sends to the group is unit data with its TEI, of each service, whatever its P bit
group_unit :
    (hearing (0x02 ∷ 0xFF ∷ 0x03 ∷ 0xAB ∷ []) with_0).told
    ≡ record nothing { notes = notes.Unit Call 127 ∷ []; contents = Some (0xAB ∷ []) }
unfolding exchanged read_by reading header_of control_of unnumbered_of teis.course teis.refusal
group_unit = refl

packet_group_unit :
    (hearing (0x42 ∷ 0xFF ∷ 0x13 ∷ []) with_0).told
    ≡ record nothing { notes = notes.Unit Packet 127 ∷ []; contents = Some [] }
unfolding exchanged read_by reading header_of control_of unnumbered_of teis.course teis.refusal
packet_group_unit = refl

-- but not more than N201 octets, and no other frame
long_group_unit : (hearing (0x02 ∷ 0xFF ∷ 0x03 ∷ replicate 261 0xAB) with_0).told ≡ dropped Tei
unfolding exchanged read_by reading header_of control_of unnumbered_of teis.course teis.refusal
long_group_unit = refl

group_sabme : (hearing (0x02 ∷ 0xFF ∷ 0x7F ∷ []) with_0).told ≡ dropped Tei
unfolding exchanged read_by reading header_of control_of unnumbered_of teis.course teis.refusal
group_sabme = refl

-- a check of TEI 0 by the network is not served, and changes nothing
check_comes :
    hearing (0xFE ∷ 0xFF ∷ 0x03 ∷ 0x0F ∷ 0x00 ∷ 0x00 ∷ 0x04 ∷ 0x01 ∷ []) with_0
    ≡ record { line = with_0; told = dropped Unserved }
unfolding exchanged read_by reading header_of control_of unnumbered_of teis.course teis.refusal
check_comes = refl

-- Refusals: the group's unit data is the network's, and so is TEI management.
refused_for_the_group : refusal trunk false (Unit Call 127 []) with_0 ≡ Some BadTei
unfolding teis.course teis.refusal
refused_for_the_group = refl

refused_removal : refusal trunk false (Remove 0) with_0 ≡ Some WrongSide
unfolding teis.course teis.refusal
refused_removal = refl

refused_check : refusal trunk false (Check 0) with_0 ≡ Some WrongSide
unfolding teis.course teis.refusal
refused_check = refl

refused_disowning : refusal trunk false (Disown 127) with_0 ≡ Some WrongSide
unfolding teis.course teis.refusal
refused_disowning = refl

unit_data_is_asked : refusal trunk false (Unit Call 0 (0xAB ∷ [])) with_0 ≡ None
unfolding teis.course teis.refusal
unit_data_is_asked = refl
