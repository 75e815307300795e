-- Worked values: frames that are too long to keep, and a verify while another TEI is under check, by both readings of the tables.
use Rattle.std.specs.Prelude.{◌≡◌, ℕ, List, [], ◌∷◌, refl}
use Rattle.laws_line.specs.WorkedWords.{Unserved, Call, Start, Stop, T200, T203, exchanged, read_by, reading, header_of, control_of, unnumbered_of, Config, Line, Check, LineTold, nothing, dropped, fresh_line, of_request, of_aim, aim_of_heard, Assign}
use Rattle.model_bits.specs.Stream as stream
use Rattle.lapd_frame.specs.declared.notes.Note.TheVariants as notes
use Rattle.lapd_frame.specs.declared.notes.ErrorCode.TheVariants as code
use Rattle.lapd_frame.specs.declared.readings.Reading.TheVariants.{AnnexB}
use Rattle.model_teis.specs.network.Events as teis
use Rattle.model_line.specs.Counts.{may_send}
use Rattle.model_line.specs.Stored.{held_in}
use Rattle.laws_line.specs.Worked.{usual}

abbrev annex_b : Config
annex_b = record usual { reading = AnnexB }

-- TEI 64 is on the line, and its link of call control is up; then one is heard that begins so.
abbrev with_64 : Config → Line
with_64 c = (of_request c (Assign 64) (fresh_line c)).line

abbrev up : Config → Line
up c = (of_aim c (aim_of_heard c (with_64 c) (stream.frame (0x00 ∷ 0x81 ∷ 0x7F ∷ []))) (with_64 c)).line

abbrev told_of : Config → List ℕ → LineTold
told_of c head = (of_aim c (aim_of_heard c (up c) (stream.overlong head)) (up c)).told

-- UI at the address of the link: it is not served; by annex B error O is told, and the link is established again.
unit_unserved : told_of usual (0x00 ∷ 0x81 ∷ 0x03 ∷ 0xAB ∷ []) ≡ dropped Unserved
unfolding exchanged read_by reading header_of control_of unnumbered_of teis.course teis.refusal
unit_unserved = refl

unit_too_long :
    told_of annex_b (0x00 ∷ 0x81 ∷ 0x03 ∷ 0xAB ∷ [])
    ≡ record nothing { notes = notes.Error Call 64 code.O ∷ []; orders = Start (T200 Call 64) ∷ Stop (T203 Call 64) ∷ [] }
unfolding exchanged read_by reading header_of control_of unnumbered_of teis.course teis.refusal
unit_too_long = refl

-- XID is served by neither, nor is UI to layer 2 management.
xid_unserved : told_of usual (0x00 ∷ 0x81 ∷ 0xAF ∷ 0xAB ∷ []) ∷ told_of annex_b (0x00 ∷ 0x81 ∷ 0xAF ∷ 0xAB ∷ []) ∷ [] ≡ dropped Unserved ∷ dropped Unserved ∷ []
unfolding exchanged read_by reading header_of control_of unnumbered_of teis.course teis.refusal
xid_unserved = refl

message_unserved : told_of usual (0xFC ∷ 0xFF ∷ 0x03 ∷ 0x0F ∷ []) ∷ told_of annex_b (0xFC ∷ 0xFF ∷ 0x03 ∷ 0x0F ∷ []) ∷ [] ≡ dropped Unserved ∷ dropped Unserved ∷ []
unfolding exchanged read_by reading header_of control_of unnumbered_of teis.course teis.refusal
message_unserved = refl

-- TEI 64 is under check, and the terminal with TEI 65 has its own verified: that is not served, and one message waits. By annex B
-- two wait, and a third will, as a check of TEI 65 is due; one octet more is held while it is.
abbrev checking : Config → Line
checking c = (of_request c (Check 64) (of_request c (Assign 65) (with_64 c)).line).line

abbrev verified : Config → Line
verified c = (of_aim c (aim_of_heard c (checking c) (stream.frame (0xFC ∷ 0xFF ∷ 0x03 ∷ 0x0F ∷ 0 ∷ 0 ∷ 0x07 ∷ 0x83 ∷ []))) (checking c)).line

verify_counted : may_send usual (verified usual) ∷ may_send annex_b (verified annex_b) ∷ [] ≡ 1 ∷ 3 ∷ []
unfolding exchanged read_by reading header_of control_of unnumbered_of teis.course teis.refusal
verify_counted = refl

verify_held : held_in usual (verified usual) ∷ held_in annex_b (verified annex_b) ∷ [] ≡ 8 ∷ 17 ∷ []
unfolding exchanged read_by reading header_of control_of unnumbered_of teis.course teis.refusal
verify_held = refl
