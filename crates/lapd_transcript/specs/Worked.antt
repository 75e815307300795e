-- What frames say, and what they are on a line: each computes.
use Rattle.std.specs.Prelude.{◌≡◌, true, false, [], ◌∷◌, ◌++◌, codes, refl}
use Rattle.std.specs.Fmt.{digits}
use Rattle.hex.specs.Hex.{encode_with}
use Rattle.lapd_frame.specs.declared.controls.Control.TheVariants.{Information, Reject, Sabme, Ua}
use Rattle.lapd_seq.specs.Numbers.{seq}
use Rattle.model_bits.specs.Bits.{low_bits}
use Rattle.lapd_transcript.specs.OnLine.{on_line}
use Rattle.lapd_transcript.specs.Shown.{shown_text, on_line_text}

i-frame : shown_text (record { address = record { sapi = 0; command = true; tei = 64 }; control = Information (seq 1) (seq 2) false; info = 0x08 ∷ 0x01 ∷ [] }) ≡ codes "sapi 0 tei 64 command i ns 1 nr 2 p 0 info 0801\n"
unfolding seq encode_with digits
i-frame = refl

rej : shown_text (record { address = record { sapi = 16; command = false; tei = 126 }; control = Reject (seq 127) false; info = [] }) ≡ codes "sapi 16 tei 126 response rej nr 127 f 0 info -\n"
unfolding seq digits
rej = refl

ua : shown_text (record { address = record { sapi = 0; command = false; tei = 7 }; control = Ua true; info = [] }) ≡ codes "sapi 0 tei 7 response ua f 1 info -\n"
unfolding digits
ua = refl

-- the last bit of the closing flag is not the last of an octet, so that an idle flag begins
sabme : shown_text (record { address = record { sapi = 0; command = true; tei = 64 }; control = Sabme true; info = [] }) ++ on_line_text (on_line (0x00 ∷ 0x81 ∷ 0x7F ∷ [])) ≡ codes "sapi 0 tei 64 command sabme p 1 info -\nline 7E0081EF50B1FDFC\n"
unfolding low_bits encode_with digits
sabme = refl

-- it is, where no bit is stuffed
rej_alone : on_line_text (on_line (0x00 ∷ 0x81 ∷ 0x09 ∷ 0x02 ∷ [])) ≡ codes "line 7E00810902E45E7E\n"
unfolding low_bits encode_with
rej_alone = refl
