-- What octets say: each computes.
use Rattle.std.specs.Prelude.{◌≡◌, [], ◌∷◌, codes, refl}
use Rattle.std.specs.Fmt.{digits}
use Rattle.hex.specs.Hex.{encode_with}
use Rattle.lapd_frame.specs.declared.addresses.Side.TheVariants.{Network, User}
use Rattle.lapd_frame.specs.Reading.{reading, header_of, control_of, supervisory_of, unnumbered_of}
use Rattle.lapd_seq.specs.Numbers.{seq}
use Rattle.lapd_text.specs.Told.{told_text}

-- SABME of the terminal with TEI 64, and the UA that answers it
sabme : told_text User (0x00 ∷ 0x81 ∷ 0x7F ∷ []) ≡ codes "sapi 0 tei 64 command sabme p 1 info -\n"
unfolding reading header_of control_of supervisory_of unnumbered_of digits
sabme = refl

ua : told_text Network (0x00 ∷ 0x81 ∷ 0x73 ∷ []) ≡ codes "sapi 0 tei 64 response ua f 1 info -\n"
unfolding reading header_of control_of supervisory_of unnumbered_of digits
ua = refl

i-frame : told_text User (0x00 ∷ 0x81 ∷ 0x02 ∷ 0x04 ∷ 0x08 ∷ 0x01 ∷ []) ≡ codes "sapi 0 tei 64 command i ns 1 nr 2 p 0 info 0801\n"
unfolding reading header_of control_of supervisory_of unnumbered_of seq encode_with digits
i-frame = refl

-- a terminal asks for any TEI (type 1, Ai 127), and the network gives it TEI 64 (type 2)
request : told_text User (0xFC ∷ 0xFF ∷ 0x03 ∷ 0x0F ∷ 0x12 ∷ 0x34 ∷ 0x01 ∷ 0xFF ∷ [])
    ≡ codes "sapi 63 tei 127 command ui p 0 info 0F123401FF identity request, Ri 1234, Ai 127\n"
unfolding reading header_of control_of supervisory_of unnumbered_of encode_with digits
request = refl

assigned : told_text Network (0xFE ∷ 0xFF ∷ 0x03 ∷ 0x0F ∷ 0x12 ∷ 0x34 ∷ 0x02 ∷ 0x81 ∷ [])
    ≡ codes "sapi 63 tei 127 command ui p 0 info 0F12340281 identity assigned, Ri 1234, Ai 64\n"
unfolding reading header_of control_of supervisory_of unnumbered_of encode_with digits
assigned = refl

-- no frame
short : told_text User (0x00 ∷ 0x81 ∷ []) ≡ codes "frame: short\n"
unfolding reading header_of control_of supervisory_of unnumbered_of
short = refl
