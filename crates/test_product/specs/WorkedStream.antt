-- Worked values of the definitions, from outside: a published check value, and frames that were worked out
-- by hand. Each is a fact that computes.
use Rattle.std.specs.Prelude.{◌≡◌, ◌∷◌, ◌++◌, [], false, map, replicate, Some, None, refl, take}
use Rattle.model_bits.specs.Bits.{bits, low_bits, number_of}
use Rattle.model_bits.specs.Check.{check, remainder}
use Rattle.model_bits.specs.Stream.{frame, overlong, dropped, heard_in}
use Rattle.model_bits.specs.Sent as sent
use Rattle.model_bits.specs.Heads.{latest_frame, head_of}
use Rattle.model_bits.specs.declared.heard.Cause.TheVariants.{Abort, Ragged, Short, Fcs}

-- the check of the text 123456789 is 906E, low octet first on the line: the published value of this check
check_of_digits :
    check (bits (0x31 ∷ 0x32 ∷ 0x33 ∷ 0x34 ∷ 0x35 ∷ 0x36 ∷ 0x37 ∷ 0x38 ∷ 0x39 ∷ [])) ≡ bits (0x6E ∷ 0x90 ∷ [])
unfolding low_bits
check_of_digits = refl

check_of_sabme : check (bits (0x00 ∷ 0x81 ∷ 0x7F ∷ [])) ≡ bits (0xA8 ∷ 0xD8 ∷ [])
unfolding low_bits
check_of_sabme = refl

check_of_ua : check (bits (0x00 ∷ 0x81 ∷ 0x73 ∷ [])) ≡ bits (0xC4 ∷ 0x12 ∷ [])
unfolding low_bits
check_of_ua = refl

check_of_network_sabme : check (bits (0x02 ∷ 0x81 ∷ 0x7F ∷ [])) ≡ bits (0x10 ∷ 0x6D ∷ [])
unfolding low_bits
check_of_network_sabme = refl

check_of_ui : check (bits (0x00 ∷ 0x81 ∷ 0x03 ∷ 0xCB ∷ [])) ≡ bits (0x59 ∷ 0xF8 ∷ [])
unfolding low_bits
check_of_ui = refl

check_of_identity_request :
    check (bits (0xFC ∷ 0xFF ∷ 0x03 ∷ 0x0F ∷ 0x12 ∷ 0x34 ∷ 0x01 ∷ 0xFF ∷ [])) ≡ bits (0x16 ∷ 0x1A ∷ [])
unfolding low_bits
check_of_identity_request = refl

check_of_identity_assigned :
    check (bits (0xFE ∷ 0xFF ∷ 0x03 ∷ 0x0F ∷ 0x12 ∷ 0x34 ∷ 0x02 ∷ 0x81 ∷ [])) ≡ bits (0xE8 ∷ 0xA1 ∷ [])
unfolding low_bits
check_of_identity_assigned = refl

-- a SABME whose closing flag ends in the first bit of the last octet
heard_sabme :
    heard_in 260 (0x7E ∷ 0x00 ∷ 0x81 ∷ 0xEF ∷ 0x50 ∷ 0xB1 ∷ 0xFD ∷ 0xFC ∷ []) ≡ frame (0x00 ∷ 0x81 ∷ 0x7F ∷ []) ∷ []
unfolding low_bits
heard_sabme = refl

-- an idle line of 1s, and flags without anything between them, are no event
heard_idle : heard_in 260 (0xFF ∷ 0xFF ∷ 0xFF ∷ 0xFF ∷ 0x7E ∷ 0x7E ∷ 0x7E ∷ 0xFF ∷ 0xFF ∷ []) ≡ []
unfolding low_bits
heard_idle = refl

-- the SABME with one bit wrong in its check
heard_wrong_check :
    heard_in 260 (0x7E ∷ 0x00 ∷ 0x81 ∷ 0xEF ∷ 0x50 ∷ 0xB0 ∷ 0xFD ∷ 0xFC ∷ []) ≡ dropped Fcs ∷ []
unfolding low_bits
heard_wrong_check = refl

-- a UI whose check ends in five 1s: ragged without the stuffed 0 after them, and whole with it
heard_unstuffed_end :
    heard_in 260 (0x7E ∷ 0x00 ∷ 0x81 ∷ 0x03 ∷ 0xCB ∷ 0x59 ∷ 0xF8 ∷ 0x7E ∷ []) ≡ dropped Ragged ∷ []
unfolding low_bits
heard_unstuffed_end = refl

heard_stuffed_end :
    heard_in 260 (0x7E ∷ 0x00 ∷ 0x81 ∷ 0x03 ∷ 0xCB ∷ 0x59 ∷ 0xF8 ∷ 0xFC ∷ 0xFC ∷ [])
    ≡ frame (0x00 ∷ 0x81 ∷ 0x03 ∷ 0xCB ∷ []) ∷ []
unfolding low_bits
heard_stuffed_end = refl

-- an abort after three octets, and then the SABME
heard_abort :
    heard_in 260 (0x7E ∷ 0x00 ∷ 0x81 ∷ 0xFF ∷ 0x7E ∷ 0x00 ∷ 0x81 ∷ 0xEF ∷ 0x50 ∷ 0xB1 ∷ 0xFD ∷ 0xFC ∷ [])
    ≡ dropped Abort ∷ frame (0x00 ∷ 0x81 ∷ 0x7F ∷ []) ∷ []
unfolding low_bits
heard_abort = refl

-- the abort comes with the octet of 1s, and not before it
heard_before_abort : heard_in 260 (0x7E ∷ 0x00 ∷ 0x81 ∷ []) ≡ []
unfolding low_bits
heard_before_abort = refl

heard_at_abort : heard_in 260 (0x7E ∷ 0x00 ∷ 0x81 ∷ 0xFF ∷ []) ≡ dropped Abort ∷ []
unfolding low_bits
heard_at_abort = refl

heard_short : heard_in 260 (0x7E ∷ 0x00 ∷ 0x81 ∷ 0x7E ∷ []) ≡ dropped Short ∷ []
unfolding low_bits
heard_short = refl

-- flags that share a zero are no event: a 0, and six times 1111110, of which each ends a flag
heard_shared_zero : heard_in 260 (0x7E ∷ 0xBF ∷ 0xDF ∷ 0xEF ∷ 0xF7 ∷ 0x7B ∷ []) ≡ []
unfolding low_bits
heard_shared_zero = refl

-- a frame of six octets with its check, and one of seven, by a receiver with no room for information
heard_overlong :
    heard_in 0 (0x7E ∷ 0x00 ∷ 0x81 ∷ 0x03 ∷ 0xCB ∷ 0x59 ∷ 0xF8 ∷ 0xFC ∷ 0xFC ∷ [])
    ≡ frame (0x00 ∷ 0x81 ∷ 0x03 ∷ 0xCB ∷ []) ∷ []
unfolding low_bits
heard_overlong = refl

heard_overlong_more :
    heard_in 0 (0x7E ∷ 0x00 ∷ 0x81 ∷ 0x03 ∷ 0xCB ∷ 0xAB ∷ 0x1D ∷ 0x24 ∷ 0x7E ∷ [])
    ≡ overlong (0x00 ∷ 0x81 ∷ 0x03 ∷ 0xCB ∷ []) ∷ []
unfolding low_bits
heard_overlong_more = refl

-- what a sender puts on the line for frames whose checks stand above, whole octets of it
sent_sabme :
    take 64 (sent.line_text (sent.frame (0x00 ∷ 0x81 ∷ 0x7F ∷ []) ∷ sent.idle ∷ []))
    ≡ bits (0x7E ∷ 0x00 ∷ 0x81 ∷ 0xEF ∷ 0x50 ∷ 0xB1 ∷ 0xFD ∷ 0xFC ∷ [])
unfolding low_bits
sent_sabme = refl

sent_ua :
    sent.line_text (sent.frame (0x00 ∷ 0x81 ∷ 0x73 ∷ []) ∷ [])
    ≡ bits (0x7E ∷ 0x00 ∷ 0x81 ∷ 0x73 ∷ 0xC4 ∷ 0x12 ∷ 0x7E ∷ [])
unfolding low_bits
sent_ua = refl

sent_network_sabme :
    take 64 (sent.line_text (sent.frame (0x02 ∷ 0x81 ∷ 0x7F ∷ []) ∷ sent.idle ∷ []))
    ≡ bits (0x7E ∷ 0x02 ∷ 0x81 ∷ 0xEF ∷ 0x20 ∷ 0xDA ∷ 0xFC ∷ 0xFC ∷ [])
unfolding low_bits
sent_network_sabme = refl

sent_ui :
    take 72 (sent.line_text (sent.frame (0x00 ∷ 0x81 ∷ 0x03 ∷ 0xCB ∷ []) ∷ sent.idle ∷ []))
    ≡ bits (0x7E ∷ 0x00 ∷ 0x81 ∷ 0x03 ∷ 0xCB ∷ 0x59 ∷ 0xF8 ∷ 0xFC ∷ 0xFC ∷ [])
unfolding low_bits
sent_ui = refl

-- what the division leaves of an octet, turned round: entries of the table that this check is published with
left_of_octets :
    map (λ octet. number_of (remainder (low_bits 8 octet ++ replicate 16 false))) (0x00 ∷ 0x01 ∷ 0x80 ∷ 0xFF ∷ [])
    ≡ 0x0000 ∷ 0x1189 ∷ 0x8408 ∷ 0x0F78 ∷ []
unfolding low_bits
left_of_octets = refl

-- the latest frame of a line, and how it begins
worked_latest : latest_frame (sent.frame (1 ∷ 2 ∷ 3 ∷ []) ∷ sent.idle ∷ sent.frame (4 ∷ 5 ∷ 6 ∷ []) ∷ sent.idle ∷ sent.idle ∷ []) ≡ 4 ∷ 5 ∷ 6 ∷ []
worked_latest = refl

worked_head : head_of (4 ∷ 5 ∷ 6 ∷ []) ≡ Some (record { octets = 4 ∷ 5 ∷ 6 ∷ 0 ∷ []; length = 3 })
worked_head = refl

worked_long_head : head_of (2 ∷ 129 ∷ 0 ∷ 0 ∷ 8 ∷ 1 ∷ []) ≡ Some (record { octets = 2 ∷ 129 ∷ 0 ∷ 0 ∷ []; length = 6 })
worked_long_head = refl

worked_none : head_of (latest_frame (sent.idle ∷ [])) ≡ None
worked_none = refl
