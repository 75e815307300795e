-- Worked values of the definitions.
use Rattle.std.specs.Prelude.{◌≡◌, true, false, [], ◌∷◌, Ok, Err, refl}
use Rattle.lapd_seq.specs.Numbers.{seq}
use Rattle.lapd_frame.specs.declared.addresses.Side.TheVariants.{User, Network}
use Rattle.lapd_frame.specs.declared.controls.Control.TheVariants.{Information, Sabme, Ua}
use Rattle.lapd_frame.specs.declared.faults.ReadFault.TheVariants.{BadExtension, Undefined, WrongSize, Short}
use Rattle.lapd_frame.specs.Grammar.{spelling}
use Rattle.lapd_frame.specs.Reading.{supervisory_of, unnumbered_of, control_of, header_of, reading}

-- The frames of the terminal with TEI 64 that establish a link, and the network's answer.
pub sabme-is-spelled : spelling User (record { address = record { sapi = 0; command = true; tei = 64 }; control = Sabme true; info = [] }) ≡ 0x00 ∷ 0x81 ∷ 0x7F ∷ []
sabme-is-spelled = refl

pub ua-is-spelled : spelling Network (record { address = record { sapi = 0; command = false; tei = 64 }; control = Ua true; info = [] }) ≡ 0x00 ∷ 0x81 ∷ 0x73 ∷ []
ua-is-spelled = refl

-- N(S) 1, N(R) 2 and one octet of information.
pub i-frame-is-spelled : spelling User (record { address = record { sapi = 16; command = true; tei = 64 }; control = Information (seq 1) (seq 130) true; info = 0x41 ∷ [] }) ≡ 0x40 ∷ 0x81 ∷ 0x02 ∷ 0x05 ∷ 0x41 ∷ []
unfolding seq
i-frame-is-spelled = refl

pub sabme-is-read : reading User (0x00 ∷ 0x81 ∷ 0x7F ∷ []) ≡ Ok (record { address = record { sapi = 0; command = true; tei = 64 }; control = Sabme true; info = [] })
unfolding reading header_of control_of unnumbered_of
sabme-is-read = refl

pub sabme-is-no-response : reading User (0x02 ∷ 0x81 ∷ 0x7F ∷ []) ≡ Err (Undefined (record { sapi = 0; command = false; tei = 64 }))
unfolding reading header_of control_of unnumbered_of
sabme-is-no-response = refl

pub reserved-bits-are-0 : reading User (0x00 ∷ 0x81 ∷ 0x11 ∷ 0x00 ∷ []) ≡ Err (Undefined (record { sapi = 0; command = true; tei = 64 }))
unfolding reading header_of control_of supervisory_of
reserved-bits-are-0 = refl

pub rr-has-4-octets : reading User (0x00 ∷ 0x81 ∷ 0x01 ∷ 0x02 ∷ 0x00 ∷ []) ≡ Err (WrongSize (record { sapi = 0; command = true; tei = 64 }))
unfolding reading header_of control_of supervisory_of
rr-has-4-octets = refl

pub first-extension-bit-is-0 : reading User (0x01 ∷ 0x81 ∷ 0x7F ∷ []) ≡ Err BadExtension
unfolding reading header_of
first-extension-bit-is-0 = refl

pub an-i-frame-has-4-octets : reading User (0x00 ∷ 0x81 ∷ 0x02 ∷ []) ≡ Err Short
unfolding reading
an-i-frame-has-4-octets = refl
