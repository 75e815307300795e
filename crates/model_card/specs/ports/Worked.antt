-- Worked values: octets that come, as a card of frames hears them; and the frame that was heard last.
use Rattle.std.specs.Prelude.{◌≡◌, ℕ, ◌<◌, List, [], ◌∷◌, ◌++◌, map, refl, None, Some}
use Rattle.std.proofs.Common.{arith}
use Rattle.std.proofs.lemmas.List.Elements.{All-head}
use Rattle.model_bits.specs.Bits.{low_bits}
use Rattle.model_bits.specs.Stream.{frame}
use Rattle.model_line.specs.declared.config.Config.{Config}
use Rattle.model_line.specs.Event.{hears}
use Rattle.model_card.specs.Event as frames
use Rattle.model_card.specs.ports.Card.{fresh, after, meant}
use Rattle.model_card.specs.ports.Event.{Event, at}
use Rattle.model_card.specs.ports.HeadHeard.{head_heard}
use Rattle.model_bits.specs.StreamLaws.{HasOctets}
use Rattle.model_card.specs.ports.Port.{Port, fresh_port, octet}
use Rattle.model_card.specs.ports.Run.{meant_all}

abbrev comes : ℕ → Event
comes number = at 0 (octet number)

-- Of a number of 256 or more the eight low bits come, so a UA that comes in such numbers is heard as octets.
ua_is_heard : (c : Config) → meant_all (fresh (record c { lines = 1; n201 = 260 })) (map comes (0x17E ∷ 0x100 ∷ 0x81 ∷ 0x273 ∷ 0xC4 ∷ 0x112 ∷ 0x7E ∷ []))
    ≡ frames.at 0 (hears (frame (0x00 ∷ 0x81 ∷ 0x73 ∷ []))) ∷ []
unfolding after low_bits meant meant_all
ua_is_heard c = refl

-- Where a frame has a number that is no octet, the law is broken.
no_octet : HasOctets (frame (300 ∷ 0x81 ∷ 0x73 ∷ [])) → ⊥
no_octet h = let first : 300 < 256 = All-head (λ octet. octet < 256) 300 (0x81 ∷ 0x73 ∷ []) h in omega (arith, first)

-- A UA, an I-frame's beginning with a bad check behind it, and a frame of 13 octets, at a line for 8 octets of information.
abbrev ua : List ℕ
ua = 0x7E ∷ 0x00 ∷ 0x81 ∷ 0x73 ∷ 0xC4 ∷ 0x12 ∷ 0x7E ∷ []

abbrev bad : List ℕ
bad = 0x02 ∷ 0x81 ∷ 0x00 ∷ 0x00 ∷ 0x12 ∷ 0x34 ∷ 0x7E ∷ []

abbrev long : List ℕ
long = 0x00 ∷ 0x81 ∷ 0x00 ∷ 0x04 ∷ 0x01 ∷ 0x01 ∷ 0x01 ∷ 0x01 ∷ 0x01 ∷ 0x01 ∷ 0x01 ∷ 0x01 ∷ 0x01 ∷ 0x2C ∷ 0x46 ∷ 0x7E ∷ []

abbrev having : List ℕ → Port
having octets = record fresh_port { received = octets }

-- Before its closing flag a frame is not heard. Of three octets the fourth is 0. What is dropped leaves the frame before.
not_yet : head_heard 8 (having (0x7E ∷ 0x00 ∷ 0x81 ∷ 0x73 ∷ 0xC4 ∷ 0x12 ∷ [])) ≡ None
unfolding low_bits
not_yet = refl

ua_is_latest : head_heard 8 (having (ua ++ bad)) ≡ Some (record { octets = 0x00 ∷ 0x81 ∷ 0x73 ∷ 0 ∷ []; length = 3 })
unfolding low_bits
ua_is_latest = refl

-- A frame that is too long is the latest, too.
long_is_latest : head_heard 8 (having (ua ++ bad ++ long)) ≡ Some (record { octets = 0x00 ∷ 0x81 ∷ 0x00 ∷ 0x04 ∷ []; length = 13 })
unfolding low_bits
long_is_latest = refl
