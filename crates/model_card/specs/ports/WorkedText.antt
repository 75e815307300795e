-- Worked values: when pulls call for the next frame, and what goes out then; and frames that stand in octets, as they are heard.
use Rattle.std.specs.Prelude.{◌≡◌, ℕ, List, [], ◌∷◌, ◌++◌, replicate, None, Some, refl}
use Rattle.std.proofs.Common.{lit<}
use Rattle.std.proofs.lemmas.List.Elements.{All-nil, All-cons}
use Rattle.model_bits.specs.Bits.{bits, flag, low_bits}
use Rattle.model_bits.specs.Sent.{frame_text}
use Rattle.model_bits.specs.Stream.{frame, overlong, dropped, heard_in}
use Rattle.model_bits.specs.declared.heard.Cause.TheVariants.{Fcs}
use Rattle.lapd_frame.specs.declared.services.Service.TheVariants.{Call}
use Rattle.lapd_frame.specs.Senders.{exchanged}
use Rattle.model_line.specs.Came.{came}
use Rattle.model_line.specs.declared.config.Config.{Config}
use Rattle.model_line.specs.Event as line
use Rattle.model_line.specs.Machine as lines
use Rattle.model_line.specs.Request.{Request, Unit}
use Rattle.model_line.specs.Usual.{least}
use Rattle.model_card.specs.Event as frames
use Rattle.model_card.specs.Run as runs
use Rattle.model_card.specs.ports.AtOnce.{text_of_calls, left_to_give}
use Rattle.model_card.specs.ports.Card.{fresh, after, answer, meant}
use Rattle.model_card.specs.ports.Event.{Event, at}
use Rattle.model_card.specs.ports.FrameHeard.{ended_by_latest}
use Rattle.model_card.specs.ports.GoingOut.{octets_given}
use Rattle.model_card.specs.ports.Port.{request, pull}
use Rattle.model_card.specs.ports.Run.{moments, meant_all}
use Rattle.model_card.specs.ports.WholeLaws.{IsThere, Brings}

abbrev small : Config
small = record least { n200 = 1 }

-- Unit data of the group, and so many pulls.
abbrev unit : Request
unit = Unit Call 127 (0xAB ∷ [])

abbrev pulled : ℕ → List Event
pulled n = at 0 (request unit) ∷ replicate n (at 0 pull)

-- The first pull gives the opening flag, of which eight bits are left before it, so it calls for nothing.
none_called : meant_all (fresh small) (pulled 1) ≡ frames.at 0 (line.request unit) ∷ []
unfolding meant_all after meant lines.after lines.answer lines.takes_slot low_bits
none_called = refl

nothing_left : left_to_give small (pulled 1) 0 ≡ []
unfolding meant_all moments after answer meant runs.moments lines.after lines.answer lines.takes_slot low_bits
nothing_left = refl

-- The second one finds none left, and calls for the frame, which stands right behind the flag: its first octet goes at once.
one_called : meant_all (fresh small) (pulled 2) ≡ frames.at 0 (line.request unit) ∷ frames.at 0 line.next ∷ []
unfolding meant_all after meant lines.after lines.answer lines.takes_slot low_bits
one_called = refl

abbrev ui : List ℕ
ui = 0x02 ∷ 0xFF ∷ 0x03 ∷ 0xAB ∷ []

its_text : text_of_calls small (pulled 2) 0 ≡ flag ++ (frame_text ui ++ flag)
unfolding exchanged meant_all moments after answer meant runs.moments lines.after lines.answer lines.takes_slot low_bits
its_text = refl

its_first : octets_given small (pulled 2) 0 ≡ 0x7E ∷ 0x02 ∷ []
unfolding exchanged meant_all moments after answer meant runs.moments lines.after lines.answer lines.takes_slot low_bits
its_first = refl

-- After eight octets two bits of its closing flag are left. So the ninth pull calls again, for nothing, and one flag stands there.
called_again : meant_all (fresh small) (pulled 9) ≡ frames.at 0 (line.request unit) ∷ frames.at 0 line.next ∷ frames.at 0 line.next ∷ []
unfolding exchanged meant_all after meant lines.after lines.answer lines.takes_slot low_bits
called_again = refl

its_end : octets_given small (pulled 9) 0 ≡ 0x7E ∷ 0x02 ∷ 0xDF ∷ 0x07 ∷ 0xAC ∷ 0xAA ∷ 0xCB ∷ 0xF8 ∷ 0xF9 ∷ []
unfolding exchanged meant_all moments after answer meant runs.moments lines.after lines.answer lines.takes_slot low_bits
its_end = refl

-- A UA stands in these octets, and the last of them brings it, and nothing else.
abbrev ua : List ℕ
ua = 0x7E ∷ 0x00 ∷ 0x81 ∷ 0x73 ∷ 0xC4 ∷ 0x12 ∷ 0x7E ∷ []

ua_ended : ended_by_latest 8 ua ≡ Some (frame (0x00 ∷ 0x81 ∷ 0x73 ∷ []))
unfolding low_bits
ua_ended = refl

-- One octet later it is no more what the latest octet has ended; and no octet has ended nothing.
ua_gone : ended_by_latest 8 (ua ++ 0x7E ∷ []) ≡ None
unfolding low_bits
ua_gone = refl

none_ended : ended_by_latest 8 [] ≡ None
none_ended = refl

ua_stands : IsThere (bits ua) (frame (0x00 ∷ 0x81 ∷ 0x73 ∷ []))
unfolding exchanged low_bits
ua_stands = record { before = []; after = []; is = refl; late = lit< tt }

ua_brought : Brings 8 (0x7E ∷ 0x00 ∷ 0x81 ∷ 0x73 ∷ 0xC4 ∷ 0x12 ∷ []) 0x7E
unfolding exchanged low_bits
ua_brought = record { event = Some (came 8 (0x00 ∷ 0x81 ∷ 0x73 ∷ [])); is = refl; there = All-cons (IsThere (bits ua)) (frame (0x00 ∷ 0x81 ∷ 0x73 ∷ [])) [] ua_stands (All-nil (IsThere (bits ua))) }

-- So does a frame of 13 octets behind it, of which the first four are heard, on a line for 8 octets of information.
abbrev long : List ℕ
long = 0x00 ∷ 0x81 ∷ 0x00 ∷ 0x04 ∷ replicate 9 0x01

abbrev both : List ℕ
both = ua ++ (long ++ 0x2C ∷ 0x46 ∷ 0x7E ∷ [])

long_stands : IsThere (bits both) (overlong (0x00 ∷ 0x81 ∷ 0x00 ∷ 0x04 ∷ []))
unfolding exchanged low_bits
long_stands = (long, refl, record { before = bits (0x7E ∷ 0x00 ∷ 0x81 ∷ 0x73 ∷ 0xC4 ∷ 0x12 ∷ []); after = []; is = refl; late = lit< tt })

both_heard : heard_in 8 both ≡ frame (0x00 ∷ 0x81 ∷ 0x73 ∷ []) ∷ overlong (0x00 ∷ 0x81 ∷ 0x00 ∷ 0x04 ∷ []) ∷ []
unfolding exchanged low_bits
both_heard = refl

-- With one bit of it changed it is a bad check, however long it is.
damaged_heard : heard_in 8 (ua ++ (0x00 ∷ 0x81 ∷ 0x00 ∷ 0x04 ∷ replicate 9 0x03 ++ 0x2C ∷ 0x46 ∷ 0x7E ∷ [])) ≡ frame (0x00 ∷ 0x81 ∷ 0x73 ∷ []) ∷ dropped Fcs ∷ []
unfolding exchanged low_bits
damaged_heard = refl
