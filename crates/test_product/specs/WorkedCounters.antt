-- Worked values: what frames are counted as, and what counters are after them.
use Rattle.std.specs.Prelude.{◌≡◌, ◌-◌, [], ◌∷◌, Some, None, refl}
use Rattle.model_bits.specs.declared.heard.Cause.TheVariants.{Fcs}
use Rattle.model_bits.specs.Stream.{frame}
use Rattle.lapd_frame.specs.declared.addresses.Side.TheVariants.{User, Network}
use Rattle.lapd_frame.specs.declared.notes.ErrorCode.TheVariants.{F}
use Rattle.lapd_frame.specs.declared.notes.Note.TheVariants.{Error}
use Rattle.lapd_frame.specs.declared.services.Service.TheVariants.{Call}
use Rattle.lapd_frame.specs.Reading.{control_of, supervisory_of, unnumbered_of}
use Rattle.lapd_count.specs.declared.counter.Counter.TheVariants.{Frames, Octets, Polls, Dropped, Errors, Lost, Messages}
use Rattle.lapd_count.specs.declared.counter.Way.TheVariants.{Heard, Begun}
use Rattle.lapd_count.specs.declared.kinds.Kind.TheVariants.{Information, ReceiveReady, Sabme, Ua, Ui}
use Rattle.lapd_count.specs.declared.messages.MessageType.TheVariants.{IdentityRequest, IdentityDenied}
use Rattle.lapd_count.specs.Counters.{most, none_counted, value_in, with_all}
use Rattle.lapd_count.specs.Shown.{heard_shown, octets_shown, begun_shown, told_shown}

-- An RR command with P=1 is a poll of a terminal; an RR response with F=1 is none.
worked_poll : heard_shown Network (Some (frame (0x00 ∷ 0x81 ∷ 0x01 ∷ 0x01 ∷ []))) ≡ (Frames Heard ReceiveReady, 1) ∷ (Octets Heard, 4) ∷ (Polls Heard, 1) ∷ []
unfolding control_of supervisory_of unnumbered_of
worked_poll = refl

worked_answer : octets_shown User Heard (0x02 ∷ 0x81 ∷ 0x01 ∷ 0x01 ∷ []) ≡ (Frames Heard ReceiveReady, 1) ∷ (Octets Heard, 4) ∷ []
unfolding control_of supervisory_of unnumbered_of
worked_answer = refl

-- The network's command has C/R = 1.
worked_own_poll : octets_shown Network Begun (0x02 ∷ 0x81 ∷ 0x00 ∷ 0x01 ∷ 0x08 ∷ []) ≡ (Frames Begun Information, 1) ∷ (Octets Begun, 5) ∷ (Polls Begun, 1) ∷ []
unfolding control_of supervisory_of unnumbered_of
worked_own_poll = refl

-- On the user's side it is the other way round.
worked_users_poll : octets_shown Network Heard (0x02 ∷ 0x81 ∷ 0x01 ∷ 0x01 ∷ []) ≡ (Frames Heard ReceiveReady, 1) ∷ (Octets Heard, 4) ∷ (Polls Heard, 1) ∷ []
unfolding control_of supervisory_of unnumbered_of
worked_users_poll = refl

worked_users_answer : octets_shown User Begun (0x02 ∷ 0x81 ∷ 0x01 ∷ 0x01 ∷ []) ≡ (Frames Begun ReceiveReady, 1) ∷ (Octets Begun, 4) ∷ []
unfolding control_of supervisory_of unnumbered_of
worked_users_answer = refl

-- SABME with P=1 asks for an answer, too, but is no poll.
worked_sabme : octets_shown User Heard (0x00 ∷ 0x81 ∷ 0x7F ∷ []) ≡ (Frames Heard Sabme, 1) ∷ (Octets Heard, 3) ∷ []
unfolding control_of supervisory_of unnumbered_of
worked_sabme = refl

-- A terminal asks for a TEI, and none is given: the octets of both messages. One with another entity identifier is no message.
worked_request : heard_shown Network (Some (frame (0xFC ∷ 0xFF ∷ 0x03 ∷ 0x0F ∷ 0x12 ∷ 0x34 ∷ 0x01 ∷ 0xFF ∷ [])))
    ≡ (Frames Heard Ui, 1) ∷ (Octets Heard, 8) ∷ (Messages Heard IdentityRequest, 1) ∷ []
unfolding control_of supervisory_of unnumbered_of
worked_request = refl

worked_denied : begun_shown Network (0xFE ∷ 0xFF ∷ 0x03 ∷ 0x0F ∷ 0x12 ∷ 0x34 ∷ 0x03 ∷ 0xFF ∷ []) ≡ (Frames Begun Ui, 1) ∷ (Octets Begun, 8) ∷ (Messages Begun IdentityDenied, 1) ∷ []
unfolding control_of supervisory_of unnumbered_of
worked_denied = refl

worked_other_entity : begun_shown Network (0xFE ∷ 0xFF ∷ 0x03 ∷ 0x0E ∷ 0x12 ∷ 0x34 ∷ 0x03 ∷ 0xFF ∷ []) ≡ (Frames Begun Ui, 1) ∷ (Octets Begun, 8) ∷ []
unfolding control_of supervisory_of unnumbered_of
worked_other_entity = refl

-- A link's frame has none, whatever its information.
worked_no_message : begun_shown Network (0x02 ∷ 0xFF ∷ 0x03 ∷ 0x0F ∷ 0x12 ∷ 0x34 ∷ 0x03 ∷ 0xFF ∷ []) ≡ (Frames Begun Ui, 1) ∷ (Octets Begun, 8) ∷ []
unfolding control_of supervisory_of unnumbered_of
worked_no_message = refl

worked_told : told_shown (Error Call 64 F ∷ []) (Some Fcs) 2 ≡ (Errors F, 1) ∷ (Dropped Fcs, 1) ∷ (Lost, 2) ∷ []
worked_told = refl

worked_nothing : told_shown [] None 0 ≡ []
worked_nothing = refl

-- Two SABME, heard and counted; no UA was.
worked_two : value_in (with_all none_counted ((Frames Heard Sabme, 1) ∷ (Octets Heard, 3) ∷ (Frames Heard Sabme, 1) ∷ [])) (Frames Heard Sabme) ≡ 2
worked_two = refl

worked_none : value_in (with_all none_counted ((Frames Heard Sabme, 1) ∷ (Octets Heard, 3) ∷ [])) (Frames Begun Ua) ≡ 0
worked_none = refl

-- The greatest value stays.
worked_most : value_in (with_all none_counted ((Octets Heard, most - 2) ∷ (Octets Heard, 3) ∷ (Octets Heard, 1) ∷ [])) (Octets Heard) ≡ most
worked_most = refl
