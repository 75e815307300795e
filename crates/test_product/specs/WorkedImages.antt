-- Worked values: parts of images that those of model_image leave out, and the image of a caller's clock. Each computes.
use Rattle.std.specs.Prelude.{◌≡◌, [], ◌∷◌, ◌++◌, replicate, None, Some, true, false, refl}
use Rattle.lapd_clock.specs.Image as clocks
use Rattle.lapd_clock.specs.Places.{in_order}
use Rattle.lapd_clock.specs.Timer.{T200, T203, T201, T202, Call, Packet}
use Rattle.lapd_clock.specs.Timers.{Timers}
use Rattle.lapd_count.specs.Counters.{most, none_counted, with_all}
use Rattle.lapd_count.specs.Image.{counters}
use Rattle.lapd_count.specs.declared.counter.Counter.TheVariants.{Frames, Octets, Lost, Messages}
use Rattle.lapd_count.specs.declared.counter.Way.TheVariants.{Heard, Begun}
use Rattle.lapd_count.specs.declared.kinds.Kind.TheVariants.{Sabme}
use Rattle.lapd_count.specs.declared.messages.MessageType.TheVariants as types
use Rattle.lapd_frame.specs.declared.addresses.Side.TheVariants.{User}
use Rattle.lapd_frame.specs.declared.readings.Reading.TheVariants.{AnnexB}
use Rattle.lapd_image.specs.Numbers.{number}
use Rattle.model_teis.specs.network.Image.{check as tei_check, management}
use Rattle.model_teis.specs.network.Machine.{Management}
use Rattle.model_teis.specs.declared.network.check.Period.TheVariants.{First, Settling}
use Rattle.model_teis.specs.declared.network.messages.Message.TheVariants.{IdentityAssigned, IdentityDenied, IdentityCheckRequest, IdentityRemove}
use Rattle.model_teis.specs.declared.terminal.messages.Message.TheVariants.{IdentityCheckResponse, IdentityVerify}
use Rattle.model_teis.specs.declared.terminal.procedure.Procedure.TheVariants.{Verifying}
use Rattle.model_line.specs.Image.{unit, own}
use Rattle.model_line.specs.Most.{most_octets}
use Rattle.model_line.specs.Line.{Own}
use Rattle.model_line.specs.Usual.{usual}
use Rattle.model_line.specs.declared.config.Config.{Config}

-- Unit data for the packet link of TEI 64; and 259 octets for all terminals.
of_packet : unit (record { service = Packet; tei = 64; contents = 0x0A ∷ 0x0B ∷ [] }) ≡ 129 ∷ 2 ∷ 0 ∷ 0x0A ∷ 0x0B ∷ []
unfolding number
of_packet = refl

of_group : unit (record { service = Call; tei = 127; contents = replicate 259 7 }) ≡ 254 ∷ 3 ∷ 1 ∷ replicate 259 7
unfolding number
of_group = refl

-- A terminal that verifies TEI 65 for the first time; its verify waits, after its answer to a check of TEI 64.
abbrev verifying : Own
verifying = record { number = 0x0203; procedure = Some (Verifying 65 1); waiting = IdentityCheckResponse 0x1234 64 ∷ IdentityVerify 65 ∷ [] }

verifying_image : own verifying ≡ 3 ∷ 2 ∷ 2 ∷ 1 ∷ 65 ∷ 2 ∷ 0x0F ∷ 0x12 ∷ 0x34 ∷ 5 ∷ 129 ∷ 0x0F ∷ 0 ∷ 0 ∷ 7 ∷ 131 ∷ []
unfolding number
verifying_image = refl

-- By annex B: TEI 65 is in the first period of a check, with a response in it, and checks of TEIs 64 and 66 are due. A message of
-- each kind waits.
abbrev checking : Management
checking = record {
  reading = AnnexB;
  places = Some 64 ∷ Some 65 ∷ None ∷ Some 66 ∷ [];
  remembered = [];
  check = Some (record { tei = 65; period = First; first = 1; second = 0 });
  to_check = true ∷ false ∷ false ∷ true ∷ [];
  waiting = IdentityAssigned 0x1234 66 ∷ IdentityDenied 0x0102 127 ∷ IdentityCheckRequest 65 ∷ IdentityRemove 67 ∷ [];
}

checking_image : management checking
    ≡ 0 ∷ 1 ∷ 65 ∷ 1 ∷ 0 ∷ 9 ∷ 4
    ∷ 0x0F ∷ 0x12 ∷ 0x34 ∷ 2 ∷ 133 ∷ 0x0F ∷ 1 ∷ 2 ∷ 3 ∷ 255 ∷ 0x0F ∷ 0 ∷ 0 ∷ 4 ∷ 131 ∷ 0x0F ∷ 0 ∷ 0 ∷ 6 ∷ 135 ∷ []
unfolding number
checking_image = refl

-- The check of TEI 66 settles.
settling_image : tei_check (Some (record { tei = 66; period = Settling; first = 0; second = 0 })) ≡ 3 ∷ 66 ∷ 0 ∷ 0 ∷ []
settling_image = refl

-- A SABME was heard, and 300 octets; two denials were begun; and so many frames were lost that the number stays.
counted_image : counters (with_all none_counted ((Frames Heard Sabme, 1) ∷ (Octets Heard, 300) ∷ (Lost, most) ∷ (Messages Begun types.IdentityDenied, 2) ∷ []))
    ≡ replicate 32 0 ++ 1 ∷ replicate 159 0 ++ 0x2C ∷ 0x01 ∷ replicate 318 0 ++ replicate 8 255 ++ replicate 72 0 ++ 2 ∷ replicate 39 0
unfolding number
counted_image = refl

-- A caller's clock for two lines of one terminal each: on the first T203 of the packet link of TEI 65 runs, and T201; on the
-- second T200 of the call control link of TEI 126, and T202.
abbrev ticking : Timers
ticking = record {
  lines = 2;
  places = 5;
  lengths = record { t200 = 1000; t203 = 10000; t201 = 1500; t202 = 3600000 };
  running = in_order (clocks.from_lists 0 (
      (record { moment = 10500; timer = T203 Packet 65 } ∷ record { moment = 4294967297; timer = T201 } ∷ [])
      ∷ (record { moment = 7; timer = T200 Call 126 } ∷ record { moment = 0; timer = T202 } ∷ [])
      ∷ []));
}

ticking_image : clocks.image ticking (
    (record { moment = 10500; timer = T203 Packet 65 } ∷ record { moment = 4294967297; timer = T201 } ∷ [])
    ∷ (record { moment = 7; timer = T200 Call 126 } ∷ record { moment = 0; timer = T202 } ∷ [])
    ∷ [])
    ≡ 76 ∷ 65 ∷ 80 ∷ 68 ∷ 1 ∷ 4 ∷ 2 ∷ 1
    ∷ 0xE8 ∷ 0x03 ∷ 0 ∷ 0 ∷ 0x10 ∷ 0x27 ∷ 0 ∷ 0 ∷ 0xDC ∷ 0x05 ∷ 0 ∷ 0 ∷ 0x80 ∷ 0xEE ∷ 0x36 ∷ 0
    ∷ 2 ∷ 1 ∷ 65 ∷ 1 ∷ 0x04 ∷ 0x29 ∷ 0 ∷ 0 ∷ 0 ∷ 0 ∷ 0 ∷ 0 ∷ 2 ∷ 0 ∷ 0 ∷ 1 ∷ 0 ∷ 0 ∷ 0 ∷ 1 ∷ 0 ∷ 0 ∷ 0
    ∷ 2 ∷ 0 ∷ 126 ∷ 0 ∷ 7 ∷ 0 ∷ 0 ∷ 0 ∷ 0 ∷ 0 ∷ 0 ∷ 0 ∷ 3 ∷ 0 ∷ 0 ∷ 0 ∷ 0 ∷ 0 ∷ 0 ∷ 0 ∷ 0 ∷ 0 ∷ 0 ∷ []
unfolding number
ticking_image = refl

ticking_octets : clocks.most_octets ticking ≡ 136
ticking_octets = refl

-- So many octets has the image of a card at most, of two lines of three terminals: with timers of its own and without; and if it is
-- a terminal.
abbrev two_lines : Config
two_lines = record usual { lines = 2; terminals = 3; k = 3; k16 = 5; queue = 6; unit_queue = 2; control = 3; slots = 10; n201 = 20 }

timed_octets : most_octets two_lines true ≡ 2170
timed_octets = refl

untimed_octets : most_octets two_lines false ≡ 1938
untimed_octets = refl

octets_of_terminal : most_octets (record two_lines { side = User; seed = Some 0 }) true ≡ 2146
octets_of_terminal = refl
