-- Worked values: T200 is long enough, and falls due while an answer is to come, as a premise of the law is not met. Each computes.
use Rattle.std.specs.Prelude.{◌≡◌, ℕ, true, List, [], ◌∷◌, ◌++◌, length, map, replicate, Some, refl}
use Rattle.std.proofs.Common.{arith}
use Rattle.model_bits.specs.Bits.{low_bits}
use Rattle.model_bits.specs.Stream as stream
use Rattle.lapd_clock.specs.Timer.{T200}
use Rattle.lapd_frame.specs.declared.addresses.Side.TheVariants.{User}
use Rattle.lapd_frame.specs.declared.services.Service.TheVariants.{Call}
use Rattle.lapd_frame.specs.Reading.{reading, header_of, control_of, unnumbered_of, supervisory_of}
use Rattle.lapd_frame.specs.Senders.{exchanged, reading as read_by}
use Rattle.lapd_seq.specs.Circle.{distance_of, named}
use Rattle.lapd_seq.specs.Numbers.{seq}
use Rattle.model_teis.specs.network.Events as teis
use Rattle.model_line.specs.Machine as lines
use Rattle.model_line.specs.Request.{Request, Establish, Unit}
use Rattle.model_line.specs.Config.{sapi_fault}
use Rattle.model_line.specs.declared.config.Config.{Config}
use Rattle.model_line.specs.Usual.{least}
use Rattle.model_card.specs.Card.{state}
use Rattle.model_card.specs.ports.Card as ports
use Rattle.model_card.specs.ports.Port.{gained}
use Rattle.model_timed.specs.Clock.{due}
use Rattle.laws_wire.specs.Timely.{is_poll, is_final}
use Rattle.laws_order.specs.circuit.Circuit.{port_of}
use Rattle.laws_time.specs.circuit.Clocked.{Clocked, TimedEndpoint, Beat, plain, after, fall_due}
use Rattle.laws_time.specs.circuit.LongEnough.{Line, IsFit, IsLongEnough, begins, asked, pulling, is_of}

abbrev network : Config
network = record least { unit_queue = 8; slots = 8; n200 = 3 }

abbrev user : Config
user = record network { side = User }

-- An octet a millisecond, none in transit: an answer takes 72 octet times at most, and T200 runs for 73 milliseconds.
abbrev its_line : Line
its_line = record { near = user; far = network; near_line = 0; far_line = 0; tei = 0; service = Call; lengths = record { t200 = 73; t203 = 10000; t201 = 1000; t202 = 2000 }; far_lengths = record { t200 = 73; t203 = 10000; t201 = 1000; t202 = 2000 }; rate = 1; way = 0 }

fit : IsFit its_line
unfolding sapi_fault
fit = record {
  call = record { near = (refl, omega arith); far = (refl, omega arith); opposite = (refl, refl); terminal = omega arith };
  some = omega arith;
  lengths = (record { t200 = omega arith; t203 = omega arith; t201 = omega arith; t202 = omega arith; t200_most = omega arith; t203_most = omega arith; t201_most = omega arith; t202_most = omega arith }, record { t200 = omega arith; t203 = omega arith; t201 = omega arith; t202 = omega arith; t200_most = omega arith; t203_most = omega arith; t201_most = omega arith; t202_most = omega arith });
  t200 = (omega arith, omega arith);
}

-- SABME is lost, and noise makes one: it ends in the seventieth octet, and its UA goes as T200 falls due.
abbrev disturbed : ℕ → Beat
disturbed value = record plain { far_noise = Some value }

abbrev forged : List Beat
forged =
    record (disturbed 0x7E) { near_asks = Establish Call 0 ∷ [] } ∷ replicate 8 (disturbed 0x7E) ++ replicate 53 plain
    ++ map disturbed (0x7E ∷ 0x00 ∷ 0x01 ∷ 0xDF ∷ 0xC8 ∷ 0xA8 ∷ 0xFC ∷ 0xFC ∷ []) ++ replicate 3 plain

abbrev then : Clocked
then = after 1 forged (begins its_line)

abbrev its_end : TimedEndpoint
its_end = fall_due 0 (asked 73 [] then.near)

falls_due : due its_end.clock ≡ Some (record { moment = 73; line = 0; timer = T200 Call 0 })
unfolding lines.after lines.answer lines.takes_slot exchanged read_by reading header_of control_of unnumbered_of supervisory_of teis.course teis.refusal seq distance_of named low_bits ports.after ports.answer ports.meant fall_due
falls_due = refl

in_5 : state its_end.at.line Call 0 its_end.at.card.card ≡ Some 5
unfolding lines.after lines.answer lines.takes_slot exchanged read_by reading header_of control_of unnumbered_of supervisory_of teis.course teis.refusal seq distance_of named low_bits ports.after ports.answer ports.meant fall_due
in_5 = refl

abbrev before : List ℕ
before = replicate 70 0x7E ++ (0x00 ∷ 0x01 ∷ 0x73 ∷ 0x08 ∷ 0x9E ∷ [])

goes : (port_of (pulling 3 then.far.at)).given ≡ before ++ 0x7E ∷ []
unfolding lines.after lines.answer lines.takes_slot exchanged read_by reading header_of control_of unnumbered_of supervisory_of teis.course teis.refusal seq distance_of named low_bits ports.after ports.answer ports.meant fall_due pulling
goes = refl

heard : gained 8 before 0x7E ≡ Some (stream.frame (0x00 ∷ 0x01 ∷ 0x73 ∷ []))
unfolding low_bits
heard = refl

answers : is_of is_final network (0x00 ∷ 0x01 ∷ 0x73 ∷ []) ≡ true
unfolding exchanged read_by reading header_of control_of unnumbered_of supervisory_of
answers = refl

received : length (port_of its_end.at).received ≡ 73
unfolding lines.after lines.answer lines.takes_slot exchanged read_by reading header_of control_of unnumbered_of supervisory_of teis.course teis.refusal seq distance_of named low_bits ports.after ports.answer ports.meant fall_due
received = refl

answer_to_come : IsLongEnough its_line user network its_end then.far → ⊥
answer_to_come long =
    let early = (long (record { moment = 73; line = 0; timer = T200 Call 0 }) 5 falls_due refl in_5 refl).1 3 before 0x7E [] (0x00 ∷ 0x01 ∷ 0x73 ∷ []) goes heard answers in omega (arith, early, received)

-- Five unit data go before SABME.
abbrev unit : Request
unit = Unit Call 0 (replicate 8 0xFF)

abbrev units : List Beat
units = record plain { near_asks = unit ∷ unit ∷ unit ∷ unit ∷ unit ∷ Establish Call 0 ∷ [] } ∷ replicate 72 plain

abbrev last : Clocked
last = after 1 units (begins its_line)

abbrev late_end : TimedEndpoint
late_end = fall_due 0 (asked 73 [] last.near)

late_due : due late_end.clock ≡ Some (record { moment = 73; line = 0; timer = T200 Call 0 })
unfolding lines.after lines.answer lines.takes_slot exchanged read_by reading header_of control_of unnumbered_of supervisory_of teis.course teis.refusal seq distance_of named low_bits ports.after ports.answer ports.meant fall_due
late_due = refl

late_5 : state late_end.at.line Call 0 late_end.at.card.card ≡ Some 5
unfolding lines.after lines.answer lines.takes_slot exchanged read_by reading header_of control_of unnumbered_of supervisory_of teis.course teis.refusal seq distance_of named low_bits ports.after ports.answer ports.meant fall_due
late_5 = refl

abbrev given_then : List ℕ
given_then =
    0x7E ∷ 0x00 ∷ 0x01 ∷ 0x03 ∷ 0xDF ∷ 0xF7 ∷ 0x7D ∷ 0xDF ∷ 0xF7 ∷ 0x7D ∷ 0xDF ∷ 0xF7 ∷ 0x7D ∷ 0x1F ∷ 0x52 ∷ 0xCE ∷ 0x0F ∷ 0x20 ∷ 0x60 ∷ 0xE0 ∷ 0xFB ∷ 0xBE ∷ 0xEF ∷ 0xFB ∷ 0xBE
    ∷ 0xEF ∷ 0xFB ∷ 0xBE ∷ 0xEF ∷ 0x43 ∷ 0xCA ∷ 0xF9 ∷ 0x01 ∷ 0x04 ∷ 0x0C ∷ 0x7C ∷ 0xDF ∷ 0xF7 ∷ 0x7D ∷ 0xDF ∷ 0xF7 ∷ 0x7D ∷ 0xDF ∷ 0xF7 ∷ 0x7D ∷ 0x48 ∷ 0x39 ∷ 0x3F ∷ 0x80 ∷ 0x80
    ∷ 0x81 ∷ 0xEF ∷ 0xFB ∷ 0xBE ∷ 0xEF ∷ 0xFB ∷ 0xBE ∷ 0xEF ∷ 0xFB ∷ 0xBE ∷ 0x0F ∷ 0x29 ∷ 0xE7 ∷ 0x07 ∷ 0x10 ∷ 0x30 ∷ 0xF0 ∷ 0x7D ∷ 0xDF ∷ 0xF7 ∷ 0x7D ∷ 0xDF ∷ 0xF7 ∷ 0x7D ∷ 0xDF
    ∷ 0xF7 ∷ 0x21 ∷ 0xE5 ∷ 0xFC ∷ 0x00 ∷ 0x02 ∷ 0xBE ∷ 0x91 ∷ 0x51 ∷ 0xF9 ∷ []

late_goes : (port_of (pulling 13 late_end.at)).given ≡ given_then ++ 0xF9 ∷ []
unfolding lines.after lines.answer lines.takes_slot exchanged read_by reading header_of control_of unnumbered_of supervisory_of teis.course teis.refusal seq distance_of named low_bits ports.after ports.answer ports.meant fall_due pulling
late_goes = refl

late_heard : gained 8 given_then 0xF9 ≡ Some (stream.frame (0x00 ∷ 0x01 ∷ 0x7F ∷ []))
unfolding low_bits
late_heard = refl

late_asks : is_of is_poll user (0x00 ∷ 0x01 ∷ 0x7F ∷ []) ≡ true
unfolding exchanged read_by reading header_of control_of unnumbered_of supervisory_of
late_asks = refl

late_received : length (port_of last.far.at).received ≡ 73
unfolding lines.after lines.answer lines.takes_slot exchanged read_by reading header_of control_of unnumbered_of supervisory_of teis.course teis.refusal seq distance_of named low_bits ports.after ports.answer ports.meant fall_due
late_received = refl

command_to_go : IsLongEnough its_line user network late_end last.far → ⊥
command_to_go long =
    let early = (long (record { moment = 73; line = 0; timer = T200 Call 0 }) 5 late_due refl late_5 refl).0 13 given_then 0xF9 [] (0x00 ∷ 0x01 ∷ 0x7F ∷ []) late_goes late_heard late_asks in omega (arith, early, late_received)
