-- Worked values: how long an answer takes at most, which T200 is long enough, and what becomes of one that is not. Each computes.
use Rattle.std.specs.Prelude.{◌≡◌, ◌≤◌, ℕ, ◌+◌, ◌*◌, true, [], ◌∷◌, ◌++◌, length, Some, refl}
use Rattle.std.proofs.Common.{arith}
use Rattle.model_bits.specs.Bits.{low_bits}
use Rattle.model_bits.specs.Stream as stream
use Rattle.lapd_clock.specs.Timer.{T200}
use Rattle.lapd_frame.specs.declared.services.Service.TheVariants.{Call}
use Rattle.lapd_frame.specs.Reading.{reading, header_of, control_of, unnumbered_of, supervisory_of}
use Rattle.lapd_frame.specs.Senders.{exchanged, reading as read_by}
use Rattle.lapd_seq.specs.Circle.{distance_of, named}
use Rattle.lapd_seq.specs.Numbers.{seq}
use Rattle.model_teis.specs.network.Events as teis
use Rattle.model_line.specs.Machine as lines
use Rattle.model_card.specs.Card.{state}
use Rattle.model_card.specs.ports.Card as ports
use Rattle.model_card.specs.ports.Port.{gained}
use Rattle.model_timed.specs.Clock.{due}
use Rattle.laws_wire.specs.Worked.{user, network}
use Rattle.laws_wire.specs.Timely.{is_poll}
use Rattle.laws_order.specs.circuit.Circuit.{port_of}
use Rattle.laws_time.specs.circuit.Clocked.{Clocked, TimedEndpoint, after, fall_due}
use Rattle.laws_time.specs.circuit.Worked.{asks}
use Rattle.laws_time.specs.circuit.LongEnough.{Line, IsFit, IsLongEnough, answered_in, begins, asked, is_of}
use Rattle.model_line.specs.Config.{sapi_fault}
unfoldable use Rattle.laws_time.specs.circuit.LongEnough.{pulling}

-- A line of so many octets a millisecond, with so many in transit each way, on which each timer runs so long.
abbrev pub line_with : ℕ → ℕ → ℕ → Line
line_with rate way t200 =
    record { near = user; far = network; near_line = 0; far_line = 0; tei = 0; service = Call; lengths = record { t200 = t200; t203 = 10000; t201 = 1000; t202 = 2000 }; far_lengths = record { t200 = t200; t203 = 10000; t201 = 1000; t202 = 2000 }; rate = rate; way = way }

-- At 16 kbit/s with 4 octets in transit an answer takes 722 octet times at most, which are 361 ms; at 64 kbit/s with 16 it takes 746.
basic_rate : answered_in user network 4 ≡ 722
basic_rate = refl

primary_rate : answered_in user network 16 ≡ 746
primary_rate = refl

-- So T200 is long enough from 362 ms on, and from 95 ms on.
pub fit : (rate way t200 : ℕ) → 1 ≤ rate → 1 ≤ t200 → t200 ≤ 3600000 → answered_in user network way + rate ≤ (line_with rate way t200).lengths.t200 * rate → IsFit (line_with rate way t200)
unfolding sapi_fault
fit rate way t200 some least most long = record {
  call = record { near = (refl, omega arith); far = (refl, omega arith); opposite = (refl, refl); terminal = omega arith };
  some = some;
  lengths = (record { t200 = least; t203 = omega arith; t201 = omega arith; t202 = omega arith; t200_most = most; t203_most = omega arith; t201_most = omega arith; t202_most = omega arith }, record { t200 = least; t203 = omega arith; t201 = omega arith; t202 = omega arith; t200_most = most; t203_most = omega arith; t201_most = omega arith; t202_most = omega arith });
  t200 = (long, long);
}

basic_fit : IsFit (line_with 2 4 362)
basic_fit = fit 2 4 362 (omega arith) (omega arith) (omega arith) (omega arith)

basic_not : IsFit (line_with 2 4 361) → ⊥
basic_not h = omega (arith, h.t200.0)

primary_fit : IsFit (line_with 8 16 95)
primary_fit = fit 8 16 95 (omega arith) (omega arith) (omega arith) (omega arith)

primary_not : IsFit (line_with 8 16 94) → ⊥
primary_not h = omega (arith, h.t200.0)

-- T200 of a millisecond: it falls due at 1, in state 5, while SABME is under way. Its last octet is the eighth, and one was received.
abbrev too_short : Line
too_short = line_with 1 0 1

abbrev then : Clocked
then = after 1 (asks ∷ []) (begins too_short)

abbrev its_end : TimedEndpoint
its_end = fall_due 0 (asked 1 [] then.near)

falls_due : due its_end.clock ≡ Some (record { moment = 1; line = 0; timer = T200 Call 0 })
unfolding lines.after lines.answer lines.takes_slot exchanged read_by reading header_of control_of unnumbered_of supervisory_of teis.course teis.refusal seq distance_of named low_bits ports.after ports.answer ports.meant fall_due
falls_due = refl

in_5 : state its_end.at.line Call 0 its_end.at.card.card ≡ Some 5
unfolding lines.after lines.answer lines.takes_slot exchanged read_by reading header_of control_of unnumbered_of supervisory_of teis.course teis.refusal seq distance_of named low_bits ports.after ports.answer ports.meant fall_due
in_5 = refl

goes : (port_of (pulling 7 its_end.at)).given ≡ (0x7E ∷ 0x00 ∷ 0x01 ∷ 0xDF ∷ 0xC8 ∷ 0xA8 ∷ 0xFC ∷ []) ++ 0xFC ∷ []
unfolding lines.after lines.answer lines.takes_slot exchanged read_by reading header_of control_of unnumbered_of supervisory_of teis.course teis.refusal seq distance_of named low_bits ports.after ports.answer ports.meant fall_due pulling
goes = refl

heard : gained 260 (0x7E ∷ 0x00 ∷ 0x01 ∷ 0xDF ∷ 0xC8 ∷ 0xA8 ∷ 0xFC ∷ []) 0xFC ≡ Some (stream.frame (0x00 ∷ 0x01 ∷ 0x7F ∷ []))
unfolding low_bits
heard = refl

asks_for_ua : is_of is_poll user (0x00 ∷ 0x01 ∷ 0x7F ∷ []) ≡ true
unfolding exchanged read_by reading header_of control_of unnumbered_of supervisory_of
asks_for_ua = refl

received : length (port_of then.far.at).received ≡ 1
unfolding lines.after lines.answer lines.takes_slot exchanged read_by reading header_of control_of unnumbered_of supervisory_of teis.course teis.refusal seq distance_of named low_bits ports.after ports.answer ports.meant fall_due
received = refl

not_long_enough : IsLongEnough too_short user network its_end then.far → ⊥
not_long_enough long =
    let early = (long (record { moment = 1; line = 0; timer = T200 Call 0 }) 5 falls_due refl in_5 refl).0 7 (0x7E ∷ 0x00 ∷ 0x01 ∷ 0xDF ∷ 0xC8 ∷ 0xA8 ∷ 0xFC ∷ []) 0xFC [] (0x00 ∷ 0x01 ∷ 0x7F ∷ []) goes heard asks_for_ua in
    omega (arith, early, received)
