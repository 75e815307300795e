-- Worked values: how soon N200 may be used up in a call, and a call that comes through once noise has ended. Each computes.
use Rattle.std.specs.Prelude.{◌≡◌, ℕ, [], ◌∷◌, ◌++◌, replicate, Some, refl}
use Rattle.std.proofs.Common.{arith}
use Rattle.model_bits.specs.Bits.{low_bits}
use Rattle.lapd_frame.specs.declared.notes.ErrorCode.TheVariants.{G}
use Rattle.lapd_frame.specs.declared.services.Service.TheVariants.{Call}
use Rattle.lapd_frame.specs.Reading.{reading, header_of, control_of, unnumbered_of, supervisory_of}
use Rattle.lapd_frame.specs.Senders.{exchanged, reading as read_by}
use Rattle.lapd_seq.specs.Circle.{distance_of, named}
use Rattle.lapd_seq.specs.Numbers.{seq}
use Rattle.model_teis.specs.network.Events as teis
use Rattle.model_line.specs.Machine as lines
use Rattle.model_card.specs.ports.Card as ports
use Rattle.laws_wire.specs.Worked.{user, network}
use Rattle.laws_time.specs.circuit.Answered.{state_at}
use Rattle.laws_time.specs.circuit.Arriving.{errors_at}
use Rattle.laws_time.specs.circuit.Clocked.{Clocked, plain, after, fall_due}
use Rattle.laws_time.specs.circuit.InCall.{IsShortAt}
use Rattle.laws_time.specs.circuit.LongEnough.{Line, begins}
use Rattle.laws_time.specs.circuit.Worked.{once, deaf, asks_deaf}

-- N200 is 1, T200 runs for so long, and the line is one of an octet a millisecond.
abbrev its_line : ℕ → Line
its_line t200 =
    record { near = once user; far = once network; near_line = 0; far_line = 0; tei = 0; service = Call; lengths = record { t200 = t200; t203 = 1000; t201 = 16; t202 = 32 }; far_lengths = record { t200 = t200; t203 = 1000; t201 = 16; t202 = 32 }; rate = 1; way = 0 }

-- Nothing comes through. After seven beats more than the call's no error is told; after the eighth error G is.
abbrev dead : ℕ → Clocked
dead n = after 1 (asks_deaf ∷ replicate n deaf) (begins (its_line 4))

is_short : IsShortAt (its_line 4) 7 (once user) (its_line 4).lengths
is_short = omega arith

not_short : IsShortAt (its_line 4) 8 (once user) (its_line 4).lengths → ⊥
not_short h = omega (arith, h)

none_told : errors_at (dead 7).near ≡ []
unfolding lines.after lines.answer lines.takes_slot exchanged read_by reading header_of control_of unnumbered_of supervisory_of teis.course teis.refusal seq distance_of named low_bits ports.after ports.answer ports.meant fall_due
none_told = refl

g_told : errors_at (dead 8).near ≡ G ∷ []
unfolding lines.after lines.answer lines.takes_slot exchanged read_by reading header_of control_of unnumbered_of supervisory_of teis.course teis.refusal seq distance_of named low_bits ports.after ports.answer ports.meant fall_due
g_told = refl

-- Noise ends after SABME has gone, and both ends are in state 7 once T200 has run, and the answer has come.
abbrev through : ℕ → Clocked
through n = after 1 (asks_deaf ∷ replicate 14 deaf ++ replicate n plain) (begins (its_line 16))

rings : state_at (its_line 16) (through 2).near ≡ Some 5
unfolding lines.after lines.answer lines.takes_slot exchanged read_by reading header_of control_of unnumbered_of supervisory_of teis.course teis.refusal seq distance_of named low_bits ports.after ports.answer ports.meant fall_due
rings = refl

up : state_at (its_line 16) (through 17).near ≡ Some 7
unfolding lines.after lines.answer lines.takes_slot exchanged read_by reading header_of control_of unnumbered_of supervisory_of teis.course teis.refusal seq distance_of named low_bits ports.after ports.answer ports.meant fall_due
up = refl

far_up : state_at (its_line 16) (through 17).far ≡ Some 7
unfolding lines.after lines.answer lines.takes_slot exchanged read_by reading header_of control_of unnumbered_of supervisory_of teis.course teis.refusal seq distance_of named low_bits ports.after ports.answer ports.meant fall_due
far_up = refl
