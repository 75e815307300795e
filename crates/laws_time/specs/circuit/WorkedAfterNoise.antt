-- Worked values: noise that makes a frame, and the frame that is put on the line after it. Each computes.
use Rattle.std.specs.Prelude.{◌≡◌, ℕ, List, [], ◌∷◌, map, replicate, Some, refl}
use Rattle.lapd_clock.specs.Timer.{Lengths}
use Rattle.lapd_frame.specs.declared.services.Service.TheVariants.{Call}
use Rattle.lapd_frame.specs.Reading.{reading, header_of, control_of, unnumbered_of, supervisory_of}
use Rattle.lapd_frame.specs.Senders.{exchanged, reading as read_by}
use Rattle.lapd_seq.specs.Circle.{distance_of, named}
use Rattle.lapd_seq.specs.Numbers.{seq}
use Rattle.model_teis.specs.network.Events as teis
use Rattle.model_bits.specs.Bits.{low_bits}
use Rattle.model_bits.specs.Stream as stream
use Rattle.model_line.specs.Machine as lines
use Rattle.model_line.specs.Request.{Establish}
use Rattle.model_card.specs.ports.Card as ports
use Rattle.laws_order.specs.circuit.Circuit.{port_of}
use Rattle.laws_wire.specs.Worked.{user, network}
use Rattle.laws_time.specs.circuit.AfterNoise.{put_since}
use Rattle.laws_time.specs.circuit.Answered.{begun}
use Rattle.laws_time.specs.circuit.Clocked.{TimedEndpoint, Clocked, Beat, plain, after, fall_due}
use Rattle.laws_time.specs.circuit.LongEnough.{Line, begins}

-- An octet a millisecond, none in transit.
abbrev lengths : Lengths
lengths = record { t200 = 200; t203 = 1000; t201 = 200; t202 = 400 }

abbrev its_line : Line
its_line = record { near = user; far = network; near_line = 0; far_line = 0; tei = 0; service = Call; lengths = lengths; far_lengths = lengths; rate = 1; way = 0 }

abbrev heard : TimedEndpoint → List stream.Event
heard s = stream.heard_in its_line.near.n201 (port_of s.at).received

-- Noise makes a frame of the idle flags that the near end sends.
abbrev disturbed : ℕ → Beat
disturbed value = record plain { far_noise = Some value }

abbrev noisy : List Beat
noisy = map disturbed (0x7E ∷ 0x00 ∷ 0x81 ∷ 0xEF ∷ 0x50 ∷ 0xB1 ∷ 0xFD ∷ 0xFC ∷ [])

abbrev from : Clocked
from = begun its_line noisy plain

pub made : heard from.far ≡ stream.frame (0x00 ∷ 0x81 ∷ 0x7F ∷ []) ∷ []
unfolding lines.after lines.answer lines.takes_slot exchanged read_by reading header_of control_of unnumbered_of supervisory_of teis.course teis.refusal seq distance_of named low_bits ports.after ports.answer ports.meant fall_due
made = refl

-- After the first beat without noise the user's layer 3 asks for the establishment. So SABME is put on the line, and seven beats later it is received.
abbrev asks : Beat
asks = record plain { near_asks = Establish Call 0 ∷ [] }

abbrev then : Clocked
then = after 1 (asks ∷ []) from

pub put : put_since from.near then.near ≡ (0x00 ∷ 0x01 ∷ 0x7F ∷ []) ∷ []
unfolding lines.after lines.answer lines.takes_slot exchanged read_by reading header_of control_of unnumbered_of supervisory_of teis.course teis.refusal seq distance_of named low_bits ports.after ports.answer ports.meant fall_due
put = refl

pub received : heard (after 1 (replicate 6 plain) then).far ≡ stream.frame (0x00 ∷ 0x81 ∷ 0x7F ∷ []) ∷ stream.frame (0x00 ∷ 0x01 ∷ 0x7F ∷ []) ∷ []
unfolding lines.after lines.answer lines.takes_slot exchanged read_by reading header_of control_of unnumbered_of supervisory_of teis.course teis.refusal seq distance_of named low_bits ports.after ports.answer ports.meant fall_due
received = refl

-- The flag before a frame may go an octet time earlier. If noise takes it, SABME is lost, though it is put on the line in the first beat without noise.
abbrev flag_lost : Clocked
flag_lost = after 1 (disturbed 0x55 ∷ asks ∷ replicate 6 plain) (begins its_line)

pub lost : heard flag_lost.far ≡ []
unfolding lines.after lines.answer lines.takes_slot exchanged read_by reading header_of control_of unnumbered_of supervisory_of teis.course teis.refusal seq distance_of named low_bits ports.after ports.answer ports.meant fall_due
lost = refl
