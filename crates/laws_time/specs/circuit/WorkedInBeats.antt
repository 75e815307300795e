-- Worked values: how many beats are enough for a call, and what comes of one if noise takes its SABME. Each computes.
use Rattle.std.specs.Prelude.{◌≡◌, ℕ, ◌+◌, ◌*◌, false, List, [], ◌∷◌, ◌++◌, replicate, Some, refl}
use Rattle.lapd_clock.specs.Timer.{T203}
use Rattle.lapd_frame.specs.declared.addresses.Side.TheVariants.{User}
use Rattle.lapd_frame.specs.declared.services.Service.TheVariants.{Call}
use Rattle.lapd_frame.specs.Reading.{reading, header_of, control_of, unnumbered_of, supervisory_of}
use Rattle.lapd_frame.specs.Senders.{exchanged, reading as read_by}
use Rattle.lapd_seq.specs.Circle.{distance_of, named}
use Rattle.lapd_seq.specs.Numbers.{seq}
use Rattle.model_teis.specs.network.Events as teis
use Rattle.model_bits.specs.Bits.{low_bits}
use Rattle.model_line.specs.Machine as lines
use Rattle.model_line.specs.Request.{Data}
use Rattle.model_line.specs.declared.config.Config.{Config}
use Rattle.model_line.specs.Usual.{least}
use Rattle.model_card.specs.ports.Card as ports
use Rattle.model_timed.specs.Clock.{Clock}
use Rattle.laws_order.specs.circuit.Beats.{enough_beats, longest}
use Rattle.laws_time.specs.circuit.Arriving.{calls}
use Rattle.laws_time.specs.circuit.Clocked.{Clocked, Beat, plain, after, fall_due}
use Rattle.laws_time.specs.circuit.InBeats.{granted_in}
use Rattle.laws_time.specs.circuit.LongEnough.{Line, begins}

-- At 16 kbit/s with 4 octets in transit a call is established within 646 ms. At 64 kbit/s with 16 it is, and five contents are told, within
-- 987 ms: so no T200 of a second falls due.
basic_rate : enough_beats 260 4 false 0 ≡ 1292
basic_rate = refl

primary_rate : enough_beats 260 16 false 5 ≡ 7896
primary_rate = refl

-- If no content has more than 40 octets, five are told within 767 ms at 16 kbit/s, too.
short_contents : (3 + 2 * 5) * (longest 40 + (longest 40 + 4)) ≡ 1534
short_contents = refl

abbrev pub network : Config
network = record least { slots = 4; n200 = 3 }

abbrev pub user : Config
user = record network { side = User }

-- An octet a millisecond, none in transit. So 72 beats are enough for the establishment, and 144 if one content is granted.
abbrev pub its_line : Line
its_line =
    record { near = user; far = network; near_line = 0; far_line = 0; tei = 0; service = Call; lengths = record { t200 = 200; t203 = 10000; t201 = 1000; t202 = 2000 }; far_lengths = record { t200 = 200; t203 = 10000; t201 = 1000; t202 = 2000 }; rate = 1; way = 0 }

enough_for_one : enough_beats 8 0 false 1 ≡ 144
enough_for_one = refl

-- One is granted in a call; the last request is in its seventeenth beat.
abbrev pub talks : List Beat
talks = replicate 15 plain ++ (record plain { near_asks = Data Call 0 (0xAB ∷ []) ∷ [] } ∷ [])

pub one_granted : granted_in (after 1 (calls its_line plain ∷ talks) (begins its_line)) ≡ 1
unfolding lines.after lines.answer lines.takes_slot exchanged read_by reading header_of control_of unnumbered_of supervisory_of teis.course teis.refusal seq distance_of named low_bits ports.after ports.answer ports.meant fall_due
one_granted = refl

-- If only flags come to the other end at first, SABME is lost. After 72 beats more nothing is told, and no timer has fallen due.
abbrev deaf : Beat
deaf = record plain { far_noise = Some 0x7E }

not_yet : (after 1 (calls its_line deaf ∷ replicate 11 deaf ++ replicate 61 plain) (begins its_line)).near.at.told ≡ []
unfolding lines.after lines.answer lines.takes_slot exchanged read_by reading header_of control_of unnumbered_of supervisory_of teis.course teis.refusal seq distance_of named low_bits ports.after ports.answer ports.meant fall_due
not_yet = refl

-- After twenty beats of the call the link is at rest.
abbrev pub rested : Clocked
rested = after 1 (calls its_line plain ∷ replicate 19 plain) (begins its_line)

-- Then 72 beats are enough for a content, and no timer falls due in the next 73: T203 at either end runs until later.
abbrev pub runs_until : ℕ → Clock
runs_until moment = record { lengths = its_line.lengths; running = record { moment = moment; line = 0; timer = T203 Call 0 } ∷ []; now = 19 }

pub near_clock : rested.near.clock ≡ runs_until 10013
unfolding lines.after lines.answer lines.takes_slot exchanged read_by reading header_of control_of unnumbered_of supervisory_of teis.course teis.refusal seq distance_of named low_bits ports.after ports.answer ports.meant fall_due
near_clock = refl

pub far_clock : rested.far.clock ≡ runs_until 10007
unfolding lines.after lines.answer lines.takes_slot exchanged read_by reading header_of control_of unnumbered_of supervisory_of teis.course teis.refusal seq distance_of named low_bits ports.after ports.answer ports.meant fall_due
far_clock = refl
