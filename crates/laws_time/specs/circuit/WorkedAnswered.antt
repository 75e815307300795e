-- Worked values: SABME and an enquiry are answered, and how long the law allows. Each computes.
use Rattle.std.specs.Prelude.{◌≡◌, List, [], ◌∷◌, ◌++◌, replicate, Some, refl}
use Rattle.model_bits.specs.Bits.{low_bits}
use Rattle.lapd_frame.specs.declared.services.Service.TheVariants.{Call}
use Rattle.lapd_frame.specs.Reading.{reading, header_of, control_of, unnumbered_of, supervisory_of}
use Rattle.lapd_frame.specs.Senders.{exchanged, reading as read_by}
use Rattle.lapd_seq.specs.Circle.{distance_of, named}
use Rattle.lapd_seq.specs.Numbers.{seq}
use Rattle.model_teis.specs.network.Events as teis
use Rattle.model_line.specs.declared.config.Config.{Config}
use Rattle.model_line.specs.Machine as lines
use Rattle.model_card.specs.ports.Card as ports
use Rattle.laws_wire.specs.Worked as wire
use Rattle.laws_time.specs.circuit.Clocked.{Beat, plain, after, fall_due}
use Rattle.laws_time.specs.circuit.LongEnough.{Line, answered_in, begins}
use Rattle.laws_time.specs.circuit.Answered.{ComesToEnquire, state_at, lost_at}
use Rattle.laws_time.specs.circuit.Worked.{asks, calls}

-- An octet a millisecond, none in transit, eight octets in a content at most and two control frames: an answer takes 72 octet times at
-- most. T203 runs for 20 milliseconds.
abbrev small : Config → Config
small c = record c { control = 2; n201 = 8 }

abbrev pub its_line : Line
its_line = record {
  near = small wire.user;
  far = small wire.network;
  near_line = 0;
  far_line = 0;
  tei = 0;
  service = Call;
  lengths = record { t200 = 73; t203 = 20; t201 = 73; t202 = 146 };
  far_lengths = record { t200 = 73; t203 = 20; t201 = 73; t202 = 146 };
  rate = 1;
  way = 0;
}

at_most : answered_in its_line.near its_line.far its_line.way ≡ 72
at_most = refl

-- SABME is answered within 16 beats.
establishes : state_at its_line (after 1 (asks ∷ []) (begins its_line)).near ≡ Some 5
unfolding lines.after lines.answer lines.takes_slot exchanged read_by reading header_of control_of unnumbered_of supervisory_of teis.course teis.refusal seq distance_of named low_bits ports.after ports.answer ports.meant fall_due
establishes = refl

established : state_at its_line (after 1 calls (begins its_line)).near ≡ Some 7
unfolding lines.after lines.answer lines.takes_slot exchanged read_by reading header_of control_of unnumbered_of supervisory_of teis.course teis.refusal seq distance_of named low_bits ports.after ports.answer ports.meant fall_due
established = refl

-- T203 falls due 33 beats after the call began; the enquiry is answered within 18.
abbrev up : List Beat
up = calls ++ replicate 17 plain

was_up : state_at its_line (after 1 up (begins its_line)).near ≡ Some 7
unfolding lines.after lines.answer lines.takes_slot exchanged read_by reading header_of control_of unnumbered_of supervisory_of teis.course teis.refusal seq distance_of named low_bits ports.after ports.answer ports.meant fall_due
was_up = refl

enquires : state_at its_line (after 1 (up ++ plain ∷ []) (begins its_line)).near ≡ Some 8
unfolding lines.after lines.answer lines.takes_slot exchanged read_by reading header_of control_of unnumbered_of supervisory_of teis.course teis.refusal seq distance_of named low_bits ports.after ports.answer ports.meant fall_due
enquires = refl

answered : state_at its_line (after 1 (up ++ replicate 18 plain) (begins its_line)).near ≡ Some 7
unfolding lines.after lines.answer lines.takes_slot exchanged read_by reading header_of control_of unnumbered_of supervisory_of teis.course teis.refusal seq distance_of named low_bits ports.after ports.answer ports.meant fall_due
answered = refl

none_lost : lost_at (after 1 (up ++ replicate 18 plain) (begins its_line)).near ≡ 0
unfolding lines.after lines.answer lines.takes_slot exchanged read_by reading header_of control_of unnumbered_of supervisory_of teis.course teis.refusal seq distance_of named low_bits ports.after ports.answer ports.meant fall_due
none_lost = refl

-- The premises of the law are met: an end comes to state 8 after a plain beat, and three more follow.
abbrev pub before : List Beat
before = calls ++ replicate 16 plain

abbrev pub AnEnquiryIsMet : Type 0
AnEnquiryIsMet = ComesToEnquire its_line before plain (replicate 3 plain)
