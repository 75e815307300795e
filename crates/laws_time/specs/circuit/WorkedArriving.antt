-- Worked values: a call on a line of an octet a millisecond, on which T200 is long enough. A content is sent, and its sender's queue has
-- each of its places again as it is acknowledged. Each computes.
use Rattle.std.specs.Prelude.{◌≡◌, false, List, [], ◌∷◌, ◌++◌, replicate, refl}
use Rattle.std.specs.List.{list_any}
use Rattle.std.proofs.Common.{arith}
use Rattle.lapd_frame.specs.declared.notes.ErrorCode.TheVariants.{C}
use Rattle.lapd_frame.specs.declared.services.Service.TheVariants.{Call}
use Rattle.lapd_frame.specs.Reading.{reading, header_of, control_of, unnumbered_of, supervisory_of}
use Rattle.lapd_frame.specs.Senders.{exchanged, reading as read_by}
use Rattle.lapd_seq.specs.Circle.{distance_of, named}
use Rattle.lapd_seq.specs.Numbers.{seq}
use Rattle.model_teis.specs.network.Events as teis
use Rattle.model_bits.specs.Bits.{low_bits}
use Rattle.model_line.specs.Machine as lines
use Rattle.model_line.specs.Request.{Data}
use Rattle.model_card.specs.ports.Card as ports
use Rattle.laws_time.specs.circuit.Arriving.{calls, errors_at, is_used_up, HasAllPlaces}
use Rattle.laws_time.specs.circuit.Clocked.{Clocked, Beat, plain, after, fall_due, contents_at}
use Rattle.laws_time.specs.circuit.LongEnough.{Line, IsFit, begins}
use Rattle.laws_time.specs.circuit.WorkedLongEnough.{line_with, fit}

-- An answer takes 714 octet times at most.
abbrev pub its_line : Line
its_line = line_with 1 0 715

pub is_fit : IsFit (line_with 1 0 715)
is_fit = fit 1 0 715 (omega arith) (omega arith) (omega arith) (omega arith)

abbrev pub sends : Beat
sends = record plain { near_asks = Data Call 0 (0xAB ∷ []) ∷ [] }

abbrev pub talks : List Beat
talks = replicate 15 plain ++ (sends ∷ replicate 20 plain)

abbrev pub talked : Clocked
talked = after 1 (calls its_line plain ∷ talks) (begins its_line)

pub none_used : list_any is_used_up (errors_at talked.near ++ errors_at talked.far) ≡ false
unfolding lines.after lines.answer lines.takes_slot exchanged read_by reading header_of control_of unnumbered_of supervisory_of teis.course teis.refusal seq distance_of named low_bits ports.after ports.answer ports.meant fall_due
none_used = refl

pub no_errors : errors_at talked.far ≡ []
unfolding lines.after lines.answer lines.takes_slot exchanged read_by reading header_of control_of unnumbered_of supervisory_of teis.course teis.refusal seq distance_of named low_bits ports.after ports.answer ports.meant fall_due
no_errors = refl

pub has_places : HasAllPlaces its_line talked.near
unfolding lines.after lines.answer lines.takes_slot exchanged read_by reading header_of control_of unnumbered_of supervisory_of teis.course teis.refusal seq distance_of named low_bits ports.after ports.answer ports.meant fall_due
has_places = (record { queue = 8; pool = 16; va = 1 }, refl, refl)

told_far : contents_at talked.far ≡ (0xAB ∷ []) ∷ []
unfolding lines.after lines.answer lines.takes_slot exchanged read_by reading header_of control_of unnumbered_of supervisory_of teis.course teis.refusal seq distance_of named low_bits ports.after ports.answer ports.meant fall_due
told_far = refl

-- Before that a place is taken.
abbrev pub not_yet : Clocked
not_yet = after 1 (calls its_line plain ∷ replicate 15 plain ++ (sends ∷ [])) (begins its_line)

one_taken : HasAllPlaces its_line not_yet.near → ⊥
unfolding lines.after lines.answer lines.takes_slot exchanged read_by reading header_of control_of unnumbered_of supervisory_of teis.course teis.refusal seq distance_of named low_bits ports.after ports.answer ports.meant fall_due
one_taken (left, has, free) = cc (has, free)

-- T200 of 10 milliseconds is too short: SABME goes again before its UA has come, so that a second UA comes, and error C is told.
abbrev pub short_line : Line
short_line = line_with 1 0 10

abbrev pub impatient : Clocked
impatient = after 1 (calls short_line plain ∷ replicate 30 plain) (begins short_line)

told_c : errors_at impatient.near ≡ C ∷ []
unfolding lines.after lines.answer lines.takes_slot exchanged read_by reading header_of control_of unnumbered_of supervisory_of teis.course teis.refusal seq distance_of named low_bits ports.after ports.answer ports.meant fall_due
told_c = refl
