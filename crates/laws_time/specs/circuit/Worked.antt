-- Worked values: a card of the user's side calls one of the network's on a line of an octet a millisecond. Each computes.
use Rattle.std.specs.Prelude.{◌≡◌, ℕ, List, [], ◌∷◌, ◌++◌, map, replicate, Some, refl}
use Rattle.lapd_clock.specs.Timer.{Lengths}
use Rattle.lapd_frame.specs.declared.notes.Note.TheVariants.{Error, ReleaseIndication}
use Rattle.lapd_frame.specs.declared.notes.ErrorCode.TheVariants.{G}
use Rattle.lapd_frame.specs.declared.services.Service.TheVariants.{Call}
use Rattle.lapd_frame.specs.Reading.{reading, header_of, control_of, unnumbered_of, supervisory_of}
use Rattle.lapd_frame.specs.Senders.{exchanged, reading as read_by}
use Rattle.lapd_seq.specs.Circle.{distance_of, named}
use Rattle.lapd_seq.specs.Numbers.{seq}
use Rattle.model_teis.specs.network.Events as teis
use Rattle.model_bits.specs.Bits.{low_bits}
use Rattle.model_line.specs.declared.config.Config.{Config}
use Rattle.model_bits.specs.declared.heard.Cause.TheVariants.{Tei}
use Rattle.model_line.specs.Event.{dropped}
use Rattle.model_line.specs.Machine as lines
use Rattle.model_line.specs.Request.{Establish, Data}
use Rattle.model_card.specs.ports.Card as ports
use Rattle.laws_wire.specs.Call.{confirmed}
use Rattle.laws_wire.specs.Worked.{user, network}
use Rattle.laws_time.specs.circuit.Clocked.{Clocked, Beat, plain, after, endpoint, fall_due, notes_at, contents_at}

abbrev pub lengths : Lengths
lengths = record { t200 = 16; t203 = 1000; t201 = 16; t202 = 32 }

abbrev pub begins : Clocked
begins = record { near = endpoint user 0 lengths 0 0; far = endpoint network 0 lengths 0 0; beats = 0 }

-- The user's layer 3 asks in the first beat, and the call is established sixteen beats later.
abbrev pub asks : Beat
asks = record plain { near_asks = Establish Call 0 ∷ [] }

abbrev pub calls : List Beat
calls = asks ∷ replicate 15 plain

called : (after 1 calls begins).near.at.told ≡ confirmed Call 0 ∷ []
unfolding lines.after lines.answer lines.takes_slot exchanged read_by reading header_of control_of unnumbered_of supervisory_of teis.course teis.refusal seq distance_of named low_bits ports.after ports.answer ports.meant fall_due
called = refl

-- Both ask in the first beat, so that their SABMEs cross: each is confirmed.
abbrev crossing : List Beat
crossing = record asks { far_asks = Establish Call 0 ∷ [] } ∷ replicate 15 plain

crossed_near : (after 1 crossing begins).near.at.told ≡ confirmed Call 0 ∷ []
unfolding lines.after lines.answer lines.takes_slot exchanged read_by reading header_of control_of unnumbered_of supervisory_of teis.course teis.refusal seq distance_of named low_bits ports.after ports.answer ports.meant fall_due
crossed_near = refl

crossed_far : (after 1 crossing begins).far.at.told ≡ confirmed Call 0 ∷ []
unfolding lines.after lines.answer lines.takes_slot exchanged read_by reading header_of control_of unnumbered_of supervisory_of teis.course teis.refusal seq distance_of named low_bits ports.after ports.answer ports.meant fall_due
crossed_far = refl

-- A content is sent, and noise makes another octet of one of its: the frame is lost. T200 falls due, and an enquiry goes; behind its
-- answer the I-frame goes again.
abbrev sends : Beat
sends = record plain { near_asks = Data Call 0 (0xAB ∷ []) ∷ [] }

abbrev lost : List Beat
lost = sends ∷ replicate 3 plain ++ (record plain { far_noise = Some 0x55 } ∷ replicate 10 plain)

not_yet : contents_at (after 1 (calls ++ lost) begins).far ≡ []
unfolding lines.after lines.answer lines.takes_slot exchanged read_by reading header_of control_of unnumbered_of supervisory_of teis.course teis.refusal seq distance_of named low_bits ports.after ports.answer ports.meant fall_due
not_yet = refl

recovered : contents_at (after 1 (calls ++ lost ++ replicate 30 plain) begins).far ≡ (0xAB ∷ []) ∷ []
unfolding lines.after lines.answer lines.takes_slot exchanged read_by reading header_of control_of unnumbered_of supervisory_of teis.course teis.refusal seq distance_of named low_bits ports.after ports.answer ports.meant fall_due
recovered = refl

-- SABME is lost, and N200 is 1: it goes again as T200 falls due at 16, and now it is heard.
abbrev pub once : Config → Config
once c = record c { n200 = 1 }

abbrev begins_once : Lengths → Clocked
begins_once ls = record { near = endpoint (once user) 0 ls 0 0; far = endpoint (once network) 0 ls 0 0; beats = 0 }

-- Only flags come to the network's end.
abbrev pub deaf : Beat
deaf = record plain { far_noise = Some 0x7E }

abbrev pub asks_deaf : Beat
asks_deaf = record asks { far_noise = Some 0x7E }

abbrev nearly : List Beat
nearly = asks_deaf ∷ replicate 14 deaf ++ replicate 17 plain

nearly_lost : (after 1 nearly (begins_once lengths)).near.at.told ≡ confirmed Call 0 ∷ []
unfolding lines.after lines.answer lines.takes_slot exchanged read_by reading header_of control_of unnumbered_of supervisory_of teis.course teis.refusal seq distance_of named low_bits ports.after ports.answer ports.meant fall_due
nearly_lost = refl

-- The line is dead, and T200 runs for four milliseconds: the release is told as it falls due for the second time, at 8.
abbrev short : Lengths
short = record { t200 = 4; t203 = 1000; t201 = 4; t202 = 8 }

abbrev dies : List Beat
dies = asks_deaf ∷ replicate 8 deaf

told_dead : notes_at (after 1 dies (begins_once short)).near ≡ Error Call 0 G ∷ ReleaseIndication Call 0 ∷ []
unfolding lines.after lines.answer lines.takes_slot exchanged read_by reading header_of control_of unnumbered_of supervisory_of teis.course teis.refusal seq distance_of named low_bits ports.after ports.answer ports.meant fall_due
told_dead = refl

-- Noise makes a frame of another link of what comes: its TEI is not on the line, so it is dropped, and nothing else is told.
abbrev disturbed : ℕ → Beat
disturbed value = record plain { far_noise = Some value }

abbrev others : List Beat
others = map disturbed (0x7E ∷ 0x00 ∷ 0x81 ∷ 0xEF ∷ 0x50 ∷ 0xB1 ∷ 0xFD ∷ 0xFC ∷ [])

is_dropped : (after 1 others begins).far.at.told ≡ dropped Tei ∷ []
unfolding lines.after lines.answer lines.takes_slot exchanged read_by reading header_of control_of unnumbered_of supervisory_of teis.course teis.refusal seq distance_of named low_bits ports.after ports.answer ports.meant fall_due
is_dropped = refl
