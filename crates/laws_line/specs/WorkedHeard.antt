-- Worked values: an I-frame and a UI are heard, and their contents are handed on; and a frame that the grammar refuses.
use Rattle.std.specs.Prelude.{[], ◌≡◌, true, false, ◌∷◌, Some, None, refl}
use Rattle.laws_line.specs.WorkedWords.{list_any, Fcs, Information, Call, Packet, Parts, exchanged, read_by, reading, header_of, control_of, unnumbered_of, seq, distance_of, named, LineEvent as Event, Answer, hears, told, dropped, state_in, after, answer, contents_in, is_data_of, is_unit_of, notes_of, IsNotedOnce}
use Rattle.model_bits.specs.Stream as stream
use Rattle.model_teis.specs.network.Events as teis
use Rattle.laws_line.specs.Worked.{usual, both_up}

-- TEI 64 is on the line, its links are up, and an I-frame of its call control link is heard.
abbrev pub i_frame : Event
i_frame = hears (stream.frame (0x00 ∷ 0x81 ∷ 0x00 ∷ 0x00 ∷ 0x41 ∷ []))

-- Its contents are due, since it is I-frame 0, and none was received before;
abbrev pub information : Parts
information = record { address = record { sapi = 0; command = true; tei = 64 }; control = Information (seq 0) (seq 0) false; info = 0x41 ∷ [] }

-- they are handed on, and data of this link is noted, once, of no other.
abbrev told_of_it : Answer
told_of_it = answer usual i_frame both_up

contents_heard : contents_in told_of_it ≡ Some (0x41 ∷ [])
unfolding answer seq distance_of named exchanged read_by reading header_of control_of unnumbered_of teis.course teis.refusal
contents_heard = refl

of_its_link : list_any (is_data_of Call 64) (notes_of told_of_it) ≡ true
unfolding answer seq distance_of named exchanged read_by reading header_of control_of unnumbered_of teis.course teis.refusal
of_its_link = refl

of_no_other : list_any (is_data_of Packet 64) (notes_of told_of_it) ≡ false
unfolding answer seq distance_of named exchanged read_by reading header_of control_of unnumbered_of teis.course teis.refusal
of_no_other = refl

noted_once : IsNotedOnce told_of_it
unfolding answer seq distance_of named exchanged read_by reading header_of control_of unnumbered_of teis.course teis.refusal
noted_once = refl

-- Where a wrong check is heard in place of a frame, that is all that is answered, and nothing is handed on.
wrong_check_told : answer usual (hears (stream.dropped Fcs)) both_up ≡ told (dropped Fcs)
unfolding answer exchanged read_by reading header_of control_of unnumbered_of teis.course teis.refusal
wrong_check_told = refl

nothing_heard : contents_in (answer usual (hears (stream.dropped Fcs)) both_up) ≡ None
unfolding answer exchanged read_by reading header_of control_of unnumbered_of teis.course teis.refusal
nothing_heard = refl

-- A UI of TEI 64 is handed on, as unit data.
abbrev pub ui : Event
ui = hears (stream.frame (0x00 ∷ 0x81 ∷ 0x03 ∷ 0xCB ∷ []))

unit_heard : contents_in (answer usual ui both_up) ≡ Some (0xCB ∷ [])
unfolding answer seq distance_of named exchanged read_by reading header_of control_of unnumbered_of teis.course teis.refusal
unit_heard = refl

unit_noted : list_any (is_unit_of Call 64) (notes_of (answer usual ui both_up)) ≡ true
unfolding answer seq distance_of named exchanged read_by reading header_of control_of unnumbered_of teis.course teis.refusal
unit_noted = refl

-- By a frame of TEI 64 and SAPI 0 with an undefined control field its link is established anew, and no other feels it.
abbrev pub undefined : Event
undefined = hears (stream.frame (0x00 ∷ 0x81 ∷ 0x2F ∷ []))

its_link : state_in (after usual undefined both_up) Call 0 ≡ 5
unfolding after seq distance_of named exchanged read_by reading header_of control_of unnumbered_of teis.course teis.refusal
its_link = refl

no_other_link : state_in (after usual undefined both_up) Packet 0 ≡ 7
unfolding after seq distance_of named exchanged read_by reading header_of control_of unnumbered_of teis.course teis.refusal
no_other_link = refl
