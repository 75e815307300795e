-- Worked values: which I-frames are taken, and told; and answers that break the law.
use Rattle.std.specs.Prelude.{◌≡◌, ℕ, List, [], ◌∷◌, ◌++◌, true, false, None, Some, refl}
use Rattle.lapd_frame.specs.declared.controls.Control.TheVariants.{Information}
use Rattle.lapd_frame.specs.declared.notes.Note.TheVariants.{Data}
use Rattle.lapd_frame.specs.declared.services.Service.TheVariants.{Call, Packet}
use Rattle.lapd_frame.specs.Grammar.{Parts}
use Rattle.lapd_frame.specs.Reading.{reading, header_of, control_of, unnumbered_of, supervisory_of}
use Rattle.lapd_frame.specs.Senders.{exchanged, reading as read_by}
use Rattle.lapd_seq.specs.Circle.{named, distance_of}
use Rattle.lapd_seq.specs.Numbers.{seq}
use Rattle.model_teis.specs.network.Events as teis
use Rattle.model_line.specs.Event.{nothing, told}
use Rattle.model_line.specs.Machine as lines
use Rattle.model_line.specs.Request.{SetBusy, ClearBusy}
use Rattle.model_card.specs.Card.{fresh}
use Rattle.model_card.specs.Event.{Event}
use Rattle.model_card.specs.Machine.{answer}
use Rattle.model_card.specs.Run.{moments, after_all}
use Rattle.laws_line.specs.Heard.{notes_of, contents_in}
use Rattle.laws_line.specs.card.Worked as worked
use Rattle.laws_line.specs.card.Worked.{usual, on_0}
use Rattle.laws_trace.specs.Deliveries.{TellsWhatIsDue}
use Rattle.laws_trace.specs.Managing.{none_on}
use Rattle.laws_trace.specs.Observer.{View, in_state}
use Rattle.laws_trace.specs.WorkedObserver.{link_after}
use Rattle.laws_trace.specs.WorkedUnits.{frame_comes}

-- I-frames of TEI 64 with N(S) 0 and 1, and SABME.
abbrev pub i_frame : Event
i_frame = frame_comes (0x00 ∷ 0x81 ∷ 0x00 ∷ 0x00 ∷ 0x41 ∷ [])

abbrev second : Event
second = frame_comes (0x00 ∷ 0x81 ∷ 0x02 ∷ 0x00 ∷ 0x42 ∷ [])

abbrev sabme : Event
sabme = frame_comes (0x00 ∷ 0x81 ∷ 0x7F ∷ [])

-- Two contents are counted, until SABME begins the numbers anew.
two : (link_after (worked.up ++ i_frame ∷ second ∷ [])).count ≡ 2
unfolding moments lines.after lines.answer lines.takes_slot teis.course teis.refusal seq distance_of named exchanged read_by reading header_of control_of unnumbered_of supervisory_of
two = refl

none_again : (link_after (worked.up ++ i_frame ∷ sabme ∷ [])).count ≡ 0
unfolding moments lines.after lines.answer lines.takes_slot teis.course teis.refusal seq distance_of named exchanged read_by reading header_of control_of unnumbered_of supervisory_of
none_again = refl

-- One that leaves a gap is rejected, until the one that is missing is taken; and none is while layer 3 is busy.
a_gap : (link_after (worked.up ++ second ∷ [])).rejected ≡ true
unfolding moments lines.after lines.answer lines.takes_slot teis.course teis.refusal seq distance_of named exchanged read_by reading header_of control_of unnumbered_of supervisory_of
a_gap = refl

no_gap : (link_after (worked.up ++ second ∷ i_frame ∷ [])).rejected ≡ false
unfolding moments lines.after lines.answer lines.takes_slot teis.course teis.refusal seq distance_of named exchanged read_by reading header_of control_of unnumbered_of supervisory_of
no_gap = refl

abbrev busy : List Event
busy = worked.up ++ on_0 (SetBusy Call 64) ∷ []

none_taken : link_after (busy ++ i_frame ∷ second ∷ []) ≡ record (in_state 7) { own_busy = true }
unfolding moments lines.after lines.answer lines.takes_slot teis.course teis.refusal seq distance_of named exchanged read_by reading header_of control_of unnumbered_of supervisory_of
none_taken = refl

-- Layer 3 is busy until ClearBusy of the link, or until the numbers begin; and not by one of another link.
is_busy : (link_after (busy ++ on_0 (ClearBusy Packet 64) ∷ [])).own_busy ≡ true
unfolding moments lines.after lines.answer lines.takes_slot teis.course teis.refusal seq exchanged read_by reading header_of control_of unnumbered_of supervisory_of
is_busy = refl

is_free : (link_after (busy ++ on_0 (ClearBusy Call 64) ∷ [])).own_busy ≡ false
unfolding moments lines.after lines.answer lines.takes_slot teis.course teis.refusal seq exchanged read_by reading header_of control_of unnumbered_of supervisory_of
is_free = refl

free_again : (link_after (busy ++ sabme ∷ [])).own_busy ≡ false
unfolding moments lines.after lines.answer lines.takes_slot teis.course teis.refusal seq exchanged read_by reading header_of control_of unnumbered_of supervisory_of
free_again = refl

-- The first is told in its moment.
noted_at_once : notes_of (answer i_frame (after_all (fresh usual) worked.up)) ≡ Data Call 64 ∷ []
unfolding after_all lines.after lines.answer lines.takes_slot teis.course teis.refusal seq distance_of named exchanged read_by reading header_of control_of unnumbered_of supervisory_of
noted_at_once = refl

told_at_once : contents_in (answer i_frame (after_all (fresh usual) worked.up)) ≡ Some (0x41 ∷ [])
unfolding after_all lines.after lines.answer lines.takes_slot teis.course teis.refusal seq distance_of named exchanged read_by reading header_of control_of unnumbered_of supervisory_of
told_at_once = refl

-- Where it is not, the law is broken; so it is by data of no frame, and of the second one.
abbrev established : View
established = record { teis = none_on; link = in_state 7 }

abbrev parts_with : ℕ → Parts
parts_with ns = record { address = record { sapi = 0; command = true; tei = 64 }; control = Information (seq ns) (seq 0) false; info = 0x41 ∷ [] }

untold : TellsWhatIsDue usual Call 64 established (Some (parts_with 0)) (told nothing) → ⊥
unfolding seq
untold h = cc h.data_told

unheard : TellsWhatIsDue usual Call 64 established None (told (record nothing { notes = Data Call 64 ∷ []; contents = Some (0x41 ∷ []) })) → ⊥
unheard h = cc h.data_told

told_too_early : TellsWhatIsDue usual Call 64 established (Some (parts_with 1)) (told (record nothing { notes = Data Call 64 ∷ []; contents = Some (0x41 ∷ []) })) → ⊥
unfolding seq
told_too_early h = cc h.data_told
