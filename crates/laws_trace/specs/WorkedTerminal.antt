-- Worked values of a terminal: which causes are due and told, and why what management asks for is refused.
use Rattle.std.specs.Prelude.{◌≡◌, ℕ, List, [], ◌∷◌, ◌++◌, Option, Some, None, refl}
use Rattle.model_bits.specs.Stream as stream
use Rattle.model_bits.specs.declared.heard.Cause.{Cause}
use Rattle.model_bits.specs.declared.heard.Cause.TheVariants.{Unserved}
use Rattle.lapd_frame.specs.declared.readings.Reading.TheVariants.{AnnexB}
use Rattle.lapd_frame.specs.declared.refusals.Refusal.{Refusal}
use Rattle.lapd_frame.specs.declared.refusals.Refusal.TheVariants.{WrongSide, NoLink, TableFull, CheckRunning}
use Rattle.lapd_frame.specs.Reading.{reading, header_of, control_of, unnumbered_of}
use Rattle.lapd_frame.specs.Senders.{exchanged, reading as read_by}
use Rattle.model_teis.specs.network.Events as teis
use Rattle.model_teis.specs.terminal.Events as terminals
use Rattle.model_line.specs.declared.config.Config.{Config}
use Rattle.model_line.specs.Event as line_event
use Rattle.model_line.specs.Event.{Answer, hears, request, refused}
use Rattle.model_line.specs.Laws.{cause_in}
use Rattle.model_line.specs.Machine as lines
use Rattle.model_line.specs.Request.{Request, Assign, Remove, Check, Disown, AskTei, VerifyTei}
use Rattle.model_card.specs.Event.{Event}
use Rattle.model_card.specs.Run.{after_all}
use Rattle.laws_line.specs.card.Worked.{usual, on_0}
use Rattle.laws_trace.specs.CausesAreTold.{cause_due}
use Rattle.laws_trace.specs.Managing.{managed_after}
use Rattle.laws_trace.specs.Observer.{moment_of}
use Rattle.laws_trace.specs.Reasons.{refusal_due}
use Rattle.laws_trace.specs.WorkedManaging.{terminal}

-- A message of the network, by the C/R octet of its frame, a type, the low octet of its Ri, and its last octet.
abbrev frame : ℕ → ℕ → ℕ → ℕ → line_event.Event
frame first type low last = hears (stream.frame (first ∷ 0xFF ∷ 0x03 ∷ 0x0F ∷ 0x12 ∷ low ∷ type ∷ last ∷ []))

-- What is due and what is told at line 0, after these events. (No link is on the line but in state 4.)
abbrev both : Config → List Event → line_event.Event → List (Option Cause)
both c events what = cause_due c (managed_after c 0 events) (λ service tei. 4) what ∷ cause_in (moment_of c events 0 what).answer ∷ []

abbrev unserved : List (Option Cause)
unserved = Some Unserved ∷ Some Unserved ∷ []

abbrev neither : List (Option Cause)
neither = None ∷ None ∷ []

abbrev asking : List Event
asking = on_0 AskTei ∷ []

abbrev on : List Event
on = on_0 (Assign 64) ∷ []

-- TEI 64 is assigned by the Ri that is outstanding; by another, and to one that did not ask; and in a response.
assigned : both terminal asking (frame 0xFE 2 0x34 0x81) ≡ neither
unfolding after_all lines.after lines.answer lines.takes_slot terminals.course exchanged read_by reading header_of control_of unnumbered_of
assigned = refl

to_another : both terminal asking (frame 0xFE 2 0x35 0x81) ≡ unserved
unfolding after_all lines.after lines.answer lines.takes_slot terminals.course exchanged read_by reading header_of control_of unnumbered_of
to_another = refl

not_asked : both terminal [] (frame 0xFE 2 0x34 0x81) ≡ unserved
unfolding after_all lines.answer lines.takes_slot terminals.course exchanged read_by reading header_of control_of unnumbered_of
not_asked = refl

in_a_response : both terminal asking (frame 0xFC 2 0x34 0x81) ≡ unserved
unfolding after_all lines.after lines.answer lines.takes_slot terminals.course exchanged read_by reading header_of control_of unnumbered_of
in_a_response = refl

-- By annex B it takes a TEI below 64, too, and octets may follow the five of a message; in the profile neither is served.
abbrev annex_b : Config
annex_b = record terminal { reading = AnnexB }

abbrev below_64 : line_event.Event
below_64 = frame 0xFE 2 0x34 0x0B

abbrev longer : line_event.Event
longer = hears (stream.frame (0xFE ∷ 0xFF ∷ 0x03 ∷ 0x0F ∷ 0x12 ∷ 0x34 ∷ 2 ∷ 0x0B ∷ 0x00 ∷ []))

taken : both annex_b asking below_64 ++ both annex_b asking longer ≡ neither ++ neither
unfolding after_all lines.after lines.answer lines.takes_slot terminals.course exchanged read_by reading header_of control_of unnumbered_of
taken = refl

not_taken : both terminal asking below_64 ++ both terminal asking longer ≡ unserved ++ unserved
unfolding after_all lines.after lines.answer lines.takes_slot terminals.course exchanged read_by reading header_of control_of unnumbered_of
not_taken = refl

taken_by_its_request : both annex_b [] below_64 ++ both annex_b asking (frame 0xFE 2 0x35 0x0B) ++ both annex_b asking (frame 0xFE 2 0x34 0xFF) ≡ unserved ++ unserved ++ unserved
unfolding after_all lines.after lines.answer lines.takes_slot terminals.course exchanged read_by reading header_of control_of unnumbered_of
taken_by_its_request = refl

-- Its TEI is assigned to another terminal; checked, and so is one that it does not have; and it is denied one.
doubted : both terminal on (frame 0xFE 2 0x34 0x81) ≡ neither
unfolding after_all lines.after lines.answer lines.takes_slot terminals.course exchanged read_by reading header_of control_of unnumbered_of
doubted = refl

checked : both terminal on (frame 0xFE 4 0x00 0x81) ≡ neither
unfolding after_all lines.after lines.answer lines.takes_slot terminals.course exchanged read_by reading header_of control_of unnumbered_of
checked = refl

not_its_own : both terminal on (frame 0xFE 4 0x00 0x83) ≡ unserved
unfolding after_all lines.after lines.answer lines.takes_slot terminals.course exchanged read_by reading header_of control_of unnumbered_of
not_its_own = refl

denied : both terminal asking (frame 0xFE 3 0x34 0xFF) ≡ neither
unfolding after_all lines.after lines.answer lines.takes_slot terminals.course exchanged read_by reading header_of control_of unnumbered_of
denied = refl

-- A trunk's end serves none of these.
at_a_trunk : both (record terminal { seed = None }) on (frame 0xFE 4 0x00 0x81) ≡ unserved
unfolding after_all lines.after lines.answer lines.takes_slot teis.course teis.refusal exchanged read_by reading header_of control_of unnumbered_of
at_a_trunk = refl

-- Why a request is refused at line 0, and what the card answers to it.
abbrev why : Config → List Event → Request → Option Refusal
why c events r = refusal_due c events 0 (request r)

abbrev answers : List Event → Request → Answer
answers events r = (moment_of terminal events 0 (request r)).answer

-- A terminal asks once at a time, has a TEI of its own verified, and neither checks nor disowns one.
asks_once : why terminal asking AskTei ≡ Some CheckRunning
asks_once = refl

asks_once_told : answers asking AskTei ≡ refused CheckRunning
unfolding after_all lines.after lines.answer lines.takes_slot terminals.course
asks_once_told = refl

no_room : why (record terminal { terminals = 1 }) on AskTei ≡ Some TableFull
no_room = refl

none_to_verify : why terminal asking (VerifyTei 64) ≡ Some NoLink
none_to_verify = refl

busy : why terminal (on ++ asking) (VerifyTei 64) ≡ Some CheckRunning
busy = refl

may_verify : why terminal on (VerifyTei 64) ≡ None
may_verify = refl

no_check : why terminal on (Check 64) ≡ Some WrongSide
no_check = refl

no_disown : why terminal [] (Disown 64) ≡ Some WrongSide
no_disown = refl

-- It takes its TEI off the line; a trunk's end does not, and asks for none; and the network's side does not ask either.
takes_off : why terminal on (Remove 64) ≡ None
takes_off = refl

no_removal : why (record terminal { seed = None }) on (Remove 64) ≡ Some WrongSide
no_removal = refl

no_asking : why (record terminal { seed = None }) [] AskTei ≡ Some WrongSide
no_asking = refl

network_asks_none : why usual [] AskTei ≡ Some WrongSide
network_asks_none = refl

network_verifies_none : why usual on (VerifyTei 64) ≡ Some WrongSide
network_verifies_none = refl

-- To grant a second request while one runs would break the law.
abbrev IsWhy : Option Refusal → Option Refusal → Type 0
IsWhy given due = given ≡ due

granted_twice : IsWhy None (Some CheckRunning) → ⊥
granted_twice same = cc same
