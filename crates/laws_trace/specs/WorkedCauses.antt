-- Worked values: each cause as it is due and told, and answers that break the law.
use Rattle.std.specs.Prelude.{◌≡◌, ℕ, List, [], ◌∷◌, ◌++◌, Bool, true, false, filter, Option, Some, None, IfSome, refl}
use Rattle.std.proofs.Common.{ap}
use Rattle.model_bits.specs.Stream as stream
use Rattle.model_bits.specs.declared.heard.Cause.{Cause}
use Rattle.model_bits.specs.declared.heard.Cause.TheVariants.{Abort, Extension, Fcs, Sapi, Tei, Unserved}
use Rattle.lapd_count.specs.declared.counter.Counter.TheVariants.{Dropped}
use Rattle.lapd_count.specs.Counters.{More}
use Rattle.lapd_frame.specs.declared.addresses.Side.TheVariants.{User}
use Rattle.lapd_frame.specs.Reading.{reading, header_of, control_of, unnumbered_of, supervisory_of}
use Rattle.lapd_frame.specs.Senders.{exchanged, reading as read_by}
use Rattle.lapd_seq.specs.Circle.{named, distance_of}
use Rattle.lapd_seq.specs.Numbers.{seq}
use Rattle.model_teis.specs.network.Events as teis
use Rattle.model_line.specs.declared.config.Config.{Config}
use Rattle.model_line.specs.Event as line_event
use Rattle.model_line.specs.Event.{Answer, hears, request, told, nothing}
use Rattle.model_line.specs.Laws.{cause_in}
use Rattle.model_line.specs.Machine as lines
use Rattle.model_line.specs.Request.{Assign, Check}
use Rattle.model_card.specs.Card.{fresh}
use Rattle.model_card.specs.Counted.{all_shown}
use Rattle.model_card.specs.Event.{Event, at}
use Rattle.model_card.specs.Run.{moments, after_all}
use Rattle.laws_line.specs.card.Worked.{usual, on_0}
use Rattle.laws_trace.specs.CausesAreTold.{cause_due}
use Rattle.laws_trace.specs.Managing.{managed_after}
use Rattle.laws_trace.specs.Observer.{view_of, moment_of}

-- What is due and what is told at line 0, after these events.
abbrev both : Config → List Event → line_event.Event → List (Option Cause)
both c events what =
    cause_due c (managed_after c 0 events) (λ service tei. (view_of c service tei 0 events).link.state) what ∷ cause_in (moment_of c events 0 what).answer ∷ []

abbrev twice : Cause → List (Option Cause)
twice cause = Some cause ∷ Some cause ∷ []

abbrev neither : List (Option Cause)
neither = None ∷ None ∷ []

abbrev frame : List ℕ → line_event.Event
frame octets = hears (stream.frame octets)

abbrev on : List Event
on = on_0 (Assign 64) ∷ []

abbrev up : List Event
up = on ++ at 0 (frame (0x00 ∷ 0x81 ∷ 0x7F ∷ [])) ∷ []

-- A stretch that ends in seven 1s; an address with two extension bits of 1; SAPI 1, with a TEI that is not on the line; TEI 65;
aborted : both usual on (hears (stream.dropped Abort)) ≡ twice Abort
unfolding moments after_all lines.after lines.answer lines.takes_slot teis.course teis.refusal
aborted = refl

extended : both usual on (frame (0x01 ∷ 0x81 ∷ 0x7F ∷ [])) ≡ twice Extension
unfolding moments after_all lines.after lines.answer lines.takes_slot teis.course teis.refusal exchanged read_by reading header_of control_of unnumbered_of
extended = refl

unknown_sapi : both usual on (frame (0x04 ∷ 0x83 ∷ 0x7F ∷ [])) ≡ twice Sapi
unfolding moments after_all lines.after lines.answer lines.takes_slot teis.course teis.refusal exchanged read_by reading header_of control_of unnumbered_of
unknown_sapi = refl

unknown_tei : both usual on (frame (0x00 ∷ 0x83 ∷ 0x7F ∷ [])) ≡ twice Tei
unfolding moments after_all lines.after lines.answer lines.takes_slot teis.course teis.refusal exchanged read_by reading header_of control_of unnumbered_of
unknown_tei = refl

-- RR to a link that is down, and to one that is up; and a UI to it that was too long to keep;
rr_unserved : both usual on (frame (0x00 ∷ 0x81 ∷ 0x01 ∷ 0x00 ∷ [])) ≡ twice Unserved
unfolding moments after_all lines.after lines.answer lines.takes_slot teis.course teis.refusal exchanged read_by reading header_of control_of unnumbered_of supervisory_of seq
rr_unserved = refl

rr_served : both usual up (frame (0x00 ∷ 0x81 ∷ 0x01 ∷ 0x00 ∷ [])) ≡ neither
unfolding moments after_all lines.after lines.answer lines.takes_slot teis.course teis.refusal exchanged read_by reading header_of control_of unnumbered_of supervisory_of seq named distance_of
rr_served = refl

long_unserved : both usual up (hears (stream.overlong (0x00 ∷ 0x81 ∷ 0x03 ∷ 0x00 ∷ []))) ≡ twice Unserved
unfolding moments after_all lines.after lines.answer lines.takes_slot teis.course teis.refusal exchanged read_by reading header_of control_of unnumbered_of
long_unserved = refl

-- a check response of TEI 64 while no check runs, and while one does; and an identity request at the user's side.
abbrev response : line_event.Event
response = frame (0xFC ∷ 0xFF ∷ 0x03 ∷ 0x0F ∷ 0x12 ∷ 0x34 ∷ 0x05 ∷ 0x81 ∷ [])

unasked : both usual on response ≡ twice Unserved
unfolding moments after_all lines.after lines.answer lines.takes_slot teis.course teis.refusal exchanged read_by reading header_of control_of unnumbered_of
unasked = refl

asked : both usual (on ++ on_0 (Check 64) ∷ []) response ≡ neither
unfolding moments after_all lines.after lines.answer lines.takes_slot teis.course teis.refusal exchanged read_by reading header_of control_of unnumbered_of
asked = refl

unmanaged : both (record usual { side = User }) [] (frame (0xFE ∷ 0xFF ∷ 0x03 ∷ 0x0F ∷ 0x12 ∷ 0x34 ∷ 0x01 ∷ 0xFF ∷ [])) ≡ twice Unserved
unfolding moments after_all lines.answer lines.takes_slot teis.course teis.refusal exchanged read_by reading header_of control_of unnumbered_of
unmanaged = refl

-- A request that is granted names none.
granted : both usual on (request (Check 64)) ≡ neither
unfolding moments after_all lines.after lines.answer lines.takes_slot teis.course teis.refusal
granted = refl

-- Where another cause is told, or none is, or one is where none is due, or a note is told beside it, the law is broken.
abbrev Names : Option Cause → Answer → Type 0
Names due a = (cause_in a ≡ due) × IfSome due (λ cause. a ≡ told (line_event.dropped cause))

another : Names (Some Unserved) (told (line_event.dropped Fcs)) → ⊥
another names = cc names.0

untold : Names (Some Fcs) (told nothing) → ⊥
untold names = cc names.0

not_due : Names None (told (line_event.dropped Fcs)) → ⊥
not_due names = cc names.0

abbrev loses : Answer → ℕ
loses (told t) = t.lost
loses other = 0

beside : Names (Some Fcs) (told (record (line_event.dropped Fcs) { lost = 1 })) → ⊥
beside names = let same : 1 ≡ 0 = ap loses names.1 in cc same

-- RR to the link that is down is shown to the counters as one drop that is not served.
abbrev is_drop : More → Bool
is_drop (Dropped cause, amount) = true
is_drop other = false

one_drop : filter is_drop (all_shown 0 (moments (fresh usual) (on ++ at 0 (frame (0x00 ∷ 0x81 ∷ 0x01 ∷ 0x00 ∷ [])) ∷ []))) ≡ (Dropped Unserved, 1) ∷ []
unfolding moments lines.after lines.answer lines.takes_slot teis.course teis.refusal exchanged read_by reading header_of control_of unnumbered_of supervisory_of seq
one_drop = refl

-- To count it as a bad check would break the law.
abbrev first_cause : List More → Option Cause
first_cause ((Dropped cause, amount) ∷ more) = Some cause
first_cause other = None

abbrev IsShown : List More → List More → Type 0
IsShown shown due = shown ≡ due

miscounted : IsShown ((Dropped Fcs, 1) ∷ []) ((Dropped Unserved, 1) ∷ []) → ⊥
miscounted same = let first : Some Fcs ≡ Some Unserved = ap first_cause same in cc first
