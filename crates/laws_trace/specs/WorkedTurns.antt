-- Worked values: links that take turns, and frames that break these laws.
use Rattle.std.specs.Prelude.{◌≡◌, ℕ, true, List, [], ◌∷◌, ◌++◌, refl}
use Rattle.std.specs.List.{list_any}
use Rattle.std.proofs.Common.{subst}
use Rattle.model_bits.specs.Stream as stream
use Rattle.model_bits.specs.declared.heard.Cause.TheVariants.{Fcs}
use Rattle.lapd_frame.specs.declared.services.Service.TheVariants.{Call, Packet}
use Rattle.lapd_frame.specs.declared.timers.Timer.TheVariants.{T200}
use Rattle.lapd_frame.specs.Reading.{reading, header_of, control_of, unnumbered_of}
use Rattle.lapd_frame.specs.Senders.{exchanged, reading as read_by}
use Rattle.model_teis.specs.network.Events as teis
use Rattle.model_line.specs.Event.{hears, expiry}
use Rattle.model_line.specs.Machine as lines
use Rattle.model_line.specs.Request.{Assign, Establish}
use Rattle.model_card.specs.Card.{fresh}
use Rattle.model_card.specs.Event.{Event, at}
use Rattle.model_card.specs.Run.{moments, after_all}
use Rattle.model_card.specs.Takes.{frames_given}
use Rattle.laws_line.specs.card.Worked.{usual, on_0}
use Rattle.laws_trace.specs.LinkFrames.{is_frame_of}
use Rattle.laws_trace.specs.TurnsMeanwhile.{IsKeptWaiting}
use Rattle.laws_trace.specs.WorkedUnits.{calls}

-- Both links of TEI 64 send SABME, and that of call control sends it again.
abbrev both_up : List Event
both_up = on_0 (Assign 64) ∷ on_0 (Establish Call 64) ∷ on_0 (Establish Packet 64) ∷ at 0 (expiry (T200 Call 64)) ∷ []

abbrev call : List ℕ
call = 0x02 ∷ 0x81 ∷ 0x7F ∷ []

abbrev packet : List ℕ
packet = 0x42 ∷ 0x81 ∷ 0x7F ∷ []

turns_taken : frames_given 0 (moments (after_all (fresh usual) both_up) (calls 3)) ≡ call ∷ packet ∷ call ∷ []
unfolding exchanged moments after_all lines.after lines.answer lines.takes_slot teis.course teis.refusal
turns_taken = refl

-- What is dropped meanwhile changes none of it.
turns_taken_meanwhile : frames_given 0 (moments (after_all (fresh usual) both_up) (calls 1 ++ (at 0 (hears (stream.dropped Fcs)) ∷ calls 2))) ≡ call ∷ packet ∷ call ∷ []
unfolding exchanged moments after_all lines.after lines.answer lines.takes_slot teis.course teis.refusal
turns_taken_meanwhile = refl

-- The packet link offers its SABME meanwhile; where that of call control goes twice, and it does not between, the law is broken.
packet_waits : IsKeptWaiting usual 0 64 Packet 64 both_up
unfolding moments after_all lines.after lines.answer lines.takes_slot teis.course teis.refusal exchanged read_by reading header_of control_of unnumbered_of
packet_waits = record { stays = refl; on_line = refl; offers_one = λ none. cc none }

goes_between : list_any (is_frame_of usual Packet 64) (packet ∷ []) ≡ true
unfolding exchanged read_by reading header_of control_of unnumbered_of
goes_between = refl

passed_over : list_any (is_frame_of usual Packet 64) (call ∷ []) ≡ true → ⊥
unfolding exchanged read_by reading header_of control_of unnumbered_of
passed_over other = cc other

-- A run that meets all that the law asks for: that of packet sends its SABME again, too, so it offers one before each of three calls.
abbrev both_again : List Event
both_again = both_up ++ at 0 (expiry (T200 Packet 64)) ∷ []

abbrev IsWaiting : List Event → Type 0
IsWaiting so_far = IsKeptWaiting usual 0 64 Packet 64 (both_again ++ so_far)

first_waits : IsWaiting []
unfolding moments after_all lines.after lines.answer lines.takes_slot teis.course teis.refusal exchanged read_by reading header_of control_of unnumbered_of
first_waits = record { stays = refl; on_line = refl; offers_one = λ none. cc none }

second_waits : IsWaiting (calls 1)
unfolding moments after_all lines.after lines.answer lines.takes_slot teis.course teis.refusal exchanged read_by reading header_of control_of unnumbered_of
second_waits = record { stays = refl; on_line = refl; offers_one = λ none. cc none }

third_waits : IsWaiting (calls 2)
unfolding moments after_all lines.after lines.answer lines.takes_slot teis.course teis.refusal exchanged read_by reading header_of control_of unnumbered_of
third_waits = record { stays = refl; on_line = refl; offers_one = λ none. cc none }

none_there : (e : Event) (front behind : List Event) → [] ≡ front ++ e ∷ behind → ⊥
none_there e [] behind is = cc is
none_there e (x ∷ front) behind is = cc is

waits_always : (so_far : List Event) (e : Event) (behind : List Event) → calls 3 ≡ so_far ++ e ∷ behind → IsWaiting so_far
waits_always [] e behind is = first_waits
waits_always (x ∷ []) e behind is = let same : calls 1 ≡ x ∷ [] = cc is in subst IsWaiting same second_waits
waits_always (x ∷ y ∷ []) e behind is = let same : calls 2 ≡ x ∷ y ∷ [] = cc is in subst IsWaiting same third_waits
waits_always (x ∷ y ∷ z ∷ more) e behind is = absurd (none_there e more behind (cc is))

its_turn : frames_given 0 (moments (after_all (fresh usual) both_again) (calls 3)) ≡ [] ++ call ∷ ((packet ∷ []) ++ call ∷ [])
unfolding exchanged moments after_all lines.after lines.answer lines.takes_slot teis.course teis.refusal
its_turn = refl
