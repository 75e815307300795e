-- Worked values: what an observer expects by annex B, and in the profile where it differs; and answers that break the laws.
use Rattle.std.specs.Prelude.{◌≡◌, ℕ, true, false, List, [], ◌∷◌, ◌++◌, Some, None, refl}
use Rattle.model_bits.specs.Stream as stream
use Rattle.model_bits.specs.declared.heard.Cause.TheVariants.{Unserved}
use Rattle.lapd_frame.specs.declared.notes.ErrorCode.{ErrorCode}
use Rattle.lapd_frame.specs.declared.notes.ErrorCode.TheVariants.{L, O}
use Rattle.lapd_frame.specs.declared.notes.Note.TheVariants.{Removed}
use Rattle.lapd_frame.specs.declared.readings.Reading.TheVariants.{AnnexB}
use Rattle.lapd_frame.specs.declared.services.Service.TheVariants.{Call}
use Rattle.lapd_frame.specs.declared.timers.Order.TheVariants.{Stop}
use Rattle.lapd_frame.specs.declared.timers.Timer.TheVariants.{T200, T201, T203}
use Rattle.lapd_frame.specs.Reading.{reading, header_of, control_of, unnumbered_of}
use Rattle.lapd_frame.specs.Senders.{exchanged, reading as read_by}
use Rattle.model_teis.specs.declared.network.messages.Message.{Message}
use Rattle.model_teis.specs.declared.network.messages.Message.TheVariants.{IdentityAssigned, IdentityDenied, IdentityCheckRequest, IdentityRemove}
use Rattle.model_line.specs.declared.config.Config.{Config}
use Rattle.model_line.specs.Event.{hears, expiry, nothing, told}
use Rattle.model_line.specs.Request.{Assign, Check}
use Rattle.model_card.specs.Event.{Event, at}
use Rattle.laws_line.specs.card.Worked.{usual, on_0}
use Rattle.laws_trace.specs.CausesAreTold.{cause_due}
use Rattle.laws_trace.specs.Managing.{managed_after, due, several}
use Rattle.laws_trace.specs.News.{wrong}
use Rattle.laws_trace.specs.Observer.{Observed, in_state, asked_for, anew, by_expiry, by_heard}
use Rattle.laws_trace.specs.TeisAreManaged.{IsAsDue}
use Rattle.laws_trace.specs.WorkedUnits.{calls, frame_comes}

abbrev annex_b : Config
annex_b = record usual { reading = AnnexB }

-- T200 that leaves state 7 is the first of N200 expiries, if there is any; T203 is not, nor is T200 in the profile.
abbrev one_out : Observed
one_out = record (in_state 7) { next = 1 }

abbrev enquiring : Config → ℕ
enquiring c = (by_expiry c Call 64 (T200 Call 64) one_out).expiries

counted : enquiring annex_b ∷ enquiring (record annex_b { n200 = 0 }) ∷ enquiring usual ∷ [] ≡ 1 ∷ 0 ∷ 0 ∷ []
counted = refl

at_rest : (by_expiry annex_b Call 64 (T203 Call 64) (in_state 7)).expiries ≡ 0
at_rest = refl

-- DM with F=0 in state 4 asks for an establishment; if that fails, error G and the end are told.
abbrev asks_for_one : stream.Event
asks_for_one = stream.frame (0x02 ∷ 0x81 ∷ 0x0F ∷ [])

begins : by_heard annex_b Call 64 asks_for_one (in_state 4) ≡ asked_for
unfolding exchanged read_by reading header_of control_of unnumbered_of
begins = refl

not_begun : by_heard usual Call 64 asks_for_one (in_state 4) ≡ in_state 4
unfolding exchanged read_by reading header_of control_of unnumbered_of
not_begun = refl

-- A frame that the grammar does not have is error L in state 4, and moves nothing.
abbrev undefined : stream.Event
undefined = stream.frame (0x00 ∷ 0x81 ∷ 0x17 ∷ [])

abbrev errors : Config → stream.Event → ℕ → List ErrorCode
errors c e state = wrong c Call 64 (hears e) state state

is_error : errors annex_b undefined 4 ≡ L ∷ []
unfolding exchanged read_by reading header_of control_of unnumbered_of
is_error = refl

no_error : errors usual undefined 4 ≡ []
unfolding exchanged read_by reading header_of control_of unnumbered_of
no_error = refl

-- A UI that was too long to keep is error O in state 4, and in state 7 the link is established anew.
abbrev long_unit : stream.Event
long_unit = stream.overlong (0x00 ∷ 0x81 ∷ 0x03 ∷ 0x00 ∷ [])

too_long : errors annex_b long_unit 4 ≡ O ∷ []
unfolding exchanged read_by reading header_of control_of unnumbered_of
too_long = refl

goes_down : by_heard annex_b Call 64 long_unit (in_state 7) ≡ anew (in_state 7)
unfolding exchanged read_by reading header_of control_of unnumbered_of
goes_down = refl

stays_up : by_heard usual Call 64 long_unit (in_state 7) ≡ in_state 7
unfolding exchanged read_by reading header_of control_of unnumbered_of
stays_up = refl

-- What is owed after messages of terminals with Ri 0x1234.
abbrev says : List ℕ → Event
says more = frame_comes (0xFC ∷ 0xFF ∷ 0x03 ∷ 0x0F ∷ 0x12 ∷ 0x34 ∷ more)

abbrev asks : Event
asks = says (0x01 ∷ 0xFF ∷ [])

abbrev owed_after : Config → List Event → List Message
owed_after c events = (managed_after c 0 events).owed

-- While its answer is owed, a request that comes again is passed over; later it gets another TEI; one for TEI 70 is denied.
asked_once : owed_after annex_b (asks ∷ asks ∷ []) ≡ IdentityAssigned 0x1234 64 ∷ []
unfolding exchanged read_by reading header_of control_of unnumbered_of
asked_once = refl

asked_anew : owed_after annex_b (asks ∷ calls 1 ++ asks ∷ []) ≡ IdentityAssigned 0x1234 65 ∷ []
unfolding exchanged read_by reading header_of control_of unnumbered_of
asked_anew = refl

-- Octets that follow the five of a message are not looked at; in the profile it is not served.
abbrev longer : Event
longer = says (0x01 ∷ 0xFF ∷ 0x00 ∷ [])

asked_longer : owed_after annex_b (longer ∷ []) ∷ owed_after usual (longer ∷ []) ∷ [] ≡ (IdentityAssigned 0x1234 64 ∷ []) ∷ [] ∷ []
unfolding exchanged read_by reading header_of control_of unnumbered_of
asked_longer = refl

of_its_own : owed_after annex_b (says (0x01 ∷ 0x8D ∷ []) ∷ []) ≡ IdentityDenied 0x1234 70 ∷ []
unfolding exchanged read_by reading header_of control_of unnumbered_of
of_its_own = refl

-- TEI 64 is checked as TEI 65 is verified: its terminal is asked at once. As no other answers, TEI 64 is removed, which is sent,
-- and the check of TEI 65 settles: an answer changes nothing. Once T201 has run out, it is asked.
abbrev both : List Event
both = on_0 (Assign 64) ∷ on_0 (Assign 65) ∷ on_0 (Check 64) ∷ says (0x07 ∷ 0x83 ∷ []) ∷ []

both_asked : owed_after annex_b both ≡ IdentityCheckRequest 64 ∷ IdentityCheckRequest 65 ∷ []
unfolding exchanged read_by reading header_of control_of unnumbered_of
both_asked = refl

abbrev expires : Event
expires = at 0 (expiry T201)

abbrev one_left : List Event
one_left = both ++ calls 2 ++ expires ∷ calls 1 ++ expires ∷ []

settling : managed_after annex_b 0 one_left ≡ record (managed_after annex_b 0 one_left) { check = Some (record { tei = 65; settles = true; answered = false; before = None }); later = []; owed = IdentityRemove 64 ∷ [] }
unfolding exchanged read_by reading header_of control_of unnumbered_of
settling = refl

settled : (managed_after annex_b 0 (one_left ++ says (0x05 ∷ 0x83 ∷ []) ∷ [])).check ≡ (managed_after annex_b 0 one_left).check
unfolding exchanged read_by reading header_of control_of unnumbered_of
settled = refl

next_checked : owed_after annex_b (one_left ++ expires ∷ []) ≡ IdentityRemove 64 ∷ IdentityCheckRequest 65 ∷ []
unfolding exchanged read_by reading header_of control_of unnumbered_of
next_checked = refl

-- One response may name both, in octets of which the last alone ends with bit 1. What follows that is not looked at.
named : (several (managed_after annex_b 0 both) (0x80 ∷ 0x83 ∷ [])) ≡ several (managed_after annex_b 0 both) (0x82 ∷ 0x81 ∷ 0x00 ∷ [])
unfolding exchanged read_by reading header_of control_of unnumbered_of
named = refl

not_named : several (managed_after annex_b 0 both) (0x83 ∷ 0x81 ∷ []) ∷ several (managed_after annex_b 0 both) (0x82 ∷ 0x80 ∷ []) ∷ [] ≡ None ∷ None ∷ []
unfolding exchanged read_by reading header_of control_of unnumbered_of
not_named = refl

-- Where T201 stops though another TEI is to be checked, or the verify or an answer while the check settles is told as not served,
-- the law is broken.
stopped : IsAsDue annex_b (due annex_b (expiry T201) (managed_after annex_b 0 (both ++ expires ∷ []))) (told (record nothing { notes = Removed 64 ∷ []; orders = Stop T201 ∷ [] })) → ⊥
unfolding exchanged read_by reading header_of control_of unnumbered_of
stopped h = cc h.orders

unserved : cause_due annex_b (managed_after annex_b 0 (on_0 (Assign 64) ∷ on_0 (Assign 65) ∷ on_0 (Check 64) ∷ [])) (λ service tei. 4) (hears (stream.frame (0xFC ∷ 0xFF ∷ 0x03 ∷ 0x0F ∷ 0x12 ∷ 0x34 ∷ 0x07 ∷ 0x83 ∷ []))) ≡ Some Unserved → ⊥
unfolding exchanged read_by reading header_of control_of unnumbered_of
unserved e = cc e

answer_unserved : cause_due annex_b (managed_after annex_b 0 one_left) (λ service tei. 4) (hears (stream.frame (0xFC ∷ 0xFF ∷ 0x03 ∷ 0x0F ∷ 0x12 ∷ 0x34 ∷ 0x05 ∷ 0x83 ∷ []))) ≡ Some Unserved → ⊥
unfolding exchanged read_by reading header_of control_of unnumbered_of
answer_unserved e = cc e
