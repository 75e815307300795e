-- Worked values: a release and an establishment that layer 3 asks for in state 5, by annex B and in the profile; and what
-- breaks the laws.
use Rattle.std.specs.Prelude.{◌≡◌, ℕ, true, false, List, [], ◌∷◌, Result, Ok, Err, refl}
use Rattle.model_bits.specs.Stream as stream
use Rattle.lapd_frame.specs.declared.controls.Control.TheVariants.{Sabme}
use Rattle.lapd_frame.specs.declared.notes.Note.{Note}
use Rattle.lapd_frame.specs.declared.notes.Note.TheVariants.{EstablishIndication, EstablishConfirm, ReleaseIndication, ReleaseConfirm}
use Rattle.lapd_frame.specs.declared.refusals.Refusal.{Refusal}
use Rattle.lapd_frame.specs.declared.refusals.Refusal.TheVariants.{WrongState}
use Rattle.lapd_frame.specs.declared.readings.Reading.TheVariants.{AnnexB}
use Rattle.lapd_frame.specs.declared.services.Service.TheVariants.{Call}
use Rattle.lapd_frame.specs.declared.timers.Timer.TheVariants.{T200}
use Rattle.lapd_frame.specs.Reading.{reading, header_of, control_of, unnumbered_of}
use Rattle.lapd_frame.specs.Senders.{exchanged, reading as read_by}
use Rattle.model_teis.specs.network.Events as teis
use Rattle.model_link.specs.Events as link
use Rattle.model_line.specs.declared.config.Config.{Config}
use Rattle.model_line.specs.Machine as lines
use Rattle.model_line.specs.Request.{Assign, Establish, Release}
use Rattle.model_card.specs.Event.{Event}
use Rattle.model_card.specs.Run.{moments}
use Rattle.laws_link.specs.Waiting.{as_command}
use Rattle.laws_line.specs.card.Worked.{usual, on_0}
use Rattle.laws_trace.specs.News.{due}
use Rattle.laws_trace.specs.Observer.{Observed, anew, by_expiry, by_heard, by_request, in_state}
use Rattle.laws_trace.specs.Outgoing.{outgoing_of}
use Rattle.laws_trace.specs.Reasons.{may_establish, may_release}
use Rattle.laws_trace.specs.RequestsTakeEffect.{Effect, effect, deactivated}

abbrev annex_b : Config
annex_b = record usual { reading = AnnexB }

-- A link that layer 3 asked for; one whose release is owed; and one that an error establishes anew, with an I-frame out.
abbrev asked : Observed
asked = record (in_state 5) { asked = true }

abbrev owed : Observed
owed = record (in_state 5) { owed = true }

abbrev by_error : Observed
by_error = anew (record (in_state 7) { next = 1 })

-- Each request is granted once: a release is not, while one is owed. In the profile neither is.
may : may_release annex_b asked ∷ may_release annex_b owed ∷ may_establish annex_b owed ∷ may_release usual asked ∷ may_establish usual by_error ∷ [] ≡ true ∷ false ∷ true ∷ false ∷ false ∷ []
may = refl

-- The one that came last holds, and nothing is outstanding any more.
release_holds : by_request annex_b Call 64 (Release Call 64) by_error ≡ owed
release_holds = refl

establish_holds : by_request annex_b Call 64 (Establish Call 64) owed ≡ asked
establish_holds = refl

also_asked : by_request annex_b Call 64 (Establish Call 64) by_error ≡ asked
also_asked = refl

-- of another link
none_of_it : by_request annex_b Call 64 (Release Call 65) by_error ≡ by_error
none_of_it = refl

-- UA with F=1 leads to state 6 if a release is owed, where T200 expires from the start, and to state 7 if not.
abbrev ua : stream.Event
ua = stream.frame (0x02 ∷ 0x81 ∷ 0x73 ∷ [])

carried_out : by_heard annex_b Call 64 ua (record owed { expiries = 2 }) ≡ in_state 6
unfolding exchanged read_by reading header_of control_of unnumbered_of
carried_out = refl

comes_up : by_heard annex_b Call 64 ua asked ≡ in_state 7
unfolding exchanged read_by reading header_of control_of unnumbered_of
comes_up = refl

-- T200 is counted as it was, and a release is owed until the last.
abbrev expires : ℕ → Observed
expires before = by_expiry annex_b Call 64 (T200 Call 64) (record owed { expiries = before })

counts_on : expires 2 ≡ record owed { expiries = 3 }
counts_on = refl

gives_up : expires 3 ≡ in_state 4
gives_up = refl

-- What is due: a confirm as it ends while a release is owed, by DM or T200, and nothing by UA; else an indication as it ends.
abbrev told : Observed → ℕ → List Note
told was to = due Call 64 false false false was to

notes_due : told owed 4 ∷ told owed 6 ∷ told asked 4 ∷ told asked 7 ∷ [] ≡ (ReleaseConfirm Call 64 ∷ []) ∷ [] ∷ (ReleaseIndication Call 64 ∷ []) ∷ (EstablishConfirm Call 64 ∷ []) ∷ []
notes_due = refl

-- An establishment that an error began is an indication to layer 3, if contents are out; a confirm if it asks for it, too.
confirm_due : told by_error 7 ∷ told (by_request annex_b Call 64 (Establish Call 64) by_error) 7 ∷ [] ≡ (EstablishIndication Call 64 ∷ []) ∷ (EstablishConfirm Call 64 ∷ []) ∷ []
confirm_due = refl

-- As it is deactivated, that is a confirm, too, and so it is as its TEI leaves.
ends : deactivated Call 64 owed ≡ record { link = in_state 4; waiting = []; kept = []; told = ReleaseConfirm Call 64 ∷ [] }
ends = refl

leaves : told owed 1 ≡ ReleaseConfirm Call 64 ∷ []
leaves = refl

-- At a line: SABME waits, and nothing is put to it.
abbrev asks : Config → List Event
asks c = on_0 (Assign 64) ∷ on_0 (Establish Call 64) ∷ []

abbrev takes : Config → link.Request → Result Effect Refusal
takes c r = effect c false Call 64 (outgoing_of c Call 64 0 (asks c)) r

decided : takes annex_b link.Release ≡ Ok (record { link = owed; waiting = as_command (Sabme true); kept = []; told = [] })
unfolding moments lines.after lines.answer lines.takes_slot teis.course teis.refusal
decided = refl

again : takes annex_b link.Establish ≡ Ok (record { link = asked; waiting = as_command (Sabme true); kept = []; told = [] })
unfolding moments lines.after lines.answer lines.takes_slot teis.course teis.refusal
again = refl

refused_both : takes usual link.Release ∷ takes usual link.Establish ∷ [] ≡ Err WrongState ∷ Err WrongState ∷ []
unfolding moments lines.after lines.answer lines.takes_slot teis.course teis.refusal
refused_both = refl

-- Where UA established a link whose release is owed, another was granted meanwhile, or its end was an indication, the laws would
-- be broken.
by_itself : 7 ≡ (by_heard annex_b Call 64 ua owed).state → ⊥
unfolding exchanged read_by reading header_of control_of unnumbered_of
by_itself e = cc e

twice : true ≡ may_release annex_b owed → ⊥
twice e = cc e

indicated : ReleaseIndication Call 64 ∷ [] ≡ told owed 4 → ⊥
indicated e = cc e
