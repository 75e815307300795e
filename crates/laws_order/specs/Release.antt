-- What an end is told of a link whose release was granted, or that is released.
use Rattle.std.specs.Prelude.{◌≡◌, ℕ, ◌==◌, ◌&&◌, ◌||◌, not, Bool, true, false, List, [], ◌∷◌, filter, flat_map, All, Option, None, Some, unwrap_or, ◌⊎◌}
use Rattle.std.specs.List.{list_any}
use Rattle.lapd_frame.specs.declared.controls.Control.{Control}
use Rattle.lapd_frame.specs.declared.controls.Control.TheVariants.{Dm}
use Rattle.lapd_frame.specs.declared.notes.ErrorCode.{ErrorCode}
use Rattle.lapd_frame.specs.declared.notes.ErrorCode.TheVariants.{C, D, H, L, N, O}
use Rattle.lapd_frame.specs.declared.notes.Note.{Note}
use Rattle.lapd_frame.specs.declared.notes.Note.TheVariants.{EstablishIndication, EstablishConfirm, ReleaseIndication, ReleaseConfirm, Error}
use Rattle.lapd_frame.specs.declared.services.Service.{Service}
use Rattle.lapd_frame.specs.declared.readings.Reading.{Reading}
use Rattle.lapd_frame.specs.declared.readings.Reading.TheVariants.{Profile, AnnexB}
use Rattle.model_line.specs.Event.{Event}
use Rattle.model_line.specs.Request.{Request, Establish, Release}
use Rattle.laws_trace.specs.News.{brings}
use Rattle.laws_trace.specs.Trace.{is_own, Seen, noted, granted}
use Rattle.laws_wire.specs.Wire.{Endpoint, Wire}
use Rattle.laws_order.specs.AnySteps.{AnyStepAt, any_near, any_far, IsPossible, any_doing, events_here, seen_near}
use Rattle.laws_order.specs.Order.{data_noted, Past, state_here}

-- The notes of a link's establishment and release, and its errors; but for C and D, each of which tells of a UA that answers nothing,
-- and by annex B for L, N and O, each of which tells of a malformed frame (Q.921 clauses 4.1.1.1, 4.1.1.2, 5.8.5 and 5.8.7).
abbrev pub is_unasked : Reading → ErrorCode → Bool
is_unasked r C = true
is_unasked r D = true
is_unasked AnnexB L = true
is_unasked AnnexB N = true
is_unasked AnnexB O = true
is_unasked r other = false

abbrev pub is_news : Reading → Service → ℕ → Note → Bool
is_news r service tei (EstablishIndication of by) = is_own service tei of by
is_news r service tei (EstablishConfirm of by) = is_own service tei of by
is_news r service tei (ReleaseIndication of by) = is_own service tei of by
is_news r service tei (ReleaseConfirm of by) = is_own service tei of by
is_news r service tei (Error of by why) = is_own service tei of by && not (is_unasked r why)
is_news r service tei other = false

abbrev pub news_in : Reading → Service → ℕ → Seen → List Note
news_in r service tei (noted ns contents) = filter (is_news r service tei) ns
news_in r service tei other = []

abbrev pub news : Reading → Service → ℕ → List Seen → List Note
news r service tei t = flat_map (news_in r service tei) t

-- The establishment is told, or asked for; or another release is granted.
abbrev pub begins_by_note : Service → ℕ → Note → Bool
begins_by_note service tei (EstablishIndication of by) = is_own service tei of by
begins_by_note service tei (EstablishConfirm of by) = is_own service tei of by
begins_by_note service tei other = false

abbrev pub begins_by_request : Service → ℕ → Request → Bool
begins_by_request service tei (Establish of by) = is_own service tei of by
begins_by_request service tei (Release of by) = is_own service tei of by
begins_by_request service tei other = false

abbrev pub begins_by : Service → ℕ → Seen → Bool
begins_by service tei (noted ns contents) = list_any (begins_by_note service tei) ns
begins_by service tei (granted r) = begins_by_request service tei r
begins_by service tei other = false

abbrev pub BeginsNothing : Service → ℕ → List Seen → Type 0
BeginsNothing service tei t = list_any (begins_by service tei) t ≡ false

-- By annex B the other side begins it, too: by DM with F=0 that comes to a link in state 4 (clause 5.5.4).
abbrev pub is_plain_dm : Control → Bool
is_plain_dm (Dm false) = true
is_plain_dm other = false

abbrev pub is_in_4 : Option ℕ → Bool
is_in_4 None = false
is_in_4 (Some state) = state == 4

abbrev pub is_called : Service → ℕ → Endpoint → Event → Bool
is_called service tei s e = is_in_4 (state_here service tei s) && brings is_plain_dm s.card.config service tei e

abbrev pub called_by : Service → ℕ → AnyStepAt → Wire → Bool
called_by service tei (any_near act) w = list_any (is_called service tei w.near) (events_here act w)
called_by service tei (any_far act) w = false

unfoldable pub called : Service → ℕ → List AnyStepAt → Wire → Bool
called service tei [] w = false
called service tei (h ∷ hs) w = called_by service tei h w || called service tei hs (any_doing h w)

abbrev pub NoCall : Reading → Bool → Type 0
NoCall Profile called = Unit {0}
NoCall AnnexB called = called ≡ false

abbrev pub IsNotCalled : Service → ℕ → List AnyStepAt → Wire → Type 0
IsNotCalled service tei hs w = NoCall w.near.card.config.reading (called service tei hs w)

-- Behind a release, nothing yet, or that it is confirmed; with error H before it, where DISC was not answered N200 times again (clauses
-- 5.5.3.2 and 5.5.3.3).
abbrev pub IsToldOfRelease : Service → ℕ → List Note → Type 0
IsToldOfRelease service tei ns =
    (ns ≡ []) ⊎ (ns ≡ ReleaseConfirm service tei ∷ []) ⊎ (ns ≡ Error service tei H ∷ ReleaseConfirm service tei ∷ [])

-- At an end a link is in state 6, as from where the release of one in state 7 or 8 is granted, whatever it kept, whatever is on its way,
-- and whatever the other end is and does. Up to where the establishment is asked for again, or told, this is all that the end is told of
-- it, and no data: here, as in all below, by the reading at that end.
abbrev pub ReleasesEnd : Type 0
ReleasesEnd =
    (service : Service) (tei : ℕ) (w : Wire) (hs : List AnyStepAt) → Past w.near → state_here service tei w.near ≡ Some 6 →
    All (IsPossible service tei w) hs → let behind = seen_near hs w in BeginsNothing service tei behind → IsNotCalled service tei hs w →
    IsToldOfRelease service tei (news w.near.card.config.reading service tei behind) × (data_noted service tei behind ≡ [])

-- And an end at which it is in state 4, as behind each note that it is released, or has no state, as its TEI is not on the line, is told
-- nothing of it.
abbrev pub ReleasedIsOver : Type 0
ReleasedIsOver =
    (service : Service) (tei : ℕ) (w : Wire) (hs : List AnyStepAt) → Past w.near → unwrap_or (state_here service tei w.near) 4 ≡ 4 →
    All (IsPossible service tei w) hs → let behind = seen_near hs w in BeginsNothing service tei behind → IsNotCalled service tei hs w →
    (news w.near.card.config.reading service tei behind ≡ []) × (data_noted service tei behind ≡ [])
