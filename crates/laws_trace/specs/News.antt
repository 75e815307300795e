-- What layer 3 and layer management are told of a link, but for data and unit data.
use Rattle.std.specs.Prelude.{◌≡◌, ℕ, ◌==◌, ◌&&◌, ◌||◌, not, nat_le, Bool, true, false, List, [], ◌∷◌, ◌++◌, map, filter, option_to_list, if◌then◌else◌}
use Rattle.std.specs.Option.{option_map_or}
use Rattle.lapd_frame.specs.declared.controls.Control.{Control}
use Rattle.lapd_frame.specs.declared.controls.Control.TheVariants as control
use Rattle.lapd_frame.specs.declared.controls.Control.TheVariants.{Information, ReceiveReady, ReceiveNotReady, Reject, Sabme, Ua, Ui, Dm, Frmr}
use Rattle.lapd_frame.specs.declared.notes.ErrorCode.{ErrorCode}
use Rattle.lapd_frame.specs.declared.notes.ErrorCode.TheVariants.{A, B, C, D, E, F, G, H, I, J, K, O}
use Rattle.lapd_frame.specs.declared.notes.Note.{Note}
use Rattle.lapd_frame.specs.declared.notes.Note.TheVariants.{EstablishIndication, EstablishConfirm, ReleaseIndication, ReleaseConfirm, Xid, Error}
use Rattle.lapd_frame.specs.declared.services.Service.{Service}
use Rattle.lapd_frame.specs.Grammar.{Parts}
use Rattle.model_line.specs.declared.config.Config.{Config}
use Rattle.model_line.specs.Event as line_event
use Rattle.model_line.specs.Event.{hears, expiry, request, Answer}
use Rattle.model_line.specs.Request.{Establish, Release}
pub use Rattle.laws_link.specs.States.{is_sabme}
use Rattle.laws_line.specs.Heard.{notes_of}
use Rattle.laws_line.specs.Share.{is_granted}
use Rattle.model_card.specs.Event.{Event, at}
use Rattle.laws_trace.specs.LinkFrames.{frame_of, its_frame, brought, is_annex_b, is_too_long, malformed}
use Rattle.laws_trace.specs.Observer.{Observed, is_outstanding, view_of, moment_of, view_behind}
use Rattle.laws_trace.specs.Trace.{is_own, is_up}

-- The notes that say that a link is up, or down, that XID came, and of errors (Q.921 clauses 4.1.1.1, 4.1.1.2 and 4.1.1.7).
abbrev pub is_news : Service → ℕ → Note → Bool
is_news service tei (EstablishIndication of by) = is_own service tei of by
is_news service tei (EstablishConfirm of by) = is_own service tei of by
is_news service tei (ReleaseIndication of by) = is_own service tei of by
is_news service tei (ReleaseConfirm of by) = is_own service tei of by
is_news service tei (Xid of by) = is_own service tei of by
is_news service tei (Error of by code) = is_own service tei of by
is_news service tei other = false

-- The terminal sends SABME, or XID; and layer 3 asks for the release, or for the establishment.
abbrev pub brings : (Control → Bool) → Config → Service → ℕ → line_event.Event → Bool
brings is c service tei what = option_map_or (λ (f : Parts). is f.control) (brought c service tei what) false

abbrev pub is_xid : Control → Bool
is_xid (control.Xid pf) = true
is_xid other = false

abbrev pub releases : Service → ℕ → line_event.Event → Answer → Bool
releases service tei (request (Release of by)) a = is_granted a && is_own service tei of by
releases service tei other a = false

abbrev pub establishes : Service → ℕ → line_event.Event → Answer → Bool
establishes service tei (request (Establish of by)) a = is_granted a && is_own service tei of by
establishes service tei other a = false

-- What is due as a link comes to a state, or stays in it. Where it comes to state 7 from state 4, the terminal established
-- it, which is an indication; from state 5 a confirm, if layer 3 asked for it; and if not, or if the terminal establishes a
-- link anew by SABME, an indication where I-frames are outstanding, or nothing (clauses 5.5.1.2 and 5.7). Where it comes
-- to state 4 from state 6, or from state 5 while a release is owed (annex B), or its TEI leaves then, and where layer 3
-- releases a link in state 4, that is a confirm, and from other states an indication (clauses 5.3.4, 5.5.1.2, 5.5.1.3,
-- 5.5.3.2 and 5.5.3.3). XID is told, and moves nothing (profile).
abbrev pub awaits_release : Observed → Bool
awaits_release o = o.state == 6 || (o.state == 5 && o.owed)

abbrev pub due : Service → ℕ → Bool → Bool → Bool → Observed → ℕ → List Note
due service tei xid sabme released was to =
    if xid then Xid service tei ∷ []
    else if to == 7 then
    (if was.state == 4 then EstablishIndication service tei ∷ [] else if was.state == 5 && was.asked then EstablishConfirm service tei ∷ []
    else if (was.state == 5 || sabme) && is_outstanding was then EstablishIndication service tei ∷ [] else [])
    else if nat_le to 4 then
    (if awaits_release was || (was.state == 4 && released) then ReleaseConfirm service tei ∷ [] else if was.state == 4 then [] else ReleaseIndication service tei ∷ [])
    else []

-- The errors of a link, by the state before and the one to which it comes (appendix II). In states 7 and 8 an N(R) that leads to
-- state 5 is invalid, and in state 7 no enquiry asked for a response with F=1 (clauses 5.8.2 and 5.8.7);
abbrev pub wrong_number : Bool → ℕ → ℕ → List ErrorCode
wrong_number final was to = (if was == 7 && final then A ∷ [] else []) ++ (if is_up was && to == 5 then J ∷ [] else [])

-- clauses 5.7.1 and 5.8.5 to 5.8.7: what is malformed or too long is an error in states 7 and 8, by annex B in each. The first bit
-- says that the frame is such an error, the second that it is a command;
abbrev pub minds : Config → ℕ → Bool
minds c state = is_up state || is_annex_b c

abbrev pub wrong_frame : Bool → Bool → Control → ℕ → ℕ → List ErrorCode
wrong_frame long command (Information ns nr p) was to = if long then O ∷ [] else wrong_number false was to
wrong_frame long command (Ui p) was to = if long then O ∷ [] else []
wrong_frame long command (ReceiveReady nr pf) was to = wrong_number (not command && pf) was to
wrong_frame long command (ReceiveNotReady nr pf) was to = wrong_number (not command && pf) was to
wrong_frame long command (Reject nr pf) was to = wrong_number (not command && pf) was to
wrong_frame long command (Sabme p) was to = if is_up was then F ∷ [] else []
wrong_frame long command (Dm f) was to = if not (is_up was) then [] else if f then B ∷ [] else E ∷ []
wrong_frame long command (Frmr f) was to = if is_up was then K ∷ [] else []
wrong_frame long command (Ua f) was to = if not f then D ∷ [] else if was == 5 || was == 6 then [] else C ∷ []
wrong_frame long command other was to = []

-- and where T200 gives a state up (clauses 5.5.1.3, 5.5.3.3 and 5.6.7).
abbrev pub given_up : ℕ → ℕ → List ErrorCode
given_up was to = if was == 5 && to == 4 then G ∷ [] else if was == 6 && to == 4 then H ∷ [] else if was == 8 && to == 5 then I ∷ [] else []

abbrev pub wrong : Config → Service → ℕ → line_event.Event → ℕ → ℕ → List ErrorCode
wrong c service tei (hears e) was to =
    (if minds c was then option_to_list (malformed c service tei e) else [])
    ++ option_map_or (λ (f : Parts). wrong_frame (is_too_long c f && minds c was) f.address.command f.control was to) (its_frame service tei (frame_of c e)) []
wrong c service tei (expiry timer) was to = given_up was to
wrong c service tei other was to = []

-- So these notes are due by an event at the line, errors first; and none where the TEI was not on the line.
abbrev pub notes_due : Config → Service → ℕ → Observed → Observed → line_event.Event → Answer → List Note
notes_due c service tei was now what a =
    if was.state == 1 then []
    else map (Error service tei) (wrong c service tei what was.state now.state)
    ++ due service tei (brings is_xid c service tei what) (brings is_sabme c service tei what) (releases service tei what a) was now.state

-- And they are exactly those of a link, of these kinds, in the answer.
abbrev pub NewsIsTold : Config → List Event → ℕ → Type 0
NewsIsTold c events number =
    (service : Service) (tei : ℕ) (before : List Event) (what : line_event.Event) (behind : List Event) → events ≡ before ++ at number what ∷ behind →
    let a = (moment_of c before number what).answer in
    let was = (view_of c service tei number before).link in
    let now = (view_behind c service tei number before what).link in
    filter (is_news service tei) (notes_of a) ≡ notes_due c service tei was now what a
