-- What a link has to send, to whoever watches its line.
use Rattle.std.specs.Prelude.{ℕ, ◌==◌, ◌&&◌, ◌||◌, not, Bool, true, false, List, [], ◌∷◌, ◌++◌, ◌-◌, length, drop, take, filter, fold, if◌then◌else◌}
use Rattle.std.specs.List.{list_any}
use Rattle.lapd_frame.specs.declared.services.Service.{Service}
use Rattle.model_link.specs.declared.frames.ControlFrame.{ControlFrame}
use Rattle.model_line.specs.declared.config.Config.{Config}
use Rattle.model_line.specs.Event as line_event
use Rattle.model_line.specs.Event.{request, Answer}
use Rattle.model_line.specs.Request.{Data}
use Rattle.model_card.specs.Card.{fresh}
use Rattle.model_card.specs.Event.{Event}
use Rattle.model_card.specs.Run.{Moment, moments}
use Rattle.laws_line.specs.Heard.{is_data_of, notes_of}
use Rattle.laws_line.specs.Frames.{lost_in}
use Rattle.laws_line.specs.Loss.{is_loss_of}
use Rattle.laws_line.specs.Requests.{deactivates}
use Rattle.laws_line.specs.Share.{is_granted}
use Rattle.laws_trace.specs.ControlFrames.{put_in}
use Rattle.laws_trace.specs.LinkFrames.{is_frame_of}
use Rattle.laws_trace.specs.Managing.{is_on}
use Rattle.laws_trace.specs.News.{brings, establishes, is_sabme, releases}
use Rattle.laws_trace.specs.Observer.{Observed, View, at_first, steps, views}
use Rattle.laws_trace.specs.Trace.{is_own, is_up, frame_in}

-- What is known of the link; the contents that it keeps from V(A) on, oldest first: those granted and not acknowledged; and
-- the control frames that wait, oldest first: those that were due, and have not begun; and whether an acknowledgement is owed.
pub record Outgoing : Type 0 where
  pub view : View
  pub kept : List (List ℕ)
  pub waiting : List ControlFrame
  pub owes : Bool

-- Data that is granted for a link.
abbrev pub data_granted : Service → ℕ → line_event.Event → Answer → List (List ℕ)
data_granted service tei (request (Data of by contents)) a = if is_granted a && is_own service tei of by then contents ∷ [] else []
data_granted service tei other a = []

-- Layer 3 learns that a link keeps nothing, by an establishment, a release or a deactivation of it that is granted, or by a
-- note: an indication of its establishment, or an indication or a confirm of its release (Q.921 clauses 5.5.1.1, 5.5.3.2 and
-- 5.7). (In state 4 it keeps nothing; by annex B establishments are granted in state 5, too.)
abbrev pub loses : Service → ℕ → line_event.Event → Answer → Bool
loses service tei what a = establishes service tei what a || releases service tei what a || (deactivates service tei what && is_granted a) || list_any (is_loss_of service tei) (notes_of a)

-- How far V(A) goes on in states 7 and 8: by the N(R) that is heard, and not where SABME begins the numbers anew, or the
-- link leaves these states (clauses 3.5.2.3 and 5.5.1.2).
abbrev pub went_on : Bool → Observed → Observed → ℕ
went_on anew was now = if is_up now.state && not anew then steps was.acknowledged now.acknowledged else 0

-- So in a moment of the line none is lost silently: all leave where layer 3 learns it. Else, in states 7 and 8, the oldest
-- leave by which V(A) goes on, and data that is granted comes behind (clauses 5.6.1 and 5.6.3.2).
abbrev pub keeps : Config → Service → ℕ → Observed → Observed → line_event.Event → Answer → List (List ℕ) → List (List ℕ)
keeps c service tei was now what a kept =
    if loses service tei what a then []
    else if is_up was.state then drop (went_on (brings is_sabme c service tei what) was now) kept ++ data_granted service tei what a
    else kept

-- And the first control frame leaves as a frame of the link begins; those that are put come behind, except the last of them
-- that the answer counts as lost; and none waits where the link is deactivated (annex B).
abbrev pub waits : Config → Service → ℕ → Observed → Observed → Moment → List ControlFrame → List ControlFrame
waits c service tei was now m waiting =
    let puts = put_in c service tei was now m in
    if deactivates service tei m.event.what then []
    else drop (length (filter (is_frame_of c service tei) (frame_in m.answer))) waiting ++ take (length puts - lost_in m.answer) puts

abbrev pub is_empty : {X : Type 0} → List X → Bool
is_empty [] = true
is_empty (x ∷ xs) = false

-- Data that is told is to be acknowledged, until a frame of the link is put, or one begins that did not wait: each that
-- does not begin the numbers anew has an N(R) there; and nothing is owed where the link comes to states 7 and 8, or leaves
-- them (clauses 5.6.2 and 5.6.3).
abbrev pub still_owes : Config → Service → ℕ → Observed → Observed → Moment → List ControlFrame → Bool → Bool
still_owes c service tei was now m waiting owes =
    is_up was.state && is_up now.state
    && is_empty (put_in c service tei was now m) && not (is_empty waiting && list_any (is_frame_of c service tei) (frame_in m.answer))
    && (owes || list_any (is_data_of service tei) (notes_of m.answer))

-- While the TEI is on the line.
abbrev pub watches : Config → Service → ℕ → ℕ → Outgoing → Moment → Outgoing
watches c service tei number o m =
    let now = views c service tei number o.view m in
    let stays = is_on tei now.teis && is_on tei o.view.teis in
    let its = m.event.line == number in
    record {
      view = now;
      kept = if stays then (if its then keeps c service tei o.view.link now.link m.event.what m.answer o.kept else o.kept) else [];
      waiting = if stays then (if its then waits c service tei o.view.link now.link m o.waiting else o.waiting) else [];
      owes = stays && (if its then still_owes c service tei o.view.link now.link m o.waiting o.owes else o.owes);
    }

abbrev pub nothing_yet : Outgoing
nothing_yet = record { view = at_first; kept = []; waiting = []; owes = false }

-- After a list of events.
abbrev pub outgoing_of : Config → Service → ℕ → ℕ → List Event → Outgoing
outgoing_of c service tei number events = fold (watches c service tei number) nothing_yet (moments (fresh c) events)
