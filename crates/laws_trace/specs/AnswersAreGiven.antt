-- What answers a poll, SABME or DISC, and each other control frame that is due, is given within a number of calls.
use Rattle.std.specs.Prelude.{◌≡◌, ℕ, ◌+◌, ◌-◌, ◌<◌, ◌==◌, ◌&&◌, true, false, List, [], ◌∷◌, ◌++◌, length, map, if◌then◌else◌}
use Rattle.lapd_frame.specs.declared.services.Service.{Service}
use Rattle.model_link.specs.declared.frames.ControlFrame.{ControlFrame}
use Rattle.model_line.specs.declared.config.Config.{Config}
use Rattle.model_line.specs.Event as line_event
use Rattle.laws_line.specs.Drains.{most_frames_before}
use Rattle.laws_line.specs.Frames.{lost_in}
use Rattle.laws_line.specs.Requests.{deactivates}
use Rattle.laws_line.specs.card.Among.{AreAmong}
use Rattle.model_card.specs.Card.{fresh}
use Rattle.model_card.specs.Event.{Event, at}
use Rattle.model_card.specs.Run.{moments, after_all}
use Rattle.model_card.specs.Takes.{is_take, takes_of, frames_given}
use Rattle.laws_trace.specs.FramesAreDue.{text}
use Rattle.laws_trace.specs.Managing.{is_on, managed_after, own_of}
use Rattle.laws_trace.specs.NoLossInVain.{puts_by}
use Rattle.laws_trace.specs.Observer.{moment_of}
use Rattle.laws_trace.specs.Outgoing.{outgoing_of}
use Rattle.laws_trace.specs.UnitsGoOut.{units_of}

-- Frames with priority over links (profile): messages of TEI management that are owed, and unit data that waits.
abbrev pub priority_waiting : Config → ℕ → List Event → ℕ
priority_waiting c line past =
    let w = managed_after c line past in
    length w.owed + length (own_of c w).owed + length (units_of c past line)

-- How many more of them come during `later`. A call for the next frame only takes one away, so it counts as none.
unfoldable pub priority_added : Config → ℕ → List Event → List Event → ℕ
priority_added c line past [] = 0
priority_added c line past (e ∷ later) =
    let now = past ++ e ∷ [] in
    let added = if e.line == line && is_take e.what then 0 else priority_waiting c line now - priority_waiting c line past in
    added + priority_added c line now later

-- During `later` a TEI is on the line, to an observer, and a link of it is not deactivated.
unfoldable pub Stays : Config → ℕ → Service → ℕ → List Event → List Event → Type 0
Stays c line service tei past [] = is_on tei (managed_after c line past) ≡ true
Stays c line service tei past (e ∷ later) =
    (is_on tei (managed_after c line past) ≡ true) × ((e.line == line && deactivates service tei e.what) ≡ false) × Stays c line service tei (past ++ e ∷ []) later

-- The control frames that wait on a link, oldest first, to an observer; and their octets.
abbrev pub queue : Config → ℕ → Service → ℕ → List Event → List ControlFrame
queue c line service tei past = (outgoing_of c service tei line past).waiting

abbrev pub texts : Config → Service → ℕ → List ControlFrame → List (List ℕ)
texts c service tei fs = map (λ (f : ControlFrame). text c service tei f.command f.control []) fs

-- What an event makes due joins the end of the queue, if its answer tells no frame as lost, whatever the card.
pub record JoinsQueue (c : Config) (line : ℕ) (service : Service) (tei : ℕ) (past : List Event) (event : line_event.Event) : Type 0 where
  pub earlier : List ControlFrame
  pub queue_is : queue c line service tei (past ++ at line event ∷ []) ≡ earlier ++ puts_by c line past event service tei

abbrev pub AnswersAreSent : Config → List Event → ℕ → Type 0
AnswersAreSent c events line =
    (past : List Event) (event : line_event.Event) (later : List Event) (service : Service) (tei : ℕ) →
    events ≡ past ++ at line event ∷ later →
    lost_in (moment_of c past line event).answer ≡ 0 →
    JoinsQueue c line service tei past event

-- All that is in the queue is sent, in order, each frame by a call of its own, once there were enough calls: more than
-- the frames that may go before a control frame. The TEI stays on the line, and the link is not deactivated.
abbrev pub QueueIsSent : Config → List Event → ℕ → Type 0
QueueIsSent c events line =
    (past later : List Event) (service : Service) (tei : ℕ) →
    events ≡ past ++ later →
    Stays c line service tei past later →
    most_frames_before c + priority_added c line past later < takes_of line later →
    AreAmong (texts c service tei (outgoing_of c service tei line past).waiting) (frames_given line (moments (after_all (fresh c) past) later))
