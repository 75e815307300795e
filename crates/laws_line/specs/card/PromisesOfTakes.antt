-- What is promised of the calls for the next frame in a list of events, from a card on.
use Rattle.std.specs.Prelude.{◌≡◌, ℕ, ◌+◌, ◌-◌, ◌<◌, ◌≤◌, ◌==◌, ◌&&◌, if◌then◌else◌, Bool, false, List, [], ◌∷◌, ◌++◌, map, All, Some, None}
use Rattle.model_line.specs.Event.{next, gave}
use Rattle.model_line.specs.Line.{link_count, service_at, place_at, tei_at, link_at}
use Rattle.laws_line.specs.Drains.{control_text, most_frames, most_frames_before}
use Rattle.laws_line.specs.Among.{priority_waiting}
use Rattle.laws_line.specs.Requests.{deactivates}
use Rattle.model_card.specs.Card.{Card, line_at}
use Rattle.model_card.specs.Event.{Event, at}
use Rattle.model_card.specs.Machine.{after, answer}
use Rattle.model_card.specs.Run.{after_all, moments}
use Rattle.model_card.specs.Takes.{frames_given, AreTakesAt, is_take, takes_at, takes_of}
use Rattle.laws_line.specs.card.Among.{AreAmong}

-- Wherever in a list of events: of the card after any front of it, and of the events behind that.
abbrev pub Wherever : (Card → List Event → Type 0) → Card → List Event → Type 0
Wherever P m events = (front behind : List Event) → events ≡ front ++ behind → P (after_all m front) behind

-- How many messages of TEI management and unit data come at a line by other events than calls for its next frame.
unfoldable pub priority_added_at : ℕ → Card → List Event → ℕ
priority_added_at number card [] = 0
priority_added_at number card (e ∷ events) =
    (if e.line == number && is_take e.what then 0 else priority_waiting (line_at number (after e card)) - priority_waiting (line_at number card))
    + priority_added_at number (after e card) events

-- At the place of a link of a line stays this TEI.
unfoldable pub StaysAt : ℕ → ℕ → ℕ → Card → List Event → Type 0
StaysAt number link tei card [] = tei_at (place_at link) (line_at number card) ≡ Some tei
StaysAt number link tei card (e ∷ events) = (tei_at (place_at link) (line_at number card) ≡ Some tei) × StaysAt number link tei (after e card) events

-- None of these events deactivates the link.
abbrev pub is_deactivated_at : ℕ → ℕ → ℕ → Event → Bool
is_deactivated_at number link tei e = e.line == number && deactivates (service_at link) tei e.what

abbrev pub IsNotDeactivated : ℕ → ℕ → ℕ → List Event → Type 0
IsNotDeactivated number link tei events = All (λ e. is_deactivated_at number link tei e ≡ false) events

-- Whatever happens at the line beside these calls: as long as the TEI stays, and the link is not deactivated, the control frames
-- that wait on it are given in order, each by one of them, once they are more than the configuration allows before the last of
-- these, with each message and unit data that comes meanwhile.
abbrev pub WaitingIsTaken : Card → List Event → Type 0
WaitingIsTaken card events =
    (number link tei : ℕ) → number < card.config.lines → link < link_count card.config → StaysAt number link tei card events →
    IsNotDeactivated number link tei events →
    most_frames_before card.config + priority_added_at number card events < takes_of number events →
    AreAmong (map (control_text card.config link tei) (link_at link (line_at number card)).waiting) (frames_given number (moments card events))

-- Once the line was only called for its next frame, as often as the configuration says, the next call gives none.
abbrev pub CallsComeToAnEnd : Card → List Event → Type 0
CallsComeToAnEnd card events =
    (number : ℕ) → number < card.config.lines → AreTakesAt number events → most_frames card.config ≤ takes_at number events →
    answer (at number next) (after_all card events) ≡ gave None
