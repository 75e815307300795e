-- A link that was refused contents because its queue was full is told once when it has room again.
use Rattle.std.specs.Prelude.{◌≡◌, ℕ, ◌<◌, ◌==◌, ◌&&◌, ◌||◌, if◌then◌else◌, nat_lt, Bool, true, false, not, List, Option, None, Some, Result, Ok, Err}
use Rattle.lapd_frame.specs.declared.refusals.Refusal.{Refusal}
use Rattle.lapd_frame.specs.Services.{sapi_of}
use Rattle.model_link.specs.declared.rooms.Room.{Room}
use Rattle.model_card.specs.Card.{Card}
use Rattle.model_card.specs.Room.{room}
use Rattle.lapd_c.specs.declared.link_marks.LinkMarks.{LinkMarks}
use Rattle.lapd_c.specs.declared.plain.reports.PlainReport.{PlainReport}
use Rattle.lapd_c.specs.LinkMarks.{is_marked, marks_of, MarksBecome}
use Rattle.lapd_c.specs.LinkPlaces.{service_at, tei_at, place_of}

-- Which link waits for room after a refusal: that on which contents were to be sent, by request 3, where its queue is full,
-- status 5. (Of request 4, unit data, that is the line's.)
abbrev pub refused_place : ℕ → ℕ → ℕ → ℕ → Option ℕ
refused_place status request service tei =
    if (status == 5) && (request == 3) && nat_lt tei 127 then Some (place_of service tei) else None

-- It is marked, and stays so if it is refused again.
abbrev pub WaitsFor : Option ℕ → ℕ → List LinkMarks → List LinkMarks → Type 0
WaitsFor None line old new = new ≡ old
WaitsFor (Some place) line old new =
    MarksBecome line (λ other. (place == other) || is_marked (marks_of old line) other) old new

-- A link is there where its TEI is on the line; it is open where its queue has room.
abbrev pub is_room : Result Room Refusal → Bool
is_room (Ok room) = true
is_room (Err why) = false

abbrev pub is_for_more : Result Room Refusal → Bool
is_for_more (Ok room) = nat_lt 0 room.queue
is_for_more (Err why) = false

abbrev pub is_there : ℕ → Card → ℕ → Bool
is_there line m place = is_room (room line (service_at place) (tei_at place) m)

abbrev pub is_open : ℕ → Card → ℕ → Bool
is_open line m place = is_for_more (room line (service_at place) (tei_at place) m)

-- None of the places below one is that of a link that waits and is open.
abbrev pub AreShutBelow : ℕ → ℕ → Card → LinkMarks → Type 0
AreShutBelow to line m waits = (place : ℕ) → place < to → is_marked waits place ≡ true → is_open line m place ≡ false

-- The first that waits and is open, if there is one.
pub record IsOpenFirst (place line : ℕ) (m : Card) (waits : LinkMarks) : Type 0 where
  pub within : place < 254
  pub marked : is_marked waits place ≡ true
  pub opened : is_open line m place ≡ true
  pub below : AreShutBelow place line m waits

abbrev pub IsFirstOpen : Option ℕ → ℕ → Card → LinkMarks → Type 0
IsFirstOpen None line m waits = AreShutBelow 254 line m waits
IsFirstOpen (Some place) line m waits = IsOpenFirst place line m waits

-- A report tells it.
abbrev pub ShowsReopened : PlainReport → Option ℕ → Type 0
ShowsReopened r None = r.reopened ≡ 0
ShowsReopened r (Some place) = (r.reopened ≡ 1) × (r.reopened_service ≡ sapi_of (service_at place)) × (r.reopened_tei ≡ tei_at place)

-- Nothing else of a report is another, but its line, which timer fell due, whose contents are given up, and what is unused.
abbrev pub with_reopened : PlainReport → PlainReport → PlainReport
with_reopened from r = record r {
  reopened = from.reopened;
  reopened_service = from.reopened_service;
  reopened_tei = from.reopened_tei;
  line = from.line;
  expired = from.expired;
  given_up_tei = from.given_up_tei;
  reserved = from.reserved;
}

-- Of those that waited, all wait on but the one that is told, and those that are no longer there.
abbrev pub is_told : Option ℕ → ℕ → Bool
is_told None place = false
is_told (Some told) place = told == place

abbrev pub waits_there : ℕ → Card → LinkMarks → ℕ → Bool
waits_there line m waits place = is_marked waits place && is_there line m place

abbrev pub waits_on : Option ℕ → ℕ → Card → LinkMarks → ℕ → Bool
waits_on told line m waits place = waits_there line m waits place && not (is_told told place)

-- So a call of a line, after which its card stands for this machine, tells in its report of one link at most, and of its line.
pub record TellsReopened (line : ℕ) (m : Card) (old new : List LinkMarks) (r : PlainReport) : Type 0 where
  pub told : Option ℕ
  pub first : IsFirstOpen told line m (marks_of old line)
  pub shown : ShowsReopened r told
  pub waits : MarksBecome line (waits_on told line m (marks_of old line)) old new
  pub of_line : r.line ≡ line
