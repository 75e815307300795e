-- Which links wait for room, how long, and what is told of them, in words of their own.
use Rattle.std.specs.Prelude.{◌≡◌, ◌≢◌, ◌⊎◌, ◌≤◌, ◌<◌, ◌==◌, ℕ, true, List, length, Ok, if◌then◌else◌}
use Rattle.lapd_frame.specs.declared.refusals.Refusal.TheVariants.{QueueFull}
use Rattle.lapd_frame.specs.declared.services.Service.{Service}
use Rattle.lapd_frame.specs.declared.services.Service.TheVariants.{Call, Packet}
use Rattle.lapd_frame.specs.Services.{sapi_of}
use Rattle.model_card.specs.Card.{Card}
use Rattle.model_card.specs.Room.{room}
use Rattle.model_link.specs.declared.rooms.Room.{Room}
use Rattle.lapd_c.specs.LinkMarks.{AreUnmarked, is_marked, marks_of}
use Rattle.lapd_c.specs.LinkPlaces.{service_at, tei_at}
use Rattle.lapd_c.specs.Reopened.{TellsReopened, WaitsFor, refused_place}
use Rattle.lapd_c.specs.Statuses.{refusal_status}
use Rattle.lapd_c.specs.declared.link_marks.LinkMarks.{LinkMarks}
use Rattle.lapd_c.specs.declared.plain.reports.PlainReport.{PlainReport}

-- The link of a service with a TEI waits at a line: it is marked at its place.
pub record Waits (all : List LinkMarks) (line : ℕ) (service : Service) (tei : ℕ) : Type 0 where
  pub place : ℕ
  pub within : place < 254
  pub of_service : service_at place ≡ service
  pub of_tei : tei_at place ≡ tei
  pub marked : is_marked (marks_of all line) place ≡ true

-- A report tells of it.
pub record IsTold (r : PlainReport) (service : Service) (tei : ℕ) : Type 0 where
  pub reopened : r.reopened ≡ 1
  pub of_service : r.reopened_service ≡ sapi_of service
  pub of_tei : r.reopened_tei ≡ tei

-- Its queue has so much room.
abbrev pub HasRoom : ℕ → Service → ℕ → Card → Room → Type 0
HasRoom line service tei m left = room line service tei m ≡ Ok left

-- What a report tells has room, and has waited.
pub record ToldOne (all : List LinkMarks) (line : ℕ) (m : Card) (r : PlainReport) : Type 0 where
  pub service : Service
  pub tei : ℕ
  pub told : IsTold r service tei
  pub waited : Waits all line service tei
  pub left : Room
  pub has_room : HasRoom line service tei m left
  pub more : 0 < left.queue
  -- It is the first such: the lowest TEI, and of both services of one TEI call control.
  pub lowest : (other : ℕ) (its : Service) (room_there : Room) → Waits all line its other → HasRoom line its other m room_there → 0 < room_there.queue → tei ≤ other
  pub call_first : (its : Service) (room_there : Room) → Waits all line its tei → HasRoom line its tei m room_there → 0 < room_there.queue → (service ≡ Call) ⊎ (its ≡ Packet)

-- After a request is refused, each link waits that did. The request's own link waits, too, if it asked to send data (3) and its queue
-- had no room (5).
pub record WaitsMore (status request sapi its line : ℕ) (old new : List LinkMarks) : Type 0 where
  pub begins : (service : Service) → status ≡ refusal_status QueueFull → request ≡ 3 → sapi ≡ sapi_of service → its ≤ 126 → line < length old → Waits new line service its
  pub stays : (other tei : ℕ) (service : Service) → Waits old other service tei → Waits new other service tei
  pub no_other : (other tei : ℕ) (service : Service) → Waits new other service tei
      → Waits old other service tei ⊎ ((status ≡ 5) × (request ≡ 3) × (other ≡ line) × (service ≡ (if sapi == 0 then Call else Packet)) × (tei ≡ its))
  pub lines : length new ≡ length old

-- Which wait after a call of a line: there each that did, if its TEI is on the line, and if it is not told. Elsewhere all wait that did,
-- and no others. One that waits and has room is told, if there is one.
pub record WaitsOn (line : ℕ) (m : Card) (old new : List LinkMarks) (r : PlainReport) : Type 0 where
  pub stays : (tei : ℕ) (service : Service) (left : Room) → line < length old → Waits old line service tei → HasRoom line service tei m left → IsTold r service tei ⊎ Waits new line service tei
  pub no_other : (tei : ℕ) (service : Service) → line < length old → Waits new line service tei → Waits old line service tei × ((left : Room) × HasRoom line service tei m left)
  pub once : (tei : ℕ) (service : Service) → line < length old → IsTold r service tei → Waits new line service tei → ⊥
  pub one : (tei : ℕ) (service : Service) (left : Room) → Waits old line service tei → HasRoom line service tei m left → 0 < left.queue → r.reopened ≡ 1
  pub told : r.reopened ≡ 1 → ToldOne old line m r
  pub elsewhere : (other tei : ℕ) (service : Service) → other ≢ line → (Waits old other service tei → Waits new other service tei) × (Waits new other service tei → Waits old other service tei)
  pub lines : length new ≡ length old

-- No link waits as a card begins.
pub record LinksReopen : Type 0 where
  pub begins : (all : List LinkMarks) (lines line tei : ℕ) (service : Service) → AreUnmarked lines all → Waits all line service tei → ⊥
  pub refused : (status request sapi its line : ℕ) (old new : List LinkMarks) → WaitsFor (refused_place status request sapi its) line old new → WaitsMore status request sapi its line old new
  pub called : (line : ℕ) (m : Card) (old new : List LinkMarks) (r : PlainReport) → TellsReopened line m old new r → WaitsOn line m old new r
