-- What is noted of the links of a card: their states, and since when they are so.
use Rattle.std.specs.Prelude.{◌≡◌, ◌≢◌, ℕ, ◌+◌, ◌*◌, ◌<◌, ◌≤◌, ◌==◌, All, Bool, List, get_or, set, replicate, length, Some, is_some, not, if◌then◌else◌}
use Rattle.model_card.specs.Card.{Card, line_at}
use Rattle.model_line.specs.Line.{Line, tei_at, place_at}
use Rattle.model_timed.specs.Changes.{Mark, Marks, standing, seen}

-- As plain values: line by line, link by link.
pub record HeldMarks : Type 0 where
  pub links : ℕ
  pub states : List ℕ
  pub moments : List ℕ

abbrev pub unchanged : ℕ → ℕ → HeldMarks
unchanged lines links = record { links = links; states = replicate (lines * links) 0; moments = replicate (lines * links) 0 }

abbrev pub slot_in : HeldMarks → ℕ → ℕ → ℕ
slot_in h line number = line * h.links + number

-- A link is in a state at a moment.
abbrev pub marked_at : ℕ → ℕ → ℕ → HeldMarks → HeldMarks
marked_at i state now h =
    if get_or h.states i 0 == state then h else record h { states = set h.states i state; moments = set h.moments i now }

-- Of a link this is the moment.
abbrev pub with_moment : ℕ → ℕ → HeldMarks → HeldMarks
with_moment i moment h = record h { moments = set h.moments i moment }

-- So many moments, none of which is after now.
pub record ArePast (count now : ℕ) (moments : List ℕ) : Type 0 where
  pub each : length moments ≡ count
  pub past : All (λ moment. moment ≤ now) moments

-- What is noted of a link.
abbrev pub mark_in : HeldMarks → ℕ → ℕ → Mark
mark_in h line number = record { state = get_or h.states (slot_in h line number) 0; moment = get_or h.moments (slot_in h line number) 0 }

-- Whether a TEI was at the place of a link.
abbrev pub has_state : HeldMarks → ℕ → ℕ → Bool
has_state h line number = not (get_or h.states (slot_in h line number) 0 == 0)

-- Each link of a line is in its one of some states at a moment, and the others stay as they are.
pub record AreAllNoted (line now : ℕ) (states : List ℕ) (old new : HeldMarks) : Type 0 where
  pub links : new.links ≡ old.links
  pub count : length new.states ≡ length old.states
  pub moments : length new.moments ≡ length old.moments
  pub here : (number : ℕ) → number < old.links → mark_in new line number ≡ seen now (get_or states number 0) (mark_in old line number)
  pub others : (other number : ℕ) → number < old.links → other ≢ line → mark_in new other number ≡ mark_in old other number

-- They are those of a card: of each of its links its state as it is, and the moment.
pub record AreMarks (lines links : ℕ) (h : HeldMarks) (card : Card) (marks : Marks) : Type 0 where
  pub lines_are : card.config.lines ≡ lines
  pub terminals_are : 2 * card.config.terminals ≡ links
  pub links_are : h.links ≡ links
  pub count : length h.states ≡ lines * links
  pub as_many : length h.moments ≡ length h.states
  pub up_to_date : (line number : ℕ) → line < lines → number < links → (marks line number).state ≡ standing number (line_at line card)
  pub held : (line number : ℕ) → line < lines → number < links → mark_in h line number ≡ marks line number

-- The links of a line that a card may have changed, and no others: those that are said, or none of another line.
pub record IsSameBut (lines links line : ℕ) (Touched : ℕ → Type 0) (old new : Card) : Type 0 where
  pub config : new.config ≡ old.config
  pub others : (other number : ℕ) → other < lines → number < links → (other ≡ line → Touched number → ⊥) → standing number (line_at other new) ≡ standing number (line_at other old)

-- A link is one of a TEI; and any is.
abbrev pub IsOfTei : ℕ → ℕ → Card → ℕ → Type 0
IsOfTei line tei card number = tei_at (place_at number) (line_at line card) ≡ Some tei

-- Whether a TEI is at the place of a link.
abbrev pub is_placed : ℕ → Line → Bool
is_placed number l = is_some (tei_at (place_at number) l)

-- A link is one that an event of this TEI may have changed. Where the TEI is the group's, the event is one of TEI management: a TEI
-- has come to the link's place, or left it.
abbrev pub IsTouched : ℕ → ℕ → Card → Card → ℕ → Type 0
IsTouched line tei old new number =
    (tei ≢ 127 → IsOfTei line tei new number) × (tei ≡ 127 → is_placed number (line_at line old) ≢ is_placed number (line_at line new))

abbrev pub IsAny : ℕ → Type 0
IsAny number = Unit {0}

-- The moment that is noted of a link.
abbrev pub moment_in : Marks → ℕ → ℕ → ℕ
moment_in marks line number = (marks line number).moment
