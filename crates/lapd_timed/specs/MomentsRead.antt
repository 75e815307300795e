-- What it means that the timers of a card are restored from an image, part by part.
use Rattle.std.specs.List.{range_with_len}
use Rattle.std.specs.Prelude.{◌≡◌, ◌≢◌, ℕ, ◌+◌, ◌*◌, ◌<◌, ◌≤◌, Bool, false, List, [], ◌∷◌, ◌++◌, All, flat_map, is_some, if◌then◌else◌}
use Rattle.lapd_clock.specs.Timer.{Timer, T200, T203, T201, T202}
use Rattle.lapd_clock.specs.Timers.{Expiry}
use Rattle.lapd_timed.specs.MomentsImage.{link_moments, links_moments, own_moments, line_moments, link_runs, line_runs, RunsHere}
use Rattle.lapd_timed.specs.OfCard.{Holds, slot_of, line_slot_of}
use Rattle.lapd_clock.specs.OwnPlaces.{at, is_running}
use Rattle.model_card.specs.Card.{Card, line_at}
use Rattle.model_image.specs.Clocks.{moment, moments_at}
use Rattle.model_line.specs.Image.{timer_numbered}
use Rattle.model_link.specs.declared.timers.LinkTimer.{LinkTimer}
use Rattle.model_timed.specs.Clock.{Clock}
use Rattle.lapd_timed.specs.Stands.{IsOn}

-- Each timer of a clock falls due at this moment at the latest.
abbrev pub FallsUntil : ℕ → Clock → Type 0
FallsUntil latest c = All (λ e. e.moment ≤ latest) c.running

-- The image of whatever value stood at the front is passed.
abbrev pub Passes : {A : Type 0} → (A → List ℕ) → (A → Type 0) → List ℕ → List ℕ → Type 0
Passes image IsSaved old new = (value : _) (rest : List ℕ) → IsSaved value → old ≡ image value ++ rest → new ≡ rest

-- The places of timers are those of the lines of a card.
pub record ArePlacesOf (card : Card) (terminals : ℕ) (es : List Expiry) : Type 0 where
  pub terminals_are : card.config.terminals ≡ terminals
  pub holds : Holds card.config.lines (2 * terminals) (slot_of terminals) (line_slot_of terminals) (IsOn card) es

-- A place is one of a line; and no timer runs at those.
abbrev pub IsPlaceOf : ℕ → ℕ → ℕ → Type 0
IsPlaceOf terminals line i = (line * (4 * terminals + 2) ≤ i) × (i < line * (4 * terminals + 2) + (4 * terminals + 2))

abbrev pub RestsHere : ℕ → ℕ → List Expiry → Type 0
RestsHere terminals line es = (i : ℕ) → IsPlaceOf terminals line i → is_running (at i es) ≡ false

-- The moments of a link of a line were read, and its timers run; all other places are as they were.
pub record IsLinkRead (card : Card) (terminals line number : ℕ) (front rest : List ℕ) (old new : List Expiry) : Type 0 where
  pub places : ArePlacesOf card terminals new
  pub octets : front ≡ link_moments terminals line new number ++ rest
  pub here : (timer : LinkTimer) → is_running (at (slot_of terminals line number timer) new) ≡ link_runs (line_at line card) number timer
  pub others : (i : ℕ) → ((timer : LinkTimer) → i ≢ slot_of terminals line number timer) → at i new ≡ at i old

-- So were those of as many links of a line; of a whole line; and of so many lines, where none runs on the others.
pub record AreLinksRead (card : Card) (terminals line count : ℕ) (front rest : List ℕ) (old new : List Expiry) : Type 0 where
  pub places : ArePlacesOf card terminals new
  pub octets : front ≡ links_moments terminals line new count ++ rest
  pub here : (number : ℕ) (timer : LinkTimer) → number < count → is_running (at (slot_of terminals line number timer) new) ≡ link_runs (line_at line card) number timer
  pub others : (i : ℕ) → ((number : ℕ) (timer : LinkTimer) → number < count → i ≢ slot_of terminals line number timer) → at i new ≡ at i old

pub record IsLineRead (card : Card) (terminals line : ℕ) (front rest : List ℕ) (old new : List Expiry) : Type 0 where
  pub places : ArePlacesOf card terminals new
  pub octets : front ≡ line_moments terminals new line ++ rest
  pub here : RunsHere terminals line (line_at line card) new
  pub others : (i : ℕ) → (IsPlaceOf terminals line i → ⊥) → at i new ≡ at i old

pub record AreLinesRead (card : Card) (terminals count : ℕ) (front rest : List ℕ) (es : List Expiry) : Type 0 where
  pub places : ArePlacesOf card terminals es
  pub octets : front ≡ flat_map (line_moments terminals es) (range_with_len 0 count) ++ rest
  pub here : (line : ℕ) → line < count → RunsHere terminals line (line_at line card) es
  pub others : (line : ℕ) → count ≤ line → line < card.config.lines → RestsHere terminals line es

-- And that of a line's own timer.
pub record IsOwnRead (card : Card) (terminals line : ℕ) (front rest : List ℕ) (old new : List Expiry) : Type 0 where
  pub places : ArePlacesOf card terminals new
  pub octets : front ≡ own_moments terminals line new ++ rest
  pub here : (which : Bool) → is_running (at (line_slot_of terminals which line) new) ≡ line_runs (line_at line card) which
  pub others : (i : ℕ) → ((which : Bool) → i ≢ line_slot_of terminals which line) → at i new ≡ at i old

-- None runs so far.
abbrev pub RestsAt : ℕ → ℕ → ℕ → List Expiry → Type 0
RestsAt terminals line number es = (timer : LinkTimer) → is_running (at (slot_of terminals line number timer) es) ≡ false

abbrev pub OwnRest : ℕ → ℕ → List Expiry → Type 0
OwnRest terminals line es = (which : Bool) → is_running (at (line_slot_of terminals which line) es) ≡ false

-- What an image has of a link's timer, of those of as many links of a line, of a line's own, and of those of as many lines.
abbrev pub link_part : Card → ℕ → ℕ → Clock → List ℕ
link_part card line number clock = flat_map (moment clock line) (timer_numbered (line_at line card) number)

abbrev pub part_of_link : Card → Clock → ℕ → ℕ → List ℕ
part_of_link card clock line number = link_part card line number clock

abbrev pub links_part : Card → ℕ → ℕ → Clock → List ℕ
links_part card line count clock = flat_map (part_of_link card clock line) (range_with_len 0 count)

abbrev pub own_part : Card → ℕ → Clock → List ℕ
own_part card line clock =
    flat_map (moment clock line) ((if is_some (line_at line card).management.check then T201 ∷ [] else []) ++ (if is_some (line_at line card).own.procedure then T202 ∷ [] else []))

abbrev pub line_part : Card → ℕ → Clock → List ℕ
line_part card line clock = moments_at card clock line

abbrev pub lines_part : Card → ℕ → Clock → List ℕ
lines_part card count clock = flat_map (moments_at card clock) (range_with_len 0 count)

-- Which of the places of a link is that of a timer; and of those of a line that of its own timer.
abbrev pub kind_of : Timer → ℕ
kind_of (T200 service tei) = 2
kind_of (T203 service tei) = 3
kind_of T201 = 2
kind_of T202 = 2

abbrev pub own_kind_of : Timer → ℕ
own_kind_of (T200 service tei) = 0
own_kind_of (T203 service tei) = 0
own_kind_of T201 = 0
own_kind_of T202 = 1
