-- The places of a card's timers: each timer of each link of each line has one, and T201 and T202 of each line.
use Rattle.std.specs.Prelude.{◌≡◌, ◌⊎◌, Bool, true, false, ℕ, ◌+◌, ◌*◌, ◌<◌, List, length}
use Rattle.lapd_frame.specs.declared.services.Service.{Service}
use Rattle.lapd_clock.specs.Firsts.{never}
use Rattle.lapd_clock.specs.Timer.{Timer, T201, T202}
use Rattle.lapd_frame.specs.declared.timers.Timer.TheVariants as timers
use Rattle.lapd_clock.specs.Timers.{Expiry}
use Rattle.model_link.specs.declared.timers.LinkTimer.{LinkTimer}
use Rattle.model_link.specs.declared.timers.LinkTimer.TheVariants.{T200, T203}
use Rattle.model_line.specs.Line.{service_at, place_at}
use Rattle.lapd_clock.specs.OwnPlaces.{at}

abbrev pub timer_of : LinkTimer → Service → ℕ → Timer
timer_of T200 service tei = timers.T200 service tei
timer_of T203 service tei = timers.T203 service tei

-- A line's own timers: T201, and at a terminal T202.
abbrev pub line_timer : Bool → Timer
line_timer false = T201
line_timer true = T202

-- A place is that of a timer of a link, by its number, or of one of a line's own.
pub record OfLink (lines links : ℕ) (slot : ℕ → ℕ → LinkTimer → ℕ) (i : ℕ) : Type 0 where
  pub line : ℕ
  pub number : ℕ
  pub timer : LinkTimer
  pub line_there : line < lines
  pub number_there : number < links
  pub is : i ≡ slot line number timer

pub record OfLine (lines : ℕ) (line_slot : Bool → ℕ → ℕ) (i : ℕ) : Type 0 where
  pub line : ℕ
  pub which : Bool
  pub line_there : line < lines
  pub is : i ≡ line_slot which line

pub record IsSame (line other number more : ℕ) (timer its : LinkTimer) : Type 0 where
  pub line_is : line ≡ other
  pub number_is : number ≡ more
  pub timer_is : timer ≡ its

-- So many places are laid out so: each is one of these, no two are the same, and all are there.
pub record IsLayout (lines links count : ℕ) (slot : ℕ → ℕ → LinkTimer → ℕ) (line_slot : Bool → ℕ → ℕ) : Type 0 where
  pub each : (i : ℕ) → i < count → OfLink lines links slot i ⊎ OfLine lines line_slot i
  pub apart : (line number other more : ℕ) (timer its : LinkTimer) → number < links → more < links → slot line number timer ≡ slot other more its → IsSame line other number more timer its
  pub beside : (line number other : ℕ) (timer : LinkTimer) (which : Bool) → number < links → line_slot which other ≡ slot line number timer → ⊥
  pub two : (line other : ℕ) (which its : Bool) → line_slot which line ≡ line_slot its other → which ≡ its
  pub slot_there : (line number : ℕ) (timer : LinkTimer) → line < lines → number < links → slot line number timer < count
  pub line_slot_there : (line : ℕ) (which : Bool) → line < lines → line_slot which line < count

-- What runs at the place of a link's timer is that timer, of a TEI that is at the link's place of the line.
pub record HoldsOwn (IsOn : ℕ → ℕ → ℕ → Type 0) (line number : ℕ) (timer : LinkTimer) (e : Expiry) : Type 0 where
  pub line_is : e.line ≡ line
  pub its : e.moment < never → (tei : ℕ) × (IsOn line (place_at number) tei × (e.timer ≡ timer_of timer (service_at number) tei))

pub record HoldsLine (which : Bool) (line : ℕ) (e : Expiry) : Type 0 where
  pub line_is : e.line ≡ line
  pub its : e.moment < never → e.timer ≡ line_timer which

pub record Holds (lines links : ℕ) (slot : ℕ → ℕ → LinkTimer → ℕ) (line_slot : Bool → ℕ → ℕ) (IsOn : ℕ → ℕ → ℕ → Type 0) (es : List Expiry) : Type 0 where
  pub layout : IsLayout lines links (length es) slot line_slot
  pub at_links : (line number : ℕ) (timer : LinkTimer) → line < lines → number < links → HoldsOwn IsOn line number timer (at (slot line number timer) es)
  pub at_lines : (line : ℕ) (which : Bool) → line < lines → HoldsLine which line (at (line_slot which line) es)

-- No TEI is at two places of a line, and no two are at one.
pub record AreApart (lines : ℕ) (IsOn : ℕ → ℕ → ℕ → Type 0) : Type 0 where
  pub once : (line place other tei : ℕ) → line < lines → IsOn line place tei → IsOn line other tei → place ≡ other
  pub alone : (line place tei other : ℕ) → line < lines → IsOn line place tei → IsOn line place other → tei ≡ other

-- Of a line there is a place for its T201 and one for its T202, and after these there are four for the two links of each of its TEIs.
abbrev pub kind_of : LinkTimer → ℕ
kind_of T200 = 2
kind_of T203 = 3

abbrev pub slot_of : ℕ → ℕ → ℕ → LinkTimer → ℕ
slot_of terminals line number timer = line * (4 * terminals + 2) + (2 * number + kind_of timer)

abbrev pub line_kind : Bool → ℕ
line_kind false = 0
line_kind true = 1

abbrev pub line_slot_of : ℕ → Bool → ℕ → ℕ
line_slot_of terminals which line = line * (4 * terminals + 2) + line_kind which
