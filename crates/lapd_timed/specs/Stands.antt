-- What the timers of a card stand for: the clock of a timed card.
use Rattle.std.specs.Prelude.{◌≡◌, ◌⊎◌, ℕ, ◌+◌, ◌*◌, ◌<◌, ◌≤◌, All, Bool, List, Option, None, Some}
use Rattle.std.specs.Option.{option_map_or}
use Rattle.lapd_clock.specs.Given.{lengths_of}
use Rattle.lapd_clock.specs.Timer.{Timer, Lengths, AreInRange}
use Rattle.lapd_clock.specs.Timers.{Expiry}
use Rattle.lapd_card.specs.FrameCard.{Held}
use Rattle.lapd_card.specs.FrameStands.{FrameStands}
use Rattle.lapd_timed.specs.OfCard.{Holds, slot_of, line_slot_of}
use Rattle.lapd_clock.specs.OwnPlaces.{timers_in}
use Rattle.lapd_store.specs.Store.{Store}
use Rattle.model_card.specs.Card.{Card, line_at}
use Rattle.model_card.specs.Event.{Event}
use Rattle.model_card.specs.Machine.{after}
use Rattle.model_card.specs.Reached.{IsReached}
use Rattle.model_line.specs.Line.{tei_at}
use Rattle.model_timed.specs.Clock.{Clock}
use Rattle.model_timed.specs.Changes.{Marks}
use Rattle.model_timed.specs.RunTheSame.{RunAs, left_by, as_they_are}
use Rattle.lapd_timed.specs.Marked.{AreMarks}
use Rattle.lapd_timed.specs.declared.card_timers.CardTimers.{CardTimers}

-- A TEI is at a place of a line of the card.
abbrev pub IsOn : Card → ℕ → ℕ → ℕ → Type 0
IsOn card line place tei = tei_at place (line_at line card) ≡ Some tei

-- What the timers of a card hold, as plain values.
pub record HeldTimers : Type 0 where
  pub lines : ℕ
  pub terminals : ℕ
  pub lengths : Lengths
  pub now : ℕ
  pub moments : List Expiry

abbrev pub held : CardTimers → HeldTimers
held t = record { lines = t.lines; terminals = t.terminals; lengths = lengths_of t.lengths; now = t.moment; moments = t.moments }

-- Timers run for an hour at most, so none that runs falls due later than that after now.
pub record FallsWithinHour (c : Clock) : Type 0 where
  pub lengths : AreInRange c.lengths
  pub moments : All (λ e. e.moment ≤ c.now + 3600000) c.running

-- They are those of a clock: its moment, its lengths, and what runs, each timer at the place that its line and the place of its TEI
-- tell.
pub record AreAt (IsAt : ℕ → ℕ → ℕ → Type 0) (h : HeldTimers) (card : Card) (clock : Clock) : Type 0 where
  pub lines : card.config.lines ≡ h.lines
  pub terminals : card.config.terminals ≡ h.terminals
  pub now : clock.now ≡ h.now
  pub lengths : clock.lengths ≡ h.lengths
  pub running : clock.running ≡ timers_in h.moments
  pub places : Holds h.lines (2 * h.terminals) (slot_of h.terminals) (line_slot_of h.terminals) IsAt h.moments
  pub within_hour : FallsWithinHour clock

-- And what runs is what the lines of the card run, which the caller has left so.
pub record AreKept (left : ℕ → Timer → Bool → Bool) (h : HeldTimers) (card : Card) (clock : Clock) : Type 0 where
  pub reached : IsReached card
  pub clock_is : AreAt (IsOn card) h card clock
  pub same : RunAs left card clock

-- Between two events all run that their lines run; when an event is handed to the card, all but the one that it says has expired.
abbrev pub TimersStand : CardTimers → Card → Clock → Type 0
TimersStand timers card clock = AreKept as_they_are (held timers) card clock

abbrev pub AreLeft : Event → CardTimers → Card → Clock → Type 0
AreLeft e timers card clock = AreKept (left_by e) (held timers) card clock

-- An event at a line of a card has led it to where it is.
pub record HasLedTo {S : Type 0} (store : S → Store) (card : Held S) (line : ℕ) (e : Event) (m : Card) : Type 0 where
  pub line_is : e.line ≡ line
  pub line_there : line < m.config.lines
  pub stands : FrameStands store card (after e m)

-- While orders are carried out, what runs is at the place of a TEI that was on the line before the event, or is so after it.
abbrev pub IsOnAmid : Event → Card → ℕ → ℕ → ℕ → Type 0
IsOnAmid e m line place tei = IsOn m line place tei ⊎ IsOn (after e m) line place tei

abbrev pub AreAmid : Event → CardTimers → Card → Clock → Type 0
AreAmid e timers m clock = AreAt (IsOnAmid e m) (held timers) m clock

-- And what is noted of the links is so of those of the card.
abbrev pub ChangesStand : CardTimers → Card → Marks → Type 0
ChangesStand timers card marks = AreMarks timers.lines (2 * timers.terminals) timers.changes card marks

-- A card may keep its own timers, or none: then it stands for no clock, nor for marks.
abbrev pub TimersStandIn : Option CardTimers → Card → Clock → Type 0
TimersStandIn None card clock = ⊥
TimersStandIn (Some timers) card clock = TimersStand timers card clock

abbrev pub AreLeftIn : Event → Option CardTimers → Card → Clock → Type 0
AreLeftIn e None card clock = ⊥
AreLeftIn e (Some timers) card clock = AreLeft e timers card clock

abbrev pub ChangesStandIn : Option CardTimers → Card → Marks → Type 0
ChangesStandIn None card marks = ⊥
ChangesStandIn (Some timers) card marks = ChangesStand timers card marks

-- They are of so many lines; and their moment, which is 0 of none.
abbrev pub AreOfLines : ℕ → Option CardTimers → Type 0
AreOfLines lines timers = option_map_or (λ t. t.lines) timers lines ≡ lines

abbrev pub moment_of : Option CardTimers → ℕ
moment_of None = 0
moment_of (Some timers) = timers.moment
