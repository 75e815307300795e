-- Whole lists of events at a card of frames.
--
-- `drive_frames` comes to its clauses in four steps.
-- One line: its contract speaks of every past, and of every list of what others own on the shelf. So it is taken out of the
-- list of lines, changed, and put back (`OneLine` of `lapd_card`).
-- One event: it is one of its line. If it finds the pool full, the slots in use on the shelf are those that the machine counts
-- (`OneEvent` there).
-- A list: the loop keeps the configuration. The card stands for the machine of the run so far. The sink has not failed, and
-- has taken the replies of that run.
-- The laws: they speak of the machine alone, and the card stands for it.
use Rattle.std.specs.Prelude.{◌≡◌, ℕ, List, map, take, Result}
use Rattle.model_bits.specs.Stream.{dropped}
use Rattle.model_line.specs.Came.{came, cause_of}
use Rattle.model_line.specs.Event as line_event
use Rattle.model_line.specs.Request.{request_of}
use Rattle.model_card.specs.ByEvent.{ArePriced}
use Rattle.model_card.specs.Card.{Card, fresh}
use Rattle.model_card.specs.Counted.{all_counted, CountersAreNumbers}
use Rattle.model_card.specs.Drops.{AreDropsWithoutCost, AreDropsWithoutEffect}
use Rattle.model_card.specs.Event.{Event, at}
use Rattle.model_card.specs.Laws.{RefusedByTheTable, RunIsMoments}
use Rattle.model_card.specs.Promises.{IsWithinLimit, IsAmortised, IsAmortisedFromZero, AreRejectsLong, IsIsolated, IsNeverFull, IsNumbered, IsNumberedFromZero}
use Rattle.model_card.specs.Run.{run, moments}
use Rattle.lapd_card.specs.Counted.{counters_in}
use Rattle.lapd_card.specs.FrameCard.{Held}
use Rattle.lapd_card.specs.FrameStands.{FrameStands}
use Rattle.lapd_card.specs.Runs.{Runs}
use Rattle.lapd_card.specs.declared.sink.SinkFault.{SinkFault}
use Rattle.lapd_store.specs.Store.{Store}
use Rattle.laws_promises.specs.Linear.{IsLinear}
use Rattle.laws_promises.specs.Promises.{Promises}
use Rattle.laws_promises.specs.declared.frame_events.FrameEvent as rust

-- What happens at a card of frames. Its octets and contents are seen without references. `Came` of `model_line` says as what a
-- frame that comes is heard, and a fault in place of one. Information fields have at most `n201` octets.
abbrev pub event_of : ℕ → rust.FrameEvent → Event
event_of n201 (rust.TheVariants.Frame line octets) = at line (line_event.hears (came n201 octets.now))
event_of n201 (rust.TheVariants.Failed line fault) = at line (line_event.hears (dropped (cause_of fault)))
event_of n201 (rust.TheVariants.Next line) = at line line_event.next
event_of n201 (rust.TheVariants.Expire line timer) = at line (line_event.expiry timer)
event_of n201 (rust.TheVariants.Request line request) = at line (line_event.request (request_of request))

abbrev pub line_of : rust.FrameEvent → ℕ
line_of (rust.TheVariants.Frame line octets) = line
line_of (rust.TheVariants.Failed line fault) = line
line_of (rust.TheVariants.Next line) = line
line_of (rust.TheVariants.Expire line timer) = line
line_of (rust.TheVariants.Request line request) = line

-- At a card whose information fields have at most `n201` octets.
abbrev pub events_of : ℕ → List rust.FrameEvent → List Event
events_of n201 events = map (event_of n201) events

-- A list of events was run at a card of frames, which keeps its configuration.
pub record HasRun {S K : Type 0} (store : S → Store) (takes misses : K → ℕ → line_event.Answer → K → Type 0) (failures : K → ℕ) (old new : Held S)
    (events : List Event) (before then : K) (result : Result ℕ SinkFault) : Type 0 where
  pub config : new.config ≡ old.config
  pub runs : Runs takes misses failures (FrameStands store old) (FrameStands store new) (λ m es. (run m es).card) (λ m es. (run m es).replies)
      (λ m es. counters_in new.lines ≡ all_counted (counters_in old.lines) (moments m es)) events before then result

-- The laws that hold of each list of events at a card, for the machines for which it stood. They hold of the list, of each front
-- of it, and of each front from a card that has just begun. `KeepsLaws` of `lapd_card` has them of what octets mean.
pub record FramesKeepLaws {S : Type 0} (store : S → Store) (card : Held S) (events : List Event) : Type 0 where
  pub moments : RunIsMoments
  pub refused : RefusedByTheTable
  pub counters_add_up : CountersAreNumbers
  pub by_event : (m : Card) → FrameStands store card m → ArePriced m events
  pub drops : (m : Card) → FrameStands store card m → AreDropsWithoutCost m events
  pub without_effect : (m : Card) → FrameStands store card m → AreDropsWithoutEffect m events
  pub within_limit : (m : Card) (count : ℕ) → FrameStands store card m → IsWithinLimit m (take count events)
  pub amortised : (m : Card) (count : ℕ) → FrameStands store card m → IsAmortised m (take count events)
  pub amortised_from_zero : (count : ℕ) → FrameStands store card (fresh card.config) → IsAmortisedFromZero card.config (take count events)
  pub rejects_are_long : (m : Card) (count : ℕ) → FrameStands store card m → AreRejectsLong m (take count events)
  pub isolated : (count : ℕ) → FrameStands store card (fresh card.config) → IsIsolated card.config (take count events)
  pub never_full : (count : ℕ) → FrameStands store card (fresh card.config) → IsNeverFull card.config (take count events)
  pub numbered : (m : Card) (count : ℕ) → FrameStands store card m → IsNumbered m (take count events)
  pub from_zero : (count : ℕ) → FrameStands store card (fresh card.config) → IsNumberedFromZero card.config (take count events)
  pub linear : (m : Card) (count : ℕ) → FrameStands store card m → IsLinear m (take count events)
  pub promises : (m : Card) → FrameStands store card m → Promises m events
