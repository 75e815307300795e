-- What a save and a restore come to, in words of their own: those of `lapd.h`.
use Rattle.std.specs.Prelude.{◌≡◌, ◌≢◌, ◌⊎◌, ◌≤◌, ◌<◌, ℕ, ◌+◌, ◌*◌, Bool, true, false, List, [], length, replicate, take, drop, Option, None, Some, IfSome, Ok, is_some}
use Rattle.lapd_card.specs.Image.{begun_as}
use Rattle.lapd_card.specs.Kinds.{card_in, Machine}
use Rattle.lapd_clock.specs.Image as clocks
use Rattle.lapd_clock.specs.Timer.{Lengths}
use Rattle.lapd_clock.specs.Timers.{after_due, idle, Timers}
use Rattle.lapd_frame.specs.declared.services.Service.{Service}
use Rattle.lapd_timed.specs.Image.{kind_in}
use Rattle.model_card.specs.Card.{Card}
use Rattle.model_card.specs.Room.{room}
use Rattle.model_card.specs.declared.kinds.CardKind.{CardKind}
use Rattle.model_image.specs.Images.{image_of, Saved}
use Rattle.model_line.specs.Most.{most_octets}
use Rattle.model_image.specs.Restored.{GoesOnAs, IsRestored}
use Rattle.model_link.specs.declared.rooms.Room.{Room}
use Rattle.model_timed.specs.Clock.{Clock, with_lengths}
use Rattle.lapd_c.specs.declared.card.CardHandle.{CardHandle}
use Rattle.lapd_c.specs.declared.clock.ClockHandle.{ClockHandle}
use Rattle.lapd_c.specs.declared.plain.config.PlainConfig.{PlainConfig}
use Rattle.lapd_c.specs.declared.plain.reports.PlainReport.{PlainReport}
use Rattle.lapd_c.specs.declared.plain.timers.PlainLengths.{PlainLengths}
use Rattle.lapd_c.specs.declared.plain.timers.PlainOrder.{PlainOrder}
use Rattle.lapd_c.specs.CalledBy.{Asked, Called, IsCallOf}
use Rattle.lapd_c.specs.Calls.{IsCardStart, IsTimedStart}
use Rattle.lapd_c.specs.Cards.{card_of, marks_at, FramesStand, HandleStands, OctetsStand}
use Rattle.lapd_c.specs.ClockImages.{IsClockRestore, IsClockSave}
use Rattle.lapd_c.specs.Clocks.{after_apply, after_lengths, clock_of}
use Rattle.lapd_c.specs.Config.{config_fault, config_in}
use Rattle.lapd_c.specs.Exchange.{Exchanges, is_exchange}
use Rattle.lapd_c.specs.FallsDue.{FindsNoneDue, IsMomentCall, IsTimersCall, LetsFallDue, RefusesMoment}
use Rattle.lapd_c.specs.HandlesLeft.{ClockIsLeft, IsLeft}
use Rattle.lapd_c.specs.Kept.{is_timed, timers_of, TimersStandIn}
use Rattle.lapd_c.specs.Orders.{after_report}
use Rattle.lapd_c.specs.Saves.{image_octets, HandleHolds, IsCardRestore, IsCardSave}
use Rattle.lapd_c.specs.Timers.{lengths_fault, lengths_in, order_in}
use Rattle.lapd_c.specs.Waits.{Waits}
use Rattle.lapd_c.specs.Wanted.{of_octets, OctetsWithLine}

-- Whatever is saved, it stays as it is. If none is there, the status says so. Unless it is OK nothing is written.
pub record SaveIsTold {H X : Type 0} (held : H → Option X) (none : ℕ) (old new : H) (result : ℕ) (before after : List ℕ × ℕ) : Type 0 where
  pub unchanged : held new ≡ held old
  pub not_there : held old ≡ None → (result ≡ none) × (new ≡ old)
  pub unwritten : result ≢ 0 → after ≡ before

-- A restore where none is begins one, or finds the image bad, or no memory. Where one is, it is a second start. Unless it is OK, nothing
-- changes.
pub record RestoreIsTold {H X : Type 0} (held : H → Option X) (old new : H) (result : ℕ) : Type 0 where
  pub none_there : held old ≡ None → (result ≡ 0) ⊎ ((result ≡ 46) ⊎ (result ≡ 22))
  pub second : (x : X) → held old ≡ Some x → (result ≡ 13) × (new ≡ old)
  pub not_ok : result ≢ 0 → new ≡ old
  pub there : result ≡ 0 → held new ≡ None → ⊥

-- A restored card is of the kind that is saved. If it is one of octets, each of its lines has a port where nothing has come and nothing
-- has gone.
pub record BeginsAnew (s : Saved) (new : CardHandle) : Type 0 where
  pub octets : s.of_octets ≡ true
      → OctetsStand new (record { card = s.card; ports = replicate s.card.config.lines (record { received = []; items = []; given = [] }) })
  pub frames : s.of_octets ≡ false → FramesStand new s.card

-- A card was restored from the image of another. It goes on as that one would.
pub record GoesOnFrom (s : Saved) (old new : CardHandle) : Type 0 where
  pub restored : Saved
  pub read : IsRestored (image_of s) restored
  pub holds : HandleHolds (card_of new) restored
  pub goes_on : GoesOnAs s restored
  -- It stands for this card, is of the same kind, and keeps its own timers as that one does.
  pub stands : HandleStands new (begun_as (kind_in restored) restored.card)
  pub kind : restored.of_octets ≡ s.of_octets
  pub anew : BeginsAnew restored new
  pub timed : is_timed new ≡ is_some s.clock
  -- Each line has a place for its links that wait. A link that waits is on its line.
  pub lines : length (marks_at new) ≡ restored.card.config.lines
  pub waits : (line tei : ℕ) (service : Service) → line < restored.card.config.lines → Waits (marks_at new) line service tei
      → (left : Room) × (room line service tei restored.card ≡ Ok left)
  -- Each link that waited there and is on its line waits here. No other does.
  pub still : (line tei : ℕ) (service : Service) (left : Room) → line < s.card.config.lines → Waits (marks_at old) line service tei
      → room line service tei s.card ≡ Ok left → Waits (marks_at new) line service tei
  pub no_other : (line tei : ℕ) (service : Service) → line < s.card.config.lines → Waits (marks_at new) line service tei
      → Waits (marks_at old) line service tei × ((left : Room) × (room line service tei s.card ≡ Ok left))

-- A clock that may be saved still may be after each call.
pub record ClockStays (c : Timers) : Type 0 where
  pub applied : (line now : ℕ) (order : PlainOrder) → clocks.IsSaved (after_apply c line (order_in order) now)
  pub reported : (line now : ℕ) (r : PlainReport) → clocks.IsSaved (after_report c line r now)
  pub fallen : (now : ℕ) → clocks.IsSaved (after_due c now)
  pub lengthened : (lengths : Lengths) → clocks.IsSaved (after_lengths lengths c)

-- A card is there that may be saved. It stands for a machine, whose card is the one that is saved.
pub record CardMayBeSaved (h : CardHandle) : Type 0 where
  pub machine : Machine
  pub stands : HandleStands h machine
  pub saved : Saved
  pub of_machine : saved.card ≡ card_in machine
  pub holds : HandleHolds (card_of h) saved

-- A card that may be saved still may be after each call, whatever its status: a call of a line, a block of octets, a call with a
-- moment, and one that sets lengths. So it may be where a call leaves it as it was, as each question and each save does.
pub record CardStays (old : CardHandle) : Type 0 where
  pub called : (asked : Asked) (new : CardHandle) (result : ℕ) (before r : PlainReport) → Called asked old new result before r → CardMayBeSaved new
  pub block : (line from to result : ℕ) (taken given given' : List ℕ) (new : CardHandle) (before r : PlainReport) → IsCallOf of_octets line None old new result before r
      → (result ≢ 0 → card_of new ≡ card_of old)
      → OctetsWithLine line old (λ m. is_exchange taken given from ≡ false → result ≡ 19)
      → OctetsWithLine line old (λ m. is_exchange taken given from ≡ true → Exchanges line taken from m old new result given given' to r)
      → CardMayBeSaved new
  pub moment : (now result : ℕ) (new : CardHandle) (before r : PlainReport) → IsMomentCall old new result before r
      → RefusesMoment now old new result → FindsNoneDue now old new result → LetsFallDue now old new result r → CardMayBeSaved new
  pub lengths : (l : PlainLengths) (result : ℕ) (new : CardHandle) → IsTimersCall old new result
      → (is_timed old ≡ true → IfSome (lengths_fault l) (λ wrong. (result ≡ wrong) × (card_of new ≡ card_of old)))
      → (lengths_fault l ≡ None → (m : Card) (c : Clock) → TimersStandIn (timers_of old) m c → (result ≡ 0) × TimersStandIn (timers_of new) m (with_lengths (lengths_in l) c))
      → CardMayBeSaved new
  pub unchanged : (new : CardHandle) → card_of new ≡ card_of old → CardMayBeSaved new

pub record SavesAreServed : Type 0 where
  -- Each leaves a handle that may be given to the next call.
  pub save_leaves : (old new : CardHandle) (result : ℕ) (before after : List ℕ × ℕ) → IsCardSave old new result before after → IsLeft new
  pub restore_leaves : (image : List ℕ) (old new : CardHandle) (result : ℕ) → IsCardRestore image old new result → IsLeft new
  pub clock_save_leaves : (old new : ClockHandle) (result : ℕ) (before after : List ℕ × ℕ) → IsClockSave old new result before after → ClockIsLeft new
  pub clock_restore_leaves : (image : List ℕ) (old new : ClockHandle) (result : ℕ) → IsClockRestore image old new result → ClockIsLeft new
  -- What each comes to.
  pub save : (old new : CardHandle) (result : ℕ) (before after : List ℕ × ℕ) → IsCardSave old new result before after → SaveIsTold card_of 11 old new result before after
  pub clock_save : (old new : ClockHandle) (result : ℕ) (before after : List ℕ × ℕ) → IsClockSave old new result before after → SaveIsTold clock_of 12 old new result before after
  pub restore : (image : List ℕ) (old new : CardHandle) (result : ℕ) → IsCardRestore image old new result → RestoreIsTold card_of old new result
  pub clock_restore : (image : List ℕ) (old new : ClockHandle) (result : ℕ) → IsClockRestore image old new result → RestoreIsTold clock_of old new result
  -- As much room as an image may have is enough for a save, and less is not.
  pub enough : (old new : CardHandle) (result : ℕ) (before after : List ℕ × ℕ) (m : Machine) → IsCardSave old new result before after → HandleStands old m
      → most_octets (card_in m).config (is_timed old) ≤ length before.0 → result ≡ 0
  pub too_little : (old new : CardHandle) (result : ℕ) (before after : List ℕ × ℕ) (m : Machine) → IsCardSave old new result before after → HandleStands old m
      → length before.0 < most_octets (card_in m).config (is_timed old) → result ≡ 19
  pub clock_enough : (old new : ClockHandle) (result : ℕ) (before after : List ℕ × ℕ) (c : Timers) → IsClockSave old new result before after → clock_of old ≡ Some c
      → clocks.most_octets c ≤ length before.0 → result ≡ 0
  pub clock_too_little : (old new : ClockHandle) (result : ℕ) (before after : List ℕ × ℕ) (c : Timers) → IsClockSave old new result before after → clock_of old ≡ Some c
      → length before.0 < clocks.most_octets c → result ≡ 19
  -- What is told of a configuration is enough for a card of each kind, and for a clock.
  pub most : (config : PlainConfig) (m : Machine) (timed : Bool) → (card_in m).config ≡ config_in config → config_fault config ≡ None
      → most_octets (card_in m).config timed ≤ image_octets config
  pub most_of_clock : (config : PlainConfig) (c : Timers) → config_fault config ≡ None → c.lines ≡ config.lines → c.places ≡ 4 * config.terminals + 1
      → clocks.most_octets c ≤ image_octets config
  -- Octets after the image stay as they were.
  pub rest : (old new : CardHandle) (before after : List ℕ × ℕ) (s : Saved) → IsCardSave old new 0 before after → HandleHolds (card_of old) s
      → most_octets s.card.config (is_timed old) ≤ length before.0 → drop after.1 after.0 ≡ drop after.1 before.0
  pub clock_rest : (old new : ClockHandle) (before after : List ℕ × ℕ) (c : Timers) → IsClockSave old new 0 before after → clocks.IsSaved c → clock_of old ≡ Some c
      → clocks.most_octets c ≤ length before.0 → drop after.1 after.0 ≡ drop after.1 before.0
  -- A card that is saved and then restored elsewhere goes on as it is; and a restore takes it, if there is memory.
  pub again : (old same other new : CardHandle) (before after : List ℕ × ℕ) (s : Saved) → IsCardSave old same 0 before after → HandleHolds (card_of old) s
      → most_octets s.card.config (is_timed old) ≤ length before.0 → IsCardRestore (take after.1 after.0) other new 0 → GoesOnFrom s old new
  pub taken : (old same other new : CardHandle) (result : ℕ) (before after : List ℕ × ℕ) (s : Saved) → IsCardSave old same 0 before after → HandleHolds (card_of old) s
      → most_octets s.card.config (is_timed old) ≤ length before.0 → IsCardRestore (take after.1 after.0) other new result → card_of other ≡ None
      → (result ≡ 0) ⊎ (result ≡ 22)
  -- A clock then is as it was.
  pub clock_again : (old same other new : ClockHandle) (before after : List ℕ × ℕ) (c : Timers) → IsClockSave old same 0 before after → clocks.IsSaved c → clock_of old ≡ Some c
      → clocks.most_octets c ≤ length before.0 → IsClockRestore (take after.1 after.0) other new 0 → clock_of new ≡ Some c
  pub clock_taken : (old same other new : ClockHandle) (result : ℕ) (before after : List ℕ × ℕ) (c : Timers) → IsClockSave old same 0 before after → clocks.IsSaved c
      → clock_of old ≡ Some c → clocks.most_octets c ≤ length before.0 → IsClockRestore (take after.1 after.0) other new result → clock_of other ≡ None
      → (result ≡ 0) ⊎ (result ≡ 22)
  -- Whatever image a card is restored from, it begins anew.
  pub anew : (image : List ℕ) (old new : CardHandle) → IsCardRestore image old new 0 → (s : Saved) × IsRestored image s × BeginsAnew s new
  -- Each clock in C may be saved: one that a start begins, or a restore, and so on after each call.
  pub clock_begins : (config : PlainConfig) → config_fault config ≡ None → clocks.IsSaved (idle config.lines config.terminals)
  pub clock_restored : (image : List ℕ) (old new : ClockHandle) (c : Timers) → IsClockRestore image old new 0 → clock_of new ≡ Some c → clocks.IsSaved c
  pub clock_stays : (c : Timers) → clocks.IsSaved c → ClockStays c
  -- Each card in C may be saved, of whichever kind and whoever keeps its timers: one that a start begins, or a restore, and so on
  -- after each call. No premise is needed: time may go on however late, and a moment that is refused changes nothing.
  pub card_begins : (kind : CardKind) (config : PlainConfig) (old new : CardHandle) → IsCardStart kind config old new 0 → CardMayBeSaved new
  pub timed_card_begins : (kind : CardKind) (config : PlainConfig) (lengths : PlainLengths) (old new : CardHandle) → IsTimedStart kind config lengths old new 0 → CardMayBeSaved new
  pub card_restored : (image : List ℕ) (old new : CardHandle) → IsCardRestore image old new 0 → CardMayBeSaved new
  pub card_stays : (old : CardHandle) → CardMayBeSaved old → CardStays old
