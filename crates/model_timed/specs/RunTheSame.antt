-- The timers that run at the clock of a timed card are those that its lines run.
use Rattle.std.specs.Prelude.{◌≡◌, ℕ, ◌<◌, ◌==◌, ◌&&◌, Bool, false, List, if◌then◌else◌}
use Rattle.std.specs.List.{AllByRecursion}
use Rattle.lapd_clock.specs.InOrder.{IsInOrder}
use Rattle.lapd_clock.specs.Sound.{IsOneEach}
use Rattle.lapd_clock.specs.Timer.{Timer, is_same, Lengths}
use Rattle.lapd_clock.specs.Timers.{Expiry, is_before, is_held}
use Rattle.model_line.specs.Event as line
use Rattle.model_line.specs.Expiry.{is_running}
use Rattle.model_line.specs.Sound.{IsInRange}
use Rattle.model_line.specs.declared.config.Config.{Config}
use Rattle.model_card.specs.Card.{Card, line_at}
use Rattle.model_card.specs.Event.{Event}
use Rattle.model_card.specs.Reached.{AreTimed}
use Rattle.model_card.specs.Sound.{IsSound}
use Rattle.model_timed.specs.Clock.{Clock}
use Rattle.model_timed.specs.Timed.{Step, ArePrompt}
use Rattle.model_card.specs.ports.Event.{Event as OctetEvent}
use Rattle.model_timed.specs.Frames.{TimedCard, frames, fresh, after_all}
use Rattle.model_timed.specs.Octets.{TimedOctetCard, octets, fresh as octets_fresh, after_all as octets_after_all}

-- When an event is handed to a card, the timer that it says has expired runs no more at the clock, and the others run there as
-- they do at their lines.
abbrev pub left_at : line.Event → ℕ → ℕ → Timer → Bool → Bool
left_at (line.expiry expired) number other timer running = if number == other && is_same expired timer then false else running
left_at event number other timer running = running

abbrev pub left_by : Event → ℕ → Timer → Bool → Bool
left_by e line timer running = left_at e.what e.line line timer running

abbrev pub as_they_are : ℕ → Timer → Bool → Bool
as_they_are line timer running = running

-- Each timer of each line runs at the clock where it runs at the line, or is left so.
abbrev pub RunAs : (ℕ → Timer → Bool → Bool) → Card → Clock → Type 0
RunAs left card clock =
    (line : ℕ) (timer : Timer) → line < card.config.lines → is_held line timer clock.running ≡ left line timer (is_running timer (line_at line card))

-- With what a timed card may begin, by its card of frames, alone or inside one of octets, and by its clock: the card is sound,
-- and its timers are those of its states. At the clock each timer runs once, at a line of the card, in the order in which they
-- fall due, and those run that its lines run. So is a card that has just begun, and so may one be that is restored from what
-- was saved (profile).
pub record Stands (card : Card) (clock : Clock) : Type 0 where
  pub sound : IsSound card
  pub are_timed : AreTimed card
  pub in_order : IsInOrder is_before clock.running
  pub one_each : IsOneEach clock.running
  pub on_lines : AllByRecursion (λ (x : Expiry). x.line < card.config.lines) clock.running
  pub run : RunAs as_they_are card clock

-- After any steps that may happen, however late, a card that stood so does, whatever it began with.
abbrev pub TimersRunOn : Type 0
TimersRunOn = (late : ℕ) (steps : List (Step Event)) (t : TimedCard) → Stands t.card t.clock → ArePrompt frames late steps t
    → let u : TimedCard = after_all steps t in Stands u.card u.clock

abbrev pub OctetTimersRunOn : Type 0
OctetTimersRunOn = (late : ℕ) (steps : List (Step OctetEvent)) (t : TimedOctetCard) → Stands t.card.card t.clock → ArePrompt octets late steps t
    → let u : TimedOctetCard = octets_after_all steps t in Stands u.card.card u.clock

-- After any steps of a card of frames that may happen, however late, the same timers run at the clock and at the lines.
abbrev pub TimersRunTheSame : Type 0
TimersRunTheSame = (c : Config) (lengths : Lengths) (late : ℕ) (steps : List (Step Event)) → IsInRange c → ArePrompt frames late steps (fresh c lengths)
    → let t : TimedCard = after_all steps (fresh c lengths) in RunAs as_they_are t.card t.clock

-- And of one of octets.
abbrev pub OctetTimersRunTheSame : Type 0
OctetTimersRunTheSame = (c : Config) (lengths : Lengths) (late : ℕ) (steps : List (Step OctetEvent)) → IsInRange c → ArePrompt octets late steps (octets_fresh c lengths)
    → let t : TimedOctetCard = octets_after_all steps (octets_fresh c lengths) in RunAs as_they_are t.card.card t.clock
