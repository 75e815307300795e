-- What is promised of a list of events, from a card on.
use Rattle.std.specs.Prelude.{◌≡◌, ◌<◌, ℕ, List, All}
use Rattle.lapd_frame.specs.declared.timers.Timer.{Timer}
use Rattle.laws_line.specs.Timers.{is_needed}
use Rattle.model_card.specs.Card.{Card, line_at}
use Rattle.model_card.specs.Event.{Event}
use Rattle.model_card.specs.Run.{moments, after_all}
use Rattle.laws_line.specs.card.OneEvent.{IsOneEventIn}
use Rattle.laws_line.specs.card.Timers.{runs_at_callers}

-- In every moment one part of one line has one event, and all else is as it was.
abbrev pub HasOneEvent : Card → List Event → Type 0
HasOneEvent m events = All IsOneEventIn (moments m events)

-- A caller that runs exactly the timers that are needed before a run, and obeys, does so after it.
abbrev pub RunsWhatIsNeeded : Card → List Event → Type 0
RunsWhatIsNeeded m events =
    (line : ℕ) (timer : Timer) → line < m.config.lines →
    runs_at_callers line timer (is_needed timer (line_at line m)) (moments m events) ≡ is_needed timer (line_at line (after_all m events))
