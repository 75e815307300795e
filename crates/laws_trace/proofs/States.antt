-- The state of a link before and behind a moment, as `Card::state` tells it, and the timer of it that expires.
use Rattle.laws_trace.proofs.Vocabulary.{ℕ, ◌==◌, not, Bool, false, Option, Some, None, is_some, if◌then◌else◌, Service, LinkTimer, expiry, state_of, line_at, T200, T203, after, Moment, is_own, Event, TimerT203, TimerT200}

-- None where the TEI is not on the line.
abbrev pub state_before : Service → ℕ → ℕ → Moment → Option ℕ
state_before service tei number m = state_of service tei (line_at number m.card)

abbrev pub state_after : Service → ℕ → ℕ → Moment → Option ℕ
state_after service tei number m = state_of service tei (line_at number (after m.event m.card))

abbrev pub is_state : ℕ → Option ℕ → Bool
is_state n None = false
is_state n (Some state) = state == n

abbrev pub differ : Option ℕ → Option ℕ → Bool
differ None after = is_some after
differ (Some state) after = not (is_state state after)

abbrev pub expired_of : Service → ℕ → Event → Option LinkTimer
expired_of service tei (expiry (TimerT200 of by)) = if is_own service tei of by then Some T200 else None
expired_of service tei (expiry (TimerT203 of by)) = if is_own service tei of by then Some T203 else None
expired_of service tei other = None

abbrev pub one_more : LinkTimer → ℕ
one_more T200 = 1
one_more T203 = 0
