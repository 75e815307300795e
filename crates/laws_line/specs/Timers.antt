-- The timers of a line: which are needed.
use Rattle.std.specs.Prelude.{ℕ, Bool, false, is_some}
use Rattle.std.specs.Option.{option_map_or}
use Rattle.lapd_frame.specs.declared.services.Service.{Service}
use Rattle.lapd_frame.specs.declared.timers.Timer.{Timer}
use Rattle.lapd_frame.specs.declared.timers.Timer.TheVariants.{T200, T203, T201, T202}
use Rattle.model_link.specs.declared.timers.LinkTimer.{LinkTimer}
use Rattle.model_link.specs.declared.timers.LinkTimer.TheVariants as link_timer
use Rattle.model_link.specs.Told.{runs}
use Rattle.laws_link.specs.two.Needed.{needed, HasItsTimer}
use Rattle.model_line.specs.Line.{Line, place_in, link_in, link_at}

-- A timer of a link is needed where the link's TEI is on the line, and its state needs it.
abbrev pub link_needs : LinkTimer → Service → Line → ℕ → Bool
link_needs timer service l place = runs timer (needed (link_in l service place))

abbrev pub needs_of : LinkTimer → Service → ℕ → Line → Bool
needs_of timer service tei l = option_map_or (link_needs timer service l) (place_in l tei) false

-- T201 is needed while a TEI is checked (Q.921 clause 5.3.3.2), and T202 while a terminal has a procedure (clauses 5.3.2 and
-- 5.3.5).
abbrev pub is_needed : Timer → Line → Bool
is_needed (T200 service tei) l = needs_of link_timer.T200 service tei l
is_needed (T203 service tei) l = needs_of link_timer.T203 service tei l
is_needed T201 l = is_some l.management.check
is_needed T202 l = is_some l.own.procedure

-- Each link of the line runs the timer that it needs.
pub record HaveTheirTimers (l : Line) : Type 0 where
  pub links : (number : ℕ) → HasItsTimer (link_at number l)
