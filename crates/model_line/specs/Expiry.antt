-- A timer of a line expires.
use Rattle.std.specs.Prelude.{ℕ, Bool, false, Option, Some, None, is_some}
use Rattle.lapd_frame.specs.declared.services.Service.{Service}
use Rattle.lapd_frame.specs.declared.timers.Timer.{Timer}
use Rattle.lapd_frame.specs.declared.timers.Timer.TheVariants.{T200, T203, T201, T202}
use Rattle.model_link.specs.Events as link
use Rattle.model_link.specs.Told.{runs}
use Rattle.model_link.specs.declared.timers.LinkTimer.{LinkTimer}
use Rattle.model_link.specs.declared.timers.LinkTimer.TheVariants as link_timer
use Rattle.model_teis.specs.network.Events as teis
use Rattle.model_teis.specs.terminal.Events as terminals
use Rattle.model_line.specs.Event.{nothing}
use Rattle.model_line.specs.Line.{Line, link_in, place_in}
use Rattle.model_line.specs.Effect.{Aim, at_none, at_link, at_management, at_terminal}

-- What an expiry is to the line: that of a link's timer is one of the link, where its TEI is on the line, and that of
-- T201 or T202 one of TEI management. An expiry of a timer that does not run has no effect on either (profile).
abbrev pub at_timer : Service → ℕ → LinkTimer → Option ℕ → Aim
at_timer service tei timer None = at_none nothing
at_timer service tei timer (Some place) = at_link service tei place (link.expired timer)

abbrev pub aim_of_expiry : Timer → Line → Aim
aim_of_expiry (T200 service tei) l = at_timer service tei link_timer.T200 (place_in l tei)
aim_of_expiry (T203 service tei) l = at_timer service tei link_timer.T203 (place_in l tei)
aim_of_expiry T201 l = at_management teis.expiry
aim_of_expiry T202 l = at_terminal terminals.expiry

-- A link's timer runs where the link's TEI is on the line, and the link runs it. T201 runs while a TEI is checked, and T202 while a
-- terminal has a procedure.
abbrev pub runs_at : Service → LinkTimer → Option ℕ → Line → Bool
runs_at service timer None l = false
runs_at service timer (Some place) l = runs timer (link_in l service place).running

abbrev pub is_running : Timer → Line → Bool
is_running (T200 service tei) l = runs_at service link_timer.T200 (place_in l tei) l
is_running (T203 service tei) l = runs_at service link_timer.T203 (place_in l tei) l
is_running T201 l = is_some l.management.check
is_running T202 l = is_some l.own.procedure
