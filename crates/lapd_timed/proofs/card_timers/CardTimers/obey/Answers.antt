-- One order is carried out at once; or all are carried out.
use Rattle.std.proofs.Common.{sym, subst}
use Rattle.lapd_timed.specs.Stands.{AreLeft}
use Rattle.lapd_timed.proofs.card_timers.CardTimers.obey.Goals as goal

pub returns-then-not-restart_alone-clause-after : goal.returns-then-not-restart_alone-clause-after
returns-then-not-restart_alone-clause-after g c = λ e m k led is left.
    c.obey_more.ensures.after e m k led is (subst (λ timers. AreLeft e timers m k) (sym (c.restart_alone.ensures.unchanged c.if-not-restart_alone.true)) left)

pub returns-else-not-restart_alone-clause-after : goal.returns-else-not-restart_alone-clause-after
returns-else-not-restart_alone-clause-after g c = λ e m k led is left. c.restart_alone.ensures.after c.if-not-restart_alone.false e m k led.line_is led.line_there is left
