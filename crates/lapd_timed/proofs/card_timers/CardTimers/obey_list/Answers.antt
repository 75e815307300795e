-- There is one order, which is carried out at once; or all are carried out.
use Rattle.std.proofs.Common.{◌∙◌, sym, ap, subst}
use Rattle.lapd_frame.specs.ShortLists.{listed}
use Rattle.model_card.specs.Machine.{after}
use Rattle.model_timed.specs.Clock.{obeyed}
use Rattle.lapd_timed.specs.Stands.{TimersStand}
use Rattle.lapd_timed.proofs.card_timers.CardTimers.obey_list.Goals as goal

pub returns-then-restart_alone-clause-after : goal.returns-then-restart_alone-clause-after
returns-then-restart_alone-clause-after g c = λ e m k led is left.
    subst (λ orders. TimersStand c.restart_alone.new.self (after e m) (obeyed c.args.line orders k)) (sym (ap listed c.in-One.is))
    (c.restart_alone.ensures.after c.if-restart_alone.true e m k led.line_is led.line_there (sym (ap listed c.in-One.is) ∙ is) left)
