-- A timer is started where it runs, or at its place, or stopped where it runs.
use Rattle.std.proofs.Common.{◌∙◌, sym, ap, subst}
use Rattle.lapd_clock.specs.Timer.{Start}
use Rattle.lapd_clock.specs.OwnPlaces.{with_timer}
use Rattle.lapd_timed.specs.Stands.{held}
use Rattle.lapd_timed.proofs.Carried.{IsDone, restart-done, start-done, start-nowhere, stop-done, stop-nowhere}
use Rattle.lapd_timed.proofs.card_timers.CardTimers.carry_out.Goals as goal

pub returns-then-restart-clause-after : goal.returns-then-restart-clause-after
returns-then-restart-clause-after g c =
    subst (λ o. IsDone g.S.Shelf.store c.args.card.now (held c.args.self.now) c.args.line c.requires.line o (record (held c.args.self.now) { moments = c.restart.new.self })) (sym c.in-Start.is)
    (restart-done g.S.Shelf.store c.args.card.now (held c.args.self.now) c.args.line c.requires.line c.in-Start.timer c.of.result c.restart.new.self
    (c.restart.ensures.done c.if-restart.true) c.of.ensures.is c.args.self.now.in_time c.of.ensures.most)

pub returns-in-Some-clause-after : goal.returns-in-Some-clause-after
returns-in-Some-clause-after g c =
    subst (λ o. IsDone g.S.Shelf.store c.args.card.now (held c.args.self.now) c.args.line c.requires.line o (record (held c.args.self.now) { moments = c.start.new.self })) (sym c.in-Start.is)
    (start-done g.S.Shelf.store c.args.card.now (held c.args.self.now) c.args.line c.requires.line c.in-Start.timer c.in-Some.place c.of.result c.start.new.self
    c.in-Some.ensures.is c.of.ensures.is c.args.self.now.in_time c.of.ensures.most
    (c.start.ensures.after ∙ ap (with_timer c.in-Some.place c.in-Start.timer _) (c.restart.ensures.unchanged c.if-restart.false)))

pub returns-in_default-clause-after : goal.returns-in_default-clause-after
returns-in_default-clause-after g c =
    subst (λ o. IsDone g.S.Shelf.store c.args.card.now (held c.args.self.now) c.args.line c.requires.line o (record (held c.args.self.now) { moments = c.restart.new.self })) (sym c.in-Start.is)
    (subst (λ moments. IsDone g.S.Shelf.store c.args.card.now (held c.args.self.now) c.args.line c.requires.line (Start c.in-Start.timer) (record (held c.args.self.now) { moments = moments })) (sym (c.restart.ensures.unchanged c.if-restart.false))
    (start-nowhere g.S.Shelf.store c.args.card.now (held c.args.self.now) c.args.line c.requires.line c.in-Start.timer c.in_default.ensures.is))

pub returns-in-Some-running_place-clause-after : goal.returns-in-Some-running_place-clause-after
returns-in-Some-running_place-clause-after g c =
    subst (λ o. IsDone g.S.Shelf.store c.args.card.now (held c.args.self.now) c.args.line c.requires.line o (record (held c.args.self.now) { moments = c.stop.new.self })) (sym c.in-Stop.is)
    (stop-done g.S.Shelf.store c.args.card.now (held c.args.self.now) c.args.line c.requires.line c.in-Stop.timer c.in-Some-running_place.place c.stop.new.self
    c.in-Some-running_place.ensures.is c.stop.ensures.after)

pub returns-in_default-running_place-clause-after : goal.returns-in_default-running_place-clause-after
returns-in_default-running_place-clause-after g c =
    subst (λ o. IsDone g.S.Shelf.store c.args.card.now (held c.args.self.now) c.args.line c.requires.line o (held c.args.self.now)) (sym c.in-Stop.is)
    (stop-nowhere g.S.Shelf.store c.args.card.now (held c.args.self.now) c.args.line c.requires.line c.in-Stop.timer c.in_default-running_place.ensures.is)
