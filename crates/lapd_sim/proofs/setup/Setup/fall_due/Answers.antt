-- Hand-written answers for `Setup::fall_due`.
use Rattle.lapd_sim.proofs.Vocabulary.{◌≡◌, Some, None, refl, sym, subst, arith, option_map, SetupStands}
use Rattle.std.specs.Prelude.{max}
use Rattle.lapd_timed.specs.Places.{named_by}
use Rattle.lapd_timed.specs.Stands.{TimersStandIn}
use Rattle.lapd_timed.specs.declared.timed_card.TimedCard.{TimedCard}
use Rattle.lapd_timed.proofs.Steps.{moment-is}
use Rattle.model_timed.specs.Clock.{at_moment, due}
use Rattle.lapd_sim.proofs.Boards.{as_before}
use Rattle.lapd_sim.proofs.Falling.{falls_then, first_later, has_expired, none_if, none_runs}
use Rattle.lapd_sim.proofs.setup.Setup.fall_due.Goals as goal

pub returns-in_err-moment-clause-none : goal.returns-in_err-moment-clause-none
returns-in_err-moment-clause-none c = none_if c.from_residual.result c.from_residual.ensures (λ m h. (
  none_runs c.args.end m.clock (c.in_err-moment.ensures.next m.board.card.card m.clock h.timers.timed),
  as_before c.args.self.now _ refl c.next_moment.ensures.unchanged refl refl refl m h,
))

pub returns-then-moment-end-clause-none : goal.returns-then-moment-end-clause-none
returns-then-moment-end-clause-none c = λ m h. (
  first_later c.args.end c.in_ok-moment.moment m.clock (c.in_ok-moment.ensures.next m.board.card.card m.clock h.timers.timed) (omega (arith, c.if-moment-end.true)),
  as_before c.args.self.now _ refl c.next_moment.ensures.unchanged refl refl refl m h,
)

pub go_to-requires-clause-end : goal.go_to-requires-clause-end
go_to-requires-clause-end c =
    let m = c.requires.stands in
    let timers = subst (λ (t : TimedCard). TimersStandIn t.timers m.0.board.card.card m.0.clock) (sym c.next_moment.ensures.unchanged) m.1.timers.timed in
    omega (arith, c.requires.end, c.if-moment-end.false, c.now-now.ensures, moment-is _ m.0.board.card.card m.0.clock timers, m.2)

pub go_to-requires-clause-stands : goal.go_to-requires-clause-stands
go_to-requires-clause-stands c =
    let m = c.requires.stands in
    let timers = subst (λ (t : TimedCard). TimersStandIn t.timers m.0.board.card.card m.0.clock) (sym c.next_moment.ensures.unchanged) m.1.timers.timed in (
      m.0,
      as_before c.args.self.now _ refl c.next_moment.ensures.unchanged refl refl refl m.0 m.1,
      omega (arith, c.now-now.ensures, moment-is _ m.0.board.card.card m.0.clock timers),
    )

pub returns-in_err-line-clause-none : goal.returns-in_err-line-clause-none
returns-in_err-line-clause-none c = none_if c.from_residual-in_err-line.result c.from_residual-in_err-line.ensures (λ m h.
    let moment = c.in_ok-moment.moment in
    let timers = subst (λ (t : TimedCard). TimersStandIn t.timers m.board.card.card m.clock) (sym c.next_moment.ensures.unchanged) h.timers.timed in
    let now : c.now-now.result ≡ m.clock.now = omega (arith, c.now-now.ensures, moment-is _ m.board.card.card m.clock timers) in
    let max_is : c.max.result ≡ max m.clock.now moment = omega (arith, now) in
    let stands = c.go_to.ensures.after m (as_before c.args.self.now _ refl c.next_moment.ensures.unchanged refl refl refl m h) in
    absurd (falls_then c.args.end moment m.clock (c.in_ok-moment.ensures.next m.board.card.card m.clock h.timers.timed) (omega (arith, c.if-moment-end.false))
    (subst (λ n. None ≡ option_map named_by (due (at_moment n m.clock))) max_is (c.in_err-line.ensures.due m.board.card.card (at_moment c.max.result m.clock) stands.timers.timed))))

pub returns-clause-due : goal.returns-clause-due
returns-clause-due c = λ m h.
    let moment = c.in_ok-moment.moment in
    let timer = c.in_ok-line.field-0-1 in
    let timers = subst (λ (t : TimedCard). TimersStandIn t.timers m.board.card.card m.clock) (sym c.next_moment.ensures.unchanged) h.timers.timed in
    let now : c.now-now.result ≡ m.clock.now = omega (arith, c.now-now.ensures, moment-is _ m.board.card.card m.clock timers) in
    let max_is : c.max.result ≡ max m.clock.now moment = omega (arith, now) in
    let stands = c.go_to.ensures.after m (as_before c.args.self.now _ refl c.next_moment.ensures.unchanged refl refl refl m h) in
    has_expired c.args.self.now c.go_to.new.self _ c.args.end moment c.in_ok-line.line timer c.fall_due.new.report m (c.in_ok-moment.ensures.next m.board.card.card m.clock h.timers.timed)
    (omega (arith, c.if-moment-end.false)) (subst (λ n. SetupStands c.go_to.new.self (record m { clock = at_moment n m.clock })) max_is stands)
    (subst (λ n. Some (c.in_ok-line.line, timer) ≡ option_map named_by (due (at_moment n m.clock))) max_is (c.in_ok-line.ensures.due m.board.card.card (at_moment c.max.result m.clock) stands.timers.timed))
    c.in_ok-line.ensures.fell.called.answers c.in_ok-line.ensures.fell.called.leads c.fall_due.ensures.after refl refl refl refl
