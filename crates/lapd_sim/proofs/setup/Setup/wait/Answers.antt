-- Hand-written answers for `Setup::wait`.
use Rattle.lapd_sim.proofs.Vocabulary.{◌≡◌, ◌+◌, refl, subst, arith, le-leb, after_wait, last_moment, on, scene, until, Tells, SetupStands}
use Rattle.lapd_timed.proofs.Steps.{moment-is}
use Rattle.lapd_sim.proofs.Scenes.{is_over, obeyed}
use Rattle.lapd_sim.proofs.Waits.{in_time}
use Rattle.lapd_sim.proofs.setup.Setup.wait.Goals as goal

pub overflow_add-end : goal.overflow_add-end
overflow_add-end g c =
    let m = c.requires.stands in
    omega (arith, c.now.ensures, moment-is _ m.0.board.card.card m.0.clock m.1.timers.timed, in_time c.args.self.now m.0 m.1, c.from.ensures)

pub until-requires-clause-stands : goal.until-requires-clause-stands
until-requires-clause-stands g c =
    let m = c.requires.stands in
    (m.0, m.1, omega (arith, c.now.ensures, moment-is _ m.0.board.card.card m.0.clock m.1.timers.timed))

pub returns-then-end-gt-LAST_MOMENT : goal.returns-then-end-gt-LAST_MOMENT
returns-then-end-gt-LAST_MOMENT g c = λ m h.
    let milliseconds = c.args.milliseconds in
    (refl, rw (is_over (m.clock.now + milliseconds) last_moment (omega (arith, c.now.ensures, moment-is _ m.board.card.card m.clock h.timers.timed, c.from.ensures, c.if-end-gt-LAST_MOMENT.true))) refl)

pub returns : goal.returns
returns g c = λ m h.
    let milliseconds = c.args.milliseconds in
    let end : c.now.result + c.from.result ≡ m.clock.now + milliseconds = omega (arith, c.now.ensures, moment-is _ m.board.card.card m.clock h.timers.timed, c.from.ensures) in
    obeyed c.until.result _ c.written.ensures _ _ (SetupStands _) _ (after_wait milliseconds (scene m))
    (rw (le-leb (m.clock.now + milliseconds) last_moment (omega (arith, end, c.if-end-gt-LAST_MOMENT.false))) refl)
    (subst (λ n. Tells c.until.result (on g.T.Target.taken c.args.page.now) (on g.T.Target.taken c.until.new.page) (SetupStands c.until.new.self) (until n (scene m))) end (c.until.ensures m h))
